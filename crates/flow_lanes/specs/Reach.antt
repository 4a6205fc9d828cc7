-- How far the data of a session and its bases have come.
--
-- A packet moves each of them by at most 2^31 places. A flow has fewer than 2^32 packets, so none passes
-- 2^63.
-- To try it on: after the first packet of a flow, no side's size is above 2147483648.
use Rattle.std.specs.Prelude.{ℕ, ◌+◌, ◌^◌, ◌≤◌, Bool, Option, IfSome, if◌then◌else◌}
use Rattle.stream5_reassembly.specs.Segments.{passed}
use Rattle.flow_lanes.specs.Sessions.{FlowSession}
use Rattle.flow_lanes.specs.Sides.{SessionSide}

-- a side's base has moved by at most this many places, and its size is at most as much
pub record Reaches (side : SessionSide) (places : ℕ) : Type 0 where
  pub base : passed side.direction ≤ places
  pub size : side.extent.size ≤ places

-- one packet has done its part with a side
abbrev pub Grows : SessionSide → SessionSide → Type 0
Grows old new = (places : ℕ) → Reaches old places → Reaches new (places + 2 ^ 31)

-- a side has come no further
abbrev pub Keeps : SessionSide → SessionSide → Type 0
Keeps old new = (places : ℕ) → Reaches old places → Reaches new places

-- the client's side reaches so far, and the server's side so far
pub record AreWithin (session : FlowSession) (most_client most_server : ℕ) : Type 0 where
  pub client : Reaches session.client most_client
  pub server : Reaches session.server most_server

-- a session, if there is one, of which both sides reach so far
abbrev pub IsWithin : Option FlowSession → ℕ → Type 0
IsWithin found places = IfSome found (λ (session : FlowSession). AreWithin session places places)

-- neither side of a session comes further
abbrev pub KeepsWithin : FlowSession → FlowSession → Type 0
KeepsWithin old new = (client server : ℕ) → AreWithin old client server → AreWithin new client server

-- one side alone comes further: the client's, or the server's
abbrev pub GrowsOne : Bool → FlowSession → FlowSession → Type 0
GrowsOne of_client old new = (client server : ℕ) → AreWithin old client server
    → AreWithin new (if of_client then client + 2 ^ 31 else client) (if of_client then server else server + 2 ^ 31)
