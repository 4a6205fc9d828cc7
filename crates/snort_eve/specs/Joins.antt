-- Events of Unified2, each with its packet.
--
-- A packet belongs to the event in front of it that has its sensor, its number and its second (Snort Users Manual
-- 2.9, "Unified2 Packet"). Own: only the first such packet is an event's own, and other records are passed over.
-- To try it on: of event 1, a packet of event 1, event 2, another packet of event 1, event 3 three events come,
-- the first with its packet.
use Rattle.std.specs.Prelude.{ℕ, ◌&&◌, ◌==◌, Bool, if◌then◌else◌, List, [], ◌∷◌, ◌++◌, Option, None, Some, flat_map}
use Rattle.unified2_out.specs.declared.record.U2Event.{U2Event}
use Rattle.unified2_out.specs.declared.record.U2Packet.{U2Packet}
use Rattle.unified2_out.specs.declared.record.U2.{U2}
use Rattle.unified2_out.specs.declared.record.U2.TheVariants.{Event, Packet, Other}

-- an event, and its packet where one follows it
pub record Joined : Type 0 where
  pub event : U2Event
  pub packet : Option U2Packet

-- an event without a packet, and with one
abbrev pub alone : U2Event → Joined
alone event = record { event = event; packet = None }

abbrev pub with : U2Event → U2Packet → Joined
with event packet = record { event = event; packet = Some packet }

-- the packet is of this event
unfoldable pub belongs : U2Event → U2Packet → Bool
belongs event packet =
    (event.sensor == packet.sensor) && ((event.id == packet.id) && (event.second == packet.event_second))

-- the event that waits for its packet behind a packet, and behind any record
unfoldable pub after_packet : Option U2Event → U2Packet → Option U2Event
after_packet None packet = None
after_packet (Some event) packet = if belongs event packet then None else Some event

unfoldable pub waiting : Option U2Event → U2 → Option U2Event
waiting held (Event event) = Some event
waiting held (Packet packet) = after_packet held packet
waiting held (Other kind bytes) = held

-- an event that waits for no packet
abbrev pub flushed : Option U2Event → List Joined
flushed None = []
flushed (Some event) = alone event ∷ []

-- the events that a packet completes, and those that any record does
unfoldable pub by_packet : Option U2Event → U2Packet → List Joined
by_packet None packet = []
by_packet (Some event) packet = if belongs event packet then with event packet ∷ [] else []

unfoldable pub completed : Option U2Event → U2 → List Joined
completed held (Event event) = flushed held
completed held (Packet packet) = by_packet held packet
completed held (Other kind bytes) = []

-- the event that waits behind records
abbrev pub held_after : Option U2Event → List U2 → Option U2Event
held_after held [] = held
held_after held (entry ∷ entries) = held_after (waiting held entry) entries

-- the events that records complete
abbrev pub completed_by : Option U2Event → List U2 → List Joined
completed_by held [] = []
completed_by held (entry ∷ entries) = completed held entry ++ completed_by (waiting held entry) entries

-- the events of records, each with its packet
abbrev pub joined : List U2 → List Joined
joined entries = completed_by None entries ++ flushed (held_after None entries)

-- an event and what follows it
abbrev pub joined_of : U2Event → Option U2Packet → Joined
joined_of event packet = record { event = event; packet = packet }

-- the lines of events
abbrev pub lines_of : (Joined → List ℕ) → List Joined → List ℕ
lines_of line events = flat_map line events
