-- What holds of a flow that is kept, and what its jobs find of it.
--
-- To try it on: after two packets of a flow, no side of its session reaches further than 2 * 2^31 places.
use Rattle.std.specs.Prelude.{◌≡◌, ℕ, ◌+◌, ◌*◌, ◌^◌, ◌≤◌, ◌==◌, Bool, List, Option, IfSome, if◌then◌else◌}
use Rattle.std.specs.Map.{lookup}
use Rattle.std.specs.Option.{option_map_or}
use Rattle.flow_lanes.specs.declared.keeping.Flow.TheInside.{Inside}
use Rattle.flow_lanes.specs.Flows.{FlowState, session_at_hand}
use Rattle.flow_lanes.specs.Reach.{IsWithin}
use Rattle.flow_lanes.specs.Sessions.{Packet, FlowSession}
use Rattle.flow_lanes.specs.Sound.{FlowFacts, ends_of}
use Rattle.flow_lanes.specs.LanesAfter.{KeptFlow}

-- the session, if there is one, is of this protocol
abbrev pub IsOf : Bool → Option FlowSession → Type 0
IsOf tcp found = IfSome found (λ (session : FlowSession). session.state.tcp ≡ tcp)

-- the session, if there is one, is of this protocol and reaches `places` places at most
pub record IsFound (tcp : Bool) (places : ℕ) (found : Option FlowSession) : Type 0 where
  pub same : IsOf tcp found
  pub within : IsWithin found places

-- the session of a flow is of the flow's protocol, and has come no further than the flow's packets allow
pub record IsKeptBy (facts : FlowFacts) (found : Option FlowSession) : Type 0 where
  pub few : facts.packets ≤ 2 ^ 32
  pub kept : IsFound facts.ends.key.tcp (facts.packets * 2 ^ 31) found

abbrev pub IsKept : Inside → Type 0
IsKept flow = IsKeptBy flow.facts (session_at_hand flow.found)

-- a flow's session stays of its protocol and comes no further; or it comes as far as one packet allows
abbrev pub KeepsFound : Option FlowState → Option FlowState → Type 0
KeepsFound old new =
    (tcp : Bool) (places : ℕ) → IsFound tcp places (session_at_hand old) → IsFound tcp places (session_at_hand new)

abbrev pub GrowsFound : Option FlowState → Option FlowState → Type 0
GrowsFound old new =
    (tcp : Bool) (places : ℕ) → IsFound tcp places (session_at_hand old) → IsFound tcp (places + 2 ^ 31) (session_at_hand new)

-- what is known of a flow after one more of its packets
abbrev pub facts_after_packet : Packet → Option FlowFacts → FlowFacts
facts_after_packet p facts = record { ends = ends_of p; packets = option_map_or (λ (f : FlowFacts). f.packets + 1) facts 1 }

-- what is kept of a flow among these
abbrev pub kept_in : List (ℕ × KeptFlow) → ℕ → Option KeptFlow
kept_in flows flow = lookup (λ other. other == flow) flows

-- of this flow this is kept, of all others what was
abbrev pub Sets : ℕ → Option KeptFlow → List (ℕ × KeptFlow) → List (ℕ × KeptFlow) → Type 0
Sets flow kept old new = (other : ℕ) → kept_in new other ≡ (if other == flow then kept else kept_in old other)
