-- What the items of a job leave of the session at hand.
--
-- It is the same whether all items are told, or those alone that a rule matches.
-- To try it on: the items of a session that ended see its bits to the last one, and those of a session that
-- the packet begins see none of them.
use Rattle.std.specs.Prelude.{◌≡◌, Bool, List, Option, Some, None, option_map, unwrap_or, if◌then◌else◌}
use Rattle.std.specs.FinSet.{empty}
use Rattle.stream5_sessions.specs.declared.state.State.{State}
use Rattle.stream5_sessions.specs.declared.step.Step.{Step}
use Rattle.rule_eval.specs.declared.item.Item.{Item}
use Rattle.rule_eval.specs.Hits.{Bits, Trying}
use Rattle.flow_lanes.specs.Engines.{Making}
use Rattle.flow_lanes.specs.Flows.{FlowState, bits_at_hand, session_at_hand, state_after, steered}
use Rattle.flow_lanes.specs.ItemHits.{bits_after_items, hits_of}
use Rattle.flow_lanes.specs.Items.{packet_items, session_after}
use Rattle.flow_lanes.specs.Sessions.{Packet, FlowSession, session_of, state_of}
use Rattle.flow_lanes.specs.Tried.{Gain, of_job, of_session}
use Rattle.flow_lanes.specs.Working.{items_on}

-- a session after items that found these bits: as their rules ask, and with the bits that they leave
abbrev pub after_items : Trying → Option Bits → List Item → FlowSession → FlowState
after_items trying bits items session = record {
  session = steered trying.rules (hits_of trying bits items) session;
  bits = unwrap_or (bits_after_items trying bits items) empty;
}

-- the bits that the items of the session at hand find
abbrev pub bits_now : Bool → Option FlowState → Option Bits
bits_now tracked found = if tracked then Some (unwrap_or (bits_at_hand found) empty) else None

-- the session at hand is then as the rules of its items ask, unless it ends
abbrev pub Settles : Trying → List Item → Step → Option FlowState → Option FlowState → Type 0
Settles trying items step old new =
    new ≡ option_map (after_items trying (bits_now step.tracked old) items) (if step.ends then None else session_at_hand old)

-- the bits that the items of the packet's session find, where this one was at hand before it
abbrev pub bits_on : Step → Option FlowState → Option Bits
bits_on step found = if step.tracked then Some (if step.begun then empty else unwrap_or (bits_at_hand found) empty) else None

-- what is gained of the packet's session, which begins or goes on from this one
abbrev pub gain_on : Making → Packet → Step → State → Option FlowState → Gain
gain_on making p step state old = of_session (bits_on step old) (items_on making p step state (session_at_hand old))

-- the packet's session begins, or goes on from this one: what it is then
abbrev pub GoesOn : Trying → Making → Packet → Step → State → Option FlowState → Option FlowState → Type 0
GoesOn trying making p step state old new =
    new ≡ option_map (after_items trying (bits_on step old) (items_on making p step state (session_at_hand old)))
    (if step.ends then None else session_after p step (session_of making p (session_at_hand old) step state))

-- what is gained of a packet that leaves the session at hand as it is
abbrev pub gain_at : Making → Packet → Step → Option FlowState → Gain
gain_at making p step before = gain_on making p step (state_of making p (session_at_hand before)) before

abbrev pub GoesAt : Trying → Making → Packet → Step → Option FlowState → Option FlowState → Type 0
GoesAt trying making p step before new = GoesOn trying making p step (state_of making p (session_at_hand before)) before new

-- what is gained of a packet of a flow, and what its next job finds
abbrev pub gain_of : Making → Packet → Option FlowState → Gain
gain_of making p found = of_job (packet_items making p (session_at_hand found)) found

abbrev pub Leaves : Trying → Making → Packet → Option FlowState → Option FlowState → Type 0
Leaves trying making p found new = new ≡ state_after trying (packet_items making p (session_at_hand found)) found
