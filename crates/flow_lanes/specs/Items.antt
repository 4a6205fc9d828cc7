-- The items of a job: the streams that it completes, in order, and the packet.
--
-- A packet of a flow has these items, in this order: what is left of stretches that rules have ended with
-- the flow's last job; the streams of a session that ended before it; the streams that its acknowledgement
-- flushes; then, with its data added, the streams of a session that it ends; last the packet itself. At the
-- end of a flow come what is left, and the streams of the session at hand. Of two sides the client's
-- streams come first. This order is this project's own; what a session, an acknowledgement and a segment
-- are is said in RFC 9293, and what is a stream item in the Snort Users Manual 2.9, section 2.2.3.
-- To try it on: with the flush point 1, "ab" of the client and then an acknowledgement of it by the server
-- give two jobs: the first has the packet "ab", the second the stream "ab" and then the packet without data.
use Rattle.std.specs.Prelude.{ℕ, Bool, true, false, not, ◌&&◌, List, [], ◌∷◌, ◌++◌, Option, Some, None, map, option_map, unwrap_or, if◌then◌else◌}
use Rattle.std.specs.Option.{option_map_or}
use Rattle.edge_io.specs.declared.moment.Moment.{Moment}
use Rattle.packet_decode.specs.declared.item.ItemHead.{ItemHead}
use Rattle.packet_decode.specs.declared.item.ItemKind.TheVariants as kind
use Rattle.packet_decode.specs.declared.item.SessionFacts.{SessionFacts}
use Rattle.packet_decode.specs.declared.packet.Body.TheVariants as body
use Rattle.stream5_sessions.specs.declared.key.End.{End}
use Rattle.stream5_sessions.specs.declared.state.State.{State}
use Rattle.stream5_sessions.specs.declared.step.Step.{Step}
use Rattle.rule_eval.specs.declared.item.Item.{Item}
use Rattle.flow_lanes.specs.Engines.{Making}
use Rattle.flow_lanes.specs.Sessions.{Packet, FlowSession, ack_of, acked_side, after_ack, after_data, is_tcp, sending_side, seq_of, session_of, settled, sizes_of, state_of, step_of}
use Rattle.flow_lanes.specs.Sides.{SessionSide, acked_payloads, held_payloads, left_payloads, queues}

-- what the items of a job belong to: those of a session that has ended before the packet, or with the
-- flow; those of the packet's session, or the packet alone where it has none; and that session after the
-- job, if there is one then
pub record JobItems : Type 0 where
  pub ended : List Item
  pub current : List Item
  pub begun : Bool
  pub tracked : Bool
  pub session : Option FlowSession

-- Stream items.

-- what rules see of a stretch of the data that one end sends to another: the ends, the protocol (TCP is 6),
-- and the session
abbrev pub head_between : End → End → Bool → Moment → ℕ × ℕ → ItemHead
head_between from to of_client moment sizes = record {
  kind = kind.Stream;
  moment = moment;
  ip = record {
    src = from.addr;
    dst = to.addr;
    protocol = 6;
    ttl = 0;
    tos = 0;
    id = 0;
    reserved = false;
    dont = false;
    more = false;
    offset = 0;
  };
  body = body.Stream from.port to.port;
  session = record { tracked = true; established = true; from_client = Some of_client; sizes = Some sizes };
}

-- the head of a side's data, as a stream item has it
abbrev pub stream_head : SessionSide → Bool → Moment → ℕ × ℕ → ItemHead
stream_head side of_client moment sizes = head_between side.from side.to of_client moment sizes

-- the stream items of these payloads
abbrev pub stream_items : SessionSide → Bool → Moment → ℕ × ℕ → List (List ℕ) → List Item
stream_items side of_client moment sizes payloads =
    map (λ payload. record { head = stream_head side of_client moment sizes; payload = payload }) payloads

-- the stream items of both sides, the client's first
abbrev pub both_sides : (SessionSide → List (List ℕ)) → FlowSession → Moment → ℕ × ℕ → List Item
both_sides payloads session moment sizes =
    stream_items session.client true moment sizes (payloads session.client)
    ++ stream_items session.server false moment sizes (payloads session.server)

-- what is left of stretches that have ended
abbrev pub left_items : FlowSession → Moment → ℕ × ℕ → List Item
left_items = both_sides left_payloads

-- all that a session's sides still hold
abbrev pub held_items : FlowSession → Moment → ℕ × ℕ → List Item
held_items = both_sides held_payloads

-- the items of a session that has ended: they tell its last sizes
unfoldable pub closing_items : FlowSession → Moment → List Item
closing_items session moment =
    left_items session moment (sizes_of session) ++ held_items (settled session) moment (sizes_of session)

-- Items of a packet.

-- the session facts of a packet: sizes are told of a TCP session that is established
abbrev pub facts_of : Packet → Step → Option FlowSession → SessionFacts
facts_of p step after = record {
  tracked = step.tracked;
  established = step.established;
  from_client = step.from_client;
  sizes = (if is_tcp p.head.body && step.established then option_map sizes_of after else None);
}

-- the packet itself
abbrev pub packet_item : Packet → Step → Option FlowSession → Item
packet_item p step after = record { head = record (p.head) { session = facts_of p step after }; payload = p.payload }

-- the packet's data count, and are queued
abbrev pub is_queued : Packet → Step → Option FlowSession → Bool
is_queued p step None = false
is_queued p step (Some session) = step.takes_data && queues (sending_side step session) (seq_of p) p.payload

-- the packet, unless its data were queued and such packets are no items
abbrev pub own_items : Making → Packet → Step → Option FlowSession → Option FlowSession → List Item
own_items making p step session after =
    if is_queued p step session && not making.inserts then [] else packet_item p step after ∷ []

-- the streams that its acknowledgement flushes
abbrev pub acked_items : Packet → Step → FlowSession → ℕ × ℕ → List Item
acked_items p step session sizes =
    if step.counts_ack
    then stream_items (acked_side step session) (not (unwrap_or step.from_client true)) p.moment sizes
    (acked_payloads (acked_side step session) (ack_of p))
    else []

-- the session after the packet, and before an end
abbrev pub session_after : Packet → Step → Option FlowSession → Option FlowSession
session_after p step session = option_map (λ (s : FlowSession). after_data p step (after_ack p step s)) session

-- the items of the packet's own session, with the sizes after the packet: `found` is the session at hand
-- before it, `session` is its own before its acknowledgement and its data, `after` its own after them
abbrev pub session_items : Making → Packet → Step → Option FlowSession → Option FlowSession → Option FlowSession → List Item
session_items making p step found session after =
    let sizes : ℕ × ℕ = option_map_or sizes_of after (0, 0) in
    (if step.ended_before then [] else option_map_or (λ s. left_items s p.moment sizes) found [])
    ++ option_map_or (λ s. acked_items p step s sizes) session []
    ++ (if step.ends then option_map_or (λ s. held_items s p.moment sizes) after [] else [])
    ++ own_items making p step session after

-- the items of a packet, by what it tells of its session
abbrev pub items_told : Making → Packet → Option FlowSession → Step → State → JobItems
items_told making p found step state =
    let session : Option FlowSession = session_of making p found step state in
    let after : Option FlowSession = session_after p step session in
    record {
      ended = (if step.ended_before then option_map_or (λ s. closing_items s p.moment) found [] else []);
      current = session_items making p step found session after;
      begun = step.begun;
      tracked = step.tracked;
      session = (if step.ends then None else after);
    }

-- the items of a packet that finds this session
unfoldable pub packet_items : Making → Packet → Option FlowSession → JobItems
packet_items making p found = items_told making p found (step_of making p found) (state_of making p found)

-- the items at the end of a flow
unfoldable pub finish_items : Moment → Option FlowSession → JobItems
finish_items moment found = record {
  ended = option_map_or (λ s. closing_items s moment) found [];
  current = [];
  begun = false;
  tracked = false;
  session = None;
}

-- an item by itself: a fragment, or a packet of no flow
abbrev pub alone_items : ItemHead → List ℕ → JobItems
alone_items head payload = record {
  ended = [];
  current = record { head = head; payload = payload } ∷ [];
  begun = false;
  tracked = false;
  session = None;
}
