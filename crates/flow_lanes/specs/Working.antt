-- What is done on the way from a packet to its items, step by step on the session as it is.
--
-- To try it on: a stretch "ab" from 10.0.0.1 port 1000 to 10.0.0.2 port 80 gives the item "ab" of that head.
use Rattle.std.specs.Prelude.{◌≡◌, ℕ, Bool, true, false, not, ◌&&◌, List, [], ◌∷◌, ◌++◌, Option, Some, None, map, if◌then◌else◌}
use Rattle.std.specs.Option.{option_map_or}
use Rattle.edge_io.specs.declared.moment.Moment.{Moment}
use Rattle.packet_decode.specs.declared.item.SessionFacts.{SessionFacts}
use Rattle.stream5_sessions.specs.declared.state.State.{State}
use Rattle.stream5_sessions.specs.declared.step.Step.{Step}
use Rattle.rule_eval.specs.declared.item.Item.{Item}
use Rattle.flow_lanes.specs.declared.cutting.Stretch.{Stretch}
use Rattle.flow_lanes.specs.declared.session.Stretches.{Stretches}
use Rattle.flow_lanes.specs.Engines.{Making}
use Rattle.flow_lanes.specs.Items.{acked_items, closing_items, facts_of, head_between, held_items, left_items, own_items, session_after}
use Rattle.flow_lanes.specs.Sessions.{Packet, FlowSession, after_ack, after_data, session_of, sizes_of}
use Rattle.flow_lanes.specs.Sides.{SessionSide, left_payloads, without_left}

-- one side of a session: the client's, or the server's
abbrev pub side_of : Bool → FlowSession → SessionSide
side_of of_client session = if of_client then session.client else session.server

abbrev pub with_side : Bool → SessionSide → FlowSession → FlowSession
with_side of_client side session = if of_client then record session { client = side } else record session { server = side }

-- payloads of a side's data
abbrev pub stretch_of : SessionSide → List (List ℕ) → Stretch
stretch_of side payloads = record { from = side.from; to = side.to; payloads = payloads }

-- stretches of payloads of both sides of a session
abbrev pub stretches_of : (SessionSide → List (List ℕ)) → FlowSession → Stretches
stretches_of payloads session = record {
  client = stretch_of session.client (payloads session.client);
  server = stretch_of session.server (payloads session.server);
}

-- the stream items of a stretch
abbrev pub stretch_items : Bool → Moment → ℕ × ℕ → Stretch → List Item
stretch_items of_client moment sizes stretch =
    map (λ payload. record { head = head_between stretch.from stretch.to of_client moment sizes; payload = payload })
    stretch.payloads

-- the stream items of the stretches of both sides, the client's first
abbrev pub stretches_items : Moment → ℕ × ℕ → Stretches → List Item
stretches_items moment sizes both = stretch_items true moment sizes both.client ++ stretch_items false moment sizes both.server

-- the stream items of stretches, if there are any
abbrev pub maybe_items : Moment → ℕ × ℕ → Option Stretches → List Item
maybe_items moment sizes both = option_map_or (stretches_items moment sizes) both []

-- nothing is left of a stretch of this side that has ended, and none is taken
abbrev pub HasNoneLeft : SessionSide → Type 0
HasNoneLeft side = (left_payloads side ≡ []) × (without_left side ≡ side)

-- these stretches give the items of what is left of a session's stretches that have ended
abbrev pub TellsLeft : FlowSession → Option Stretches → Type 0
TellsLeft session left = (moment : Moment) (sizes : ℕ × ℕ) → maybe_items moment sizes left ≡ left_items session moment sizes

-- these stretches give the items of what is left of the session at hand, if there is one
abbrev pub TellsLeftAt : Option FlowSession → Option Stretches → Type 0
TellsLeftAt found left =
    (moment : Moment) (sizes : ℕ × ℕ) → maybe_items moment sizes left ≡ option_map_or (λ s. left_items s moment sizes) found []

-- how far the data of a session reach, if there is one
abbrev pub sizes_after : Option FlowSession → ℕ × ℕ
sizes_after after = option_map_or sizes_of after (0, 0)

-- the session after a packet's acknowledgement and its data
abbrev pub after_packet : Packet → Step → FlowSession → FlowSession
after_packet p step session = after_data p step (after_ack p step session)

-- the streams of the packet's session, where this was left before
abbrev pub streams_told : Packet → Step → Option Stretches → FlowSession → List Item
streams_told p step left session =
    let after : FlowSession = after_packet p step session in
    maybe_items p.moment (sizes_of after) left
    ++ acked_items p step session (sizes_of after)
    ++ (if step.ends then held_items after p.moment (sizes_of after) else [])

-- the streams of the packet's session, if it has one
abbrev pub streams_of : Packet → Step → Option Stretches → Option FlowSession → List Item
streams_of p step left None = maybe_items p.moment (0, 0) left
streams_of p step left (Some session) = streams_told p step left session

-- the session facts of the packet's own item, unless its data were queued and such packets are no items
abbrev pub own_facts : Bool → Packet → Step → Bool → Option FlowSession → Option SessionFacts
own_facts inserts p step queued after = if queued && not inserts then None else Some (facts_of p step after)

-- the packet with these facts of its session
abbrev pub item_with : Packet → SessionFacts → Item
item_with p facts = record { head = record (p.head) { session = facts }; payload = p.payload }

-- the packet's own item
abbrev pub own_item : Packet → Option SessionFacts → List Item
own_item p None = []
own_item p (Some facts) = item_with p facts ∷ []

-- the items of a session that ended before the packet, if one did
abbrev pub ended_items : Moment → Bool → Option FlowSession → List Item
ended_items moment ended found = if ended then option_map_or (λ s. closing_items s moment) found [] else []

-- the session at hand, unless it ended before the packet
abbrev pub unless_ended : {A : Type 0} → Bool → Option A → Option A
unless_ended ended found = if ended then None else found

-- the items of the packet's session, which goes on from this one or begins
abbrev pub items_on : Making → Packet → Step → State → Option FlowSession → List Item
items_on making p step state found =
    let session : Option FlowSession = session_of making p found step state in
    let after : Option FlowSession = session_after p step session in
    let sizes : ℕ × ℕ = sizes_after after in
    option_map_or (λ s. left_items s p.moment sizes) found []
    ++ option_map_or (λ s. acked_items p step s sizes) session []
    ++ (if step.ends then option_map_or (λ s. held_items s p.moment sizes) after [] else [])
    ++ own_items making p step session after
