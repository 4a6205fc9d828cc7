-- The items of a packet, step by step, are those of the definition.
-- The items of a packet, put together, are those of the definition.
use Rattle.std.proofs.Common.{◌≡◌, ℕ, Bool, true, false, not, cond, List, [], ◌∷◌, ◌++◌, length, Option, Some, None, unwrap_or, refl, sym, ap, subst, ◌∙◌, ◌&&◌, append_assoc}
use Rattle.std.proofs.lemmas.List.{append-nil}
use Rattle.std.specs.Prelude.{IfSome}
use Rattle.std.specs.Option.{option_map_or}
use Rattle.edge_io.specs.declared.moment.Moment.{Moment}
use Rattle.packet_decode.specs.declared.item.SessionFacts.{SessionFacts}
use Rattle.stream5_sessions.specs.declared.state.State.{State}
use Rattle.stream5_sessions.specs.declared.step.Step.{Step}
use Rattle.stream5_sessions.proofs.StepLaws.{session_step_tcp}
use Rattle.stream5_reassembly.specs.Segments.{ack_flushes, ack_place, flushed_to}
use Rattle.packet_decode.specs.declared.packet.Body.{Body}
use Rattle.packet_decode.specs.declared.packet.Body.TheVariants as body
use Rattle.stream5_sessions.specs.Phases.{IsBodyOf, segment_of}
use Rattle.rule_eval.specs.declared.item.Item.{Item}
use Rattle.flow_lanes.specs.declared.session.Stretches.{Stretches}
use Rattle.flow_lanes.specs.Engines.{Making}
use Rattle.flow_lanes.specs.Items.{acked_items, closing_items, facts_of, held_items, is_queued, left_items, own_items, session_after, stream_items}
use Rattle.flow_lanes.specs.Sessions.{Packet, FlowSession, ack_of, is_tcp, after_ack, after_data, is_from_client, seq_of, session_of, session_rules, settled, sizes_of, state_found, state_of}
use Rattle.flow_lanes.specs.Sound.{HasSessions}
use Rattle.flow_lanes.specs.Working.{HasNoneLeft, TellsLeft, TellsLeftAt, after_packet, item_with, items_on, maybe_items}
use Rattle.flow_lanes.specs.Working.{own_facts, own_item, sizes_after, streams_of, stretches_items, stretches_of, streams_told}
use Rattle.flow_lanes.specs.Sides.{SessionSide, acked_payloads, left_payloads, side_after_ack, side_after_data}

-- where nothing is left, no stretches tell it
pub none-told : (session : FlowSession) → HasNoneLeft session.client → HasNoneLeft session.server → TellsLeft session None
none-told session client server = λ moment sizes i.
    stream_items session.client true moment sizes (sym client.0 i) ++ stream_items session.server false moment sizes (sym server.0 i)

-- all stretches that are left of a session always tell what is left of it
pub all-told : (session : FlowSession) (left : Stretches) → left ≡ stretches_of left_payloads session → TellsLeft session (Some left)
all-told session left is = λ moment sizes. ap (stretches_items moment sizes) is

own-is : (b : Bool) (p : Packet) (facts : SessionFacts) → own_item p (cond b None (Some facts)) ≡ cond b [] (item_with p facts ∷ [])
own-is true p facts = refl
own-is false p facts = refl

pub state_of-tcp : (making : Making) (p : Packet) (found : Option FlowSession) → (state_of making p found).tcp ≡ (state_found p found).tcp
unfolding state_of
state_of-tcp making p found = session_step_tcp (state_found p found) (segment_of p.head.ip p.head.body (length p.payload) p.moment) (session_rules making p found)

-- a body of a protocol that has sessions is of TCP or not
of_protocol : (carried : Body) → HasSessions carried → IsBodyOf (is_tcp carried) carried
of_protocol (body.Tcp head) h = tt
of_protocol (body.Udp sport dport) h = tt
of_protocol _ h = absurd h

-- a packet of a flow is of the protocol of the session that it finds
pub body-of : (p : Packet) (found : Option FlowSession)
    → HasSessions p.head.body
    → IfSome found (λ (s : FlowSession). s.state.tcp ≡ is_tcp p.head.body)
    → IsBodyOf (state_found p found).tcp p.head.body
body-of p None has same = of_protocol p.head.body has
body-of p (Some session) has same = subst (λ (b : Bool). IsBodyOf b p.head.body) (sym same) (of_protocol p.head.body has)

-- the session that a packet finds is of the packet's protocol, also where there is none
pub state_found-tcp : (p : Packet) (found : Option FlowSession) → IfSome found (λ (s : FlowSession). s.state.tcp ≡ is_tcp p.head.body) → (state_found p found).tcp ≡ is_tcp p.head.body
state_found-tcp p None same = refl
state_found-tcp p (Some session) same = same

-- an acknowledgement and data touch different sides, so that the order of both is none
either_order : (b n m : Bool) (s : FlowSession) (f g : SessionSide → SessionSide)
    → (let t : FlowSession = cond m s (cond b (record s { client = g s.client }) (record s { server = g s.server })) in cond n t
    (cond b (record t { server = f t.server }) (record t { client = f t.client })))
    ≡ (let t : FlowSession = cond n s (cond b (record s { server = f s.server }) (record s { client = f s.client })) in cond m t
    (cond b (record t { client = g t.client }) (record t { server = g t.server })))
either_order true true true s f g = refl
either_order true true false s f g = refl
either_order true false true s f g = refl
either_order true false false s f g = refl
either_order false true true s f g = refl
either_order false true false s f g = refl
either_order false false true s f g = refl
either_order false false false s f g = refl

pub data_first : (p : Packet) (step : Step) (s : FlowSession) → after_ack p step (after_data p step s) ≡ after_packet p step s
unfolding after_ack after_data
data_first p step s = either_order (is_from_client step) (not step.counts_ack) (not step.takes_data) s (λ side. side_after_ack side (ack_of p)) (λ side. side_after_data side (seq_of p) p.payload)

other_side : (b m : Bool) (s : FlowSession) (x y : SessionSide)
    → (let t : FlowSession = cond m s (cond b (record s { client = x }) (record s { server = y })) in cond b t.server t.client) ≡ cond b s.server s.client
other_side true true s x y = refl
other_side true false s x y = refl
other_side false true s x y = refl
other_side false false s x y = refl

acked-same : (p : Packet) (step : Step) (s : FlowSession) (sizes : ℕ × ℕ) → acked_items p step (after_data p step s) sizes ≡ acked_items p step s sizes
unfolding after_data
acked-same p step s sizes =
    ap (λ (side : SessionSide). cond step.counts_ack (stream_items side (not (unwrap_or step.from_client true)) p.moment sizes (acked_payloads side (ack_of p))) [])
    (other_side (is_from_client step) (not step.takes_data) s (side_after_data s.client (seq_of p) p.payload) (side_after_data s.server (seq_of p) p.payload))

ack-extent : (side : SessionSide) (ack : ℕ) → (side_after_ack side ack).extent ≡ side.extent
unfolding side_after_ack
ack-extent side ack = by_case (ack_flushes side.direction ack)
  where
    by_case : (b : Bool) → (cond b (record side { direction = flushed_to side.direction (ack_place side.direction ack) }) side).extent ≡ side.extent
    by_case true = refl
    by_case false = refl

ack-sizes : (p : Packet) (step : Step) (s : FlowSession) → sizes_of (after_ack p step s) ≡ sizes_of s
unfolding after_ack
ack-sizes p step s = by_case (not step.counts_ack) (is_from_client step)
  where
    by_case : (n b : Bool) → sizes_of (cond n s (cond b (record s { server = side_after_ack s.server (ack_of p) }) (record s { client = side_after_ack s.client (ack_of p) }))) ≡ sizes_of s
    by_case true b = refl
    by_case false true = λ i. (s.client.extent.size, (ack-extent s.server (ack_of p) i).size)
    by_case false false = λ i. ((ack-extent s.client (ack_of p) i).size, s.server.extent.size)

-- the sizes are those after the data, before the acknowledgement as after it
pub sizes-are : (p : Packet) (step : Step) (s : FlowSession) → sizes_of (after_data p step s) ≡ sizes_of (after_packet p step s)
sizes-are p step s = sym (ack-sizes p step (after_data p step s)) ∙ ap sizes_of (data_first p step s)

-- the streams of the packet's session
pub streams-are : (p : Packet) (step : Step) (left : Option Stretches) (s t u : FlowSession) (sizes : ℕ × ℕ) (old one two new : List Item)
    → t ≡ after_data p step s → sizes ≡ sizes_of t → one ≡ old ++ maybe_items p.moment sizes left
    → two ≡ one ++ acked_items p step t sizes → u ≡ after_ack p step t → new ≡ two ++ cond step.ends (held_items u p.moment sizes) []
    → new ≡ old ++ streams_told p step left s
streams-are p step left s t u sizes old one two new taken sizes_is first second ack third =
    let after : u ≡ after_packet p step s = ack ∙ ap (after_ack p step) taken ∙ data_first p step s in
    let told : sizes ≡ sizes_of (after_packet p step s) = sizes_is ∙ ap sizes_of taken ∙ sizes-are p step s in
    let L : ℕ × ℕ → List Item = λ z. maybe_items p.moment z left in
    let A : ℕ × ℕ → List Item = λ z. acked_items p step s z in
    let H : ℕ × ℕ → List Item = λ z. cond step.ends (held_items (after_packet p step s) p.moment z) [] in
    let acked : acked_items p step t sizes ≡ A sizes = ap (λ (x : FlowSession). acked_items p step x sizes) taken ∙ acked-same p step s sizes in
    third
    ∙ (λ i. (second ∙ (λ j. first j ++ acked j)) i ++ cond step.ends (held_items (after i) p.moment sizes) [])
    ∙ (λ i. ((old ++ L (told i)) ++ A (told i)) ++ H (told i))
    ∙ three old (L (sizes_of (after_packet p step s))) (A (sizes_of (after_packet p step s))) (H (sizes_of (after_packet p step s)))
  where
    three : (a b c d : List Item) → ((a ++ b) ++ c) ++ d ≡ a ++ ((b ++ c) ++ d)
    three a b c d = simp append_assoc

-- the items of a session that has ended
pub closing-is : (session next : FlowSession) (moment : Moment) (sizes : ℕ × ℕ) (left : Option Stretches) (old one new : List Item) → sizes ≡ sizes_of session → TellsLeft session left
    → next ≡ settled session → one ≡ old ++ maybe_items moment sizes left → new ≡ one ++ held_items next moment sizes → new ≡ old ++ closing_items session moment
unfolding closing_items
closing-is session next moment sizes left old one new sizes_are left_is next_is first second =
    second
    ∙ (λ i. (first ∙ (λ j. old ++ (left_is moment sizes ∙ ap (λ (z : ℕ × ℕ). left_items session moment z) sizes_are) j)) i ++ held_items (next_is i) moment (sizes_are i))
    ∙ append_assoc old (left_items session moment (sizes_of session)) (held_items (settled session) moment (sizes_of session))

-- the streams of the packet's session, and then the packet
streams_on : Packet → Step → Option FlowSession → Option FlowSession → List Item
streams_on p step found session =
    let after : Option FlowSession = session_after p step session in
    let sizes : ℕ × ℕ = sizes_after after in
    option_map_or (λ s. left_items s p.moment sizes) found []
    ++ option_map_or (λ s. acked_items p step s sizes) session []
    ++ (cond step.ends (option_map_or (λ s. held_items s p.moment sizes) after []) [])

streams-on : (p : Packet) (step : Step) (found session : Option FlowSession) (left : Option Stretches) → TellsLeftAt found left → streams_of p step left session ≡ streams_on p step found session
unfolding streams_on
streams-on p step found None left told = told p.moment (0, 0) ∙ sym (append-nil _) ∙ sym (append-nil _) ∙ none step.ends
  where
    none : (b : Bool) → (option_map_or (λ s. left_items s p.moment (0, 0)) found [] ++ []) ++ [] ≡ (option_map_or (λ s. left_items s p.moment (0, 0)) found [] ++ []) ++ cond b [] []
    none true = refl
    none false = refl
streams-on p step found (Some s) left told =
    let sizes : ℕ × ℕ = sizes_of (after_packet p step s) in
    ap (λ (xs : List Item). (xs ++ acked_items p step s sizes) ++ cond step.ends (held_items (after_packet p step s) p.moment sizes) []) (told p.moment sizes)

pub items-on : (making : Making) (p : Packet) (step : Step) (state : State) (found session : Option FlowSession)
    (left : Option Stretches) (queued : Bool) (own : Option SessionFacts) (old new : List Item)
    → TellsLeftAt found left
    → session ≡ session_of making p found step state
    → new ≡ old ++ streams_of p step left session
    → queued ≡ is_queued p step session
    → own ≡ own_facts making.inserts p step queued (session_after p step session)
    → new ++ own_item p own ≡ old ++ items_on making p step state found
unfolding streams_on
items-on making p step state found session left queued own old new left_is session_is pushed queued_is own_is =
    let after : Option FlowSession = session_after p step session in
    let own_are : own_item p own ≡ own_items making p step session after =
    ap (own_item p) own_is ∙ ap (λ (q : Bool). own_item p (own_facts making.inserts p step q after)) queued_is ∙ own-is (is_queued p step session && not making.inserts) p (facts_of p step after) in
    (λ i. (pushed ∙ ap (λ (xs : List Item). old ++ xs) (streams-on p step found session left left_is)) i ++ own_are i)
    ∙ append_assoc old (streams_on p step found session) (own_items making p step session after)
    ∙ ap (λ (s : Option FlowSession). old ++ (streams_on p step found s ++ own_items making p step s (session_after p step s))) session_is
