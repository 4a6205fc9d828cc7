-- The payloads of stream items are short: those of each flush, and so those of a whole job.
use Rattle.std.proofs.Common.{◌≡◌, ℕ, ◌+◌, ◌-◌, ◌*◌, ◌/◌, ◌≤◌, Bool, true, false, not, ◌&&◌, cond, List, [], ◌∷◌, ◌++◌, length}
use Rattle.std.proofs.Common.{take, drop, Option, Some, None, unwrap_or, IsSome, arith, refl, sym, ◌∙◌}
use Rattle.std.specs.Prelude.{All}
use Rattle.std.specs.List.{filter, flat_map, range_with_len}
use Rattle.std.specs.Option.{option_map_or}
use Rattle.std.proofs.lemmas.Bool.{cond_both, false≢true}
use Rattle.std.proofs.lemmas.List.{length-take}
use Rattle.std.proofs.lemmas.List.Elements.{All-append, All-cons, All-head, All-map, All-nil, All-tail}
use Rattle.edge_io.specs.declared.moment.Moment.{Moment}
use Rattle.edge_io.specs.Along.{within}
use Rattle.packet_decode.specs.declared.packet.Body.{Body}
use Rattle.packet_decode.specs.declared.packet.Body.TheVariants as body
use Rattle.stream5_sessions.specs.declared.state.State.{State}
use Rattle.stream5_sessions.specs.declared.step.Step.{Step}
use Rattle.stream5_reassembly.specs.Segments.{DirectionState, ack_flushes, ack_place, top}
use Rattle.rule_eval.specs.declared.item.Item.{Item}
use Rattle.flow_lanes.specs.Engines.{Making}
use Rattle.flow_lanes.specs.Items.{acked_items, both_sides, closing_items, finish_items, held_items, is_queued, items_told}
use Rattle.flow_lanes.specs.Items.{left_items, own_items, packet_item, packet_items, session_after, session_items, stream_items}
use Rattle.flow_lanes.specs.declared.job.Job.{Job}
use Rattle.flow_lanes.specs.declared.job.Work.{Work}
use Rattle.flow_lanes.specs.declared.job.Work.TheVariants as work
use Rattle.flow_lanes.specs.Flows.{Detection, all_items, flow_of_work, flow_state, items, same_flow, session_at_hand, work_items}
use Rattle.flow_lanes.specs.Sessions.{Packet, FlowSession, ack_of, acked_side, session_of, settled, sizes_of, state_of, step_of}
use Rattle.flow_lanes.specs.Sides.{SessionSide, acked_payloads, held_payloads, left_payloads}
use Rattle.flow_lanes.specs.Sound.{FlowFacts, HasSessions, IsSoundFor, IsSoundWork}
use Rattle.flow_lanes.specs.LanesAfter.{AreShort, is_stretch}
use Rattle.flow_lanes.specs.Streams.{flushed_payloads, item_size, parts_of, runs_of, places_below}

-- a front of `most` bytes has no more
front_short : (most : ℕ) (bytes : List ℕ) → length (take most bytes) ≤ most
front_short most bytes = let here = length-take most bytes in first_of (omega arith, grind (arith), search (arith, here))

-- bytes that are cut into parts of `most` at most
pub parts_of-short : (most : ℕ) (bytes : List ℕ) → All (λ part. length part ≤ most) (parts_of most bytes)
unfolding parts_of
parts_of-short most bytes = All-map (λ part. length part ≤ most) (λ part. take most (drop (part * most) bytes)) (range_with_len 0 ((length bytes + (most - 1)) / most)) (λ k d lt. front_short most _)

-- a payload is short
abbrev IsShort : List ℕ → Type 0
IsShort payload = length payload ≤ item_size

cut_short : (runs : List (List ℕ)) → All IsShort (flat_map (parts_of item_size) runs)
cut_short [] = All-nil IsShort
cut_short (run ∷ runs) = All-append IsShort (parts_of item_size run) (flat_map (parts_of item_size) runs) (parts_of-short item_size run) (cut_short runs)

flushed_short : (direction : DirectionState) (to : ℕ) → All IsShort (flushed_payloads direction to)
unfolding flushed_payloads
flushed_short direction to = cut_short (runs_of (places_below direction to))

acked_short : (side : SessionSide) (ack : ℕ) → All IsShort (acked_payloads side ack)
unfolding acked_payloads
acked_short side ack =
    cond_both (ack_flushes side.direction ack) (flushed_payloads side.direction (ack_place side.direction ack)) [] (All IsShort)
    (λ is. flushed_short side.direction (ack_place side.direction ack)) (λ is. All-nil IsShort)

held_short : (side : SessionSide) → All IsShort (held_payloads side)
unfolding held_payloads
held_short side = flushed_short side.direction (top side.direction)

left_short : (side : SessionSide) → All IsShort (left_payloads side)
left_short side = cond_both side.on [] (held_payloads side) (All IsShort) (λ is. All-nil IsShort) (λ is. held_short side)

-- an item is short, if it is a stretch of a stream
abbrev IsShortItem : Item → Type 0
IsShortItem item = is_stretch item.head.body ≡ true → length item.payload ≤ item_size

abbrev AllShort : List Item → Type 0
AllShort items = All IsShortItem items

none_short : AllShort []
none_short = All-nil IsShortItem

both_short : (xs ys : List Item) → AllShort xs → AllShort ys → AllShort (xs ++ ys)
both_short xs ys = All-append IsShortItem xs ys

if_short : (b : Bool) (xs ys : List Item) → AllShort xs → AllShort ys → AllShort (cond b xs ys)
if_short true xs ys of_xs of_ys = of_xs
if_short false xs ys of_xs of_ys = of_ys

of_some_short : {A : Type 0} (items : A → List Item) → ((x : A) → AllShort (items x)) → (found : Option A) → AllShort (option_map_or items found [])
of_some_short items each None = none_short
of_some_short items each (Some x) = each x

streams_short : (side : SessionSide) (of_client : Bool) (moment : Moment) (sizes : ℕ × ℕ) (payloads : List (List ℕ))
    → All IsShort payloads
    → AllShort (stream_items side of_client moment sizes payloads)
streams_short side of_client moment sizes [] h = none_short
streams_short side of_client moment sizes (payload ∷ payloads) h =
    All-cons IsShortItem _ (stream_items side of_client moment sizes payloads)
    (λ is. All-head IsShort payload payloads h)
    (streams_short side of_client moment sizes payloads (All-tail IsShort payload payloads h))

sides_short : (payloads : SessionSide → List (List ℕ))
    → ((side : SessionSide) → All IsShort (payloads side))
    → (session : FlowSession) (moment : Moment) (sizes : ℕ × ℕ)
    → AllShort (both_sides payloads session moment sizes)
sides_short payloads each session moment sizes =
    both_short (stream_items session.client true moment sizes (payloads session.client)) (stream_items session.server false moment sizes (payloads session.server))
    (streams_short session.client true moment sizes (payloads session.client) (each session.client))
    (streams_short session.server false moment sizes (payloads session.server) (each session.server))

closing_short : (session : FlowSession) (moment : Moment) → AllShort (closing_items session moment)
unfolding closing_items
closing_short session moment =
    both_short (left_items session moment (sizes_of session)) (held_items (settled session) moment (sizes_of session))
    (sides_short left_payloads left_short session moment (sizes_of session)) (sides_short held_payloads held_short (settled session) moment (sizes_of session))

acked_items_short : (p : Packet) (step : Step) (session : FlowSession) (sizes : ℕ × ℕ) → AllShort (acked_items p step session sizes)
acked_items_short p step session sizes =
    if_short step.counts_ack
    (stream_items (acked_side step session) (not (unwrap_or step.from_client true)) p.moment sizes
    (acked_payloads (acked_side step session) (ack_of p)))
    []
    (streams_short (acked_side step session) (not (unwrap_or step.from_client true)) p.moment sizes
    (acked_payloads (acked_side step session) (ack_of p))
    (acked_short (acked_side step session) (ack_of p)))
    none_short

-- a packet of a flow is no stretch
no_stretch : (carried : Body) → HasSessions carried → is_stretch carried ≡ false
no_stretch (body.Tcp head) has = refl
no_stretch (body.Udp sport dport) has = refl
no_stretch _ has = absurd has

own_short : (making : Making) (p : Packet) (step : Step) (session after : Option FlowSession) → HasSessions p.head.body → AllShort (own_items making p step session after)
own_short making p step session after has =
    if_short (is_queued p step session && not making.inserts) [] (packet_item p step after ∷ []) none_short
    (All-cons IsShortItem (packet_item p step after) [] (λ is. absurd (false≢true (sym (no_stretch p.head.body has) ∙ is))) none_short)

session_short : (making : Making) (p : Packet) (step : Step) (found session after : Option FlowSession) → HasSessions p.head.body → AllShort (session_items making p step found session after)
session_short making p step found session after has =
    let sizes : ℕ × ℕ = option_map_or sizes_of after (0, 0) in
    let left =
    if_short step.ended_before [] (option_map_or (λ s. left_items s p.moment sizes) found []) none_short
    (of_some_short (λ s. left_items s p.moment sizes) (λ s. sides_short left_payloads left_short s p.moment sizes) found) in
    let acked = of_some_short (λ s. acked_items p step s sizes) (λ s. acked_items_short p step s sizes) session in
    let held =
    if_short step.ends (option_map_or (λ s. held_items s p.moment sizes) after []) []
    (of_some_short (λ s. held_items s p.moment sizes) (λ s. sides_short held_payloads held_short s p.moment sizes) after)
    none_short in
    both_short _ _ (both_short _ _ (both_short _ _ left acked) held) (own_short making p step session after has)

told_short : (making : Making) (p : Packet) (found : Option FlowSession) (step : Step) (state : State) → HasSessions p.head.body → AllShort (all_items (items_told making p found step state))
told_short making p found step state has =
    both_short _ _
    (if_short step.ended_before (option_map_or (λ s. closing_items s p.moment) found []) [] (of_some_short (λ s. closing_items s p.moment) (λ s. closing_short s p.moment) found) none_short)
    (session_short making p step found (session_of making p found step state) (session_after p step (session_of making p found step state)) has)

-- the items of a packet's job, and of a flow's end, are short
pub packet_short : (making : Making) (p : Packet) (found : Option FlowSession) → HasSessions p.head.body → AllShort (all_items (packet_items making p found))
unfolding packet_items
packet_short making p found has = told_short making p found (step_of making p found) (state_of making p found) has

pub finish_short : (moment : Moment) (found : Option FlowSession) → AllShort (all_items (finish_items moment found))
unfolding finish_items
finish_short moment found = both_short _ _ (of_some_short (λ s. closing_items s moment) (λ s. closing_short s moment) found) none_short

work_short : (making : Making) (engines : ℕ) (facts : Option FlowFacts) (moment : Moment) (w : Work) (found : Option FlowSession)
    → IsSoundWork engines facts moment w
    → IsSome (flow_of_work w)
    → AllShort (all_items (work_items making moment w found))
work_short making engines facts moment (work.Alone head payload) found sound some = absurd (false≢true some)
work_short making engines facts moment (work.Packet flow head payload to_dst to_src) found sound some =
    packet_short making (record { head = head; payload = payload; moment = moment; to_dst = to_dst; to_src = to_src }) found sound.protocol
work_short making engines facts moment (work.Finish flow) found sound some = finish_short moment found

-- the stream items of a sound job of a flow are short
pub job_short : (d : Detection) (engines : ℕ) (facts : Option FlowFacts) (before : List Job) (job : Job) → IsSoundFor engines facts job → AreShort job (within same_flow (items d) before job)
unfolding items
job_short d engines facts before job sound = λ some. work_short d.making engines facts job.moment job.work (session_at_hand (flow_state d (filter (same_flow job) before))) sound some
