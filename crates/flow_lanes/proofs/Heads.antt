-- What holds of the heads of all jobs, and goes by their ends, holds of the heads of all items: these go between ends that
-- packets told.
use Rattle.std.proofs.Common.{◌≡◌, ℕ, Bool, true, false, List, [], ◌∷◌, ◌++◌, Option, Some, None, length, refl}
use Rattle.std.specs.Prelude.{◌&&◌, fold, if◌then◌else◌, not, unwrap_or, ⊤}
use Rattle.std.specs.List.{All}
use Rattle.std.specs.Option.{option_map, option_map_or}
use Rattle.std.proofs.lemmas.List.Elements.{All-append, All-cons, All-head, All-map, All-nil, All-tail}
use Rattle.edge_io.specs.declared.moment.Moment.{Moment}
use Rattle.packet_decode.specs.declared.item.ItemHead.{ItemHead}
use Rattle.packet_decode.specs.declared.packet.Body.{Body}
use Rattle.packet_decode.specs.declared.packet.IpHead.{IpHead}
use Rattle.rule_types.specs.declared.rule.Rule.{Rule}
use Rattle.stream5_sessions.specs.declared.key.End.{End}
use Rattle.stream5_sessions.specs.declared.state.State.{State}
use Rattle.stream5_sessions.specs.declared.step.Step.{Step}
use Rattle.stream5_sessions.specs.Phases.{segment_of}
use Rattle.rule_eval.specs.declared.item.Item.{Item}
use Rattle.rule_eval.specs.Hits.{Bits, Trying}
use Rattle.flow_lanes.specs.declared.answer.Hits.{Hits}
use Rattle.flow_lanes.specs.declared.job.Job.{Job}
use Rattle.flow_lanes.specs.declared.job.Work.{Work}
use Rattle.flow_lanes.specs.declared.job.Work.TheVariants as work
use Rattle.flow_lanes.specs.Engines.{Making}
use Rattle.flow_lanes.specs.Flows.{Detection, FlowState, bits_at_hand, bits_found, flow_state, hits, hits_in, session_at_hand, state_after, state_after_one, steered, work_items}
use Rattle.flow_lanes.specs.ItemHits.{bits_after_item, hit, hits_of}
use Rattle.flow_lanes.specs.Items.{JobItems, acked_items, both_sides, closing_items, finish_items, head_between, held_items}
use Rattle.flow_lanes.specs.Items.{is_queued, left_items, own_items, packet_items, packet_item, session_after, session_items}
use Rattle.flow_lanes.specs.Items.{stream_items}
use Rattle.flow_lanes.specs.Sessions.{Packet, FlowSession, ack_of, acked_side, after_ack, after_data, begun_session, client_end}
use Rattle.flow_lanes.specs.Sessions.{is_from_client, receiver, sender, seq_of, server_end, session_of, settled, sizes_of}
use Rattle.flow_lanes.specs.Sessions.{state_of, step_of, with_bases}
use Rattle.flow_lanes.specs.Sides.{SessionSide, acked_payloads, held_payloads, left_payloads, side_after_ack, side_after_data, with_base, without_left}

-- something holds of a head, and of what a job and an item have of heads
abbrev pub OfItemHead : (IpHead → Body → Type 0) → ItemHead → Type 0
OfItemHead OfHead head = OfHead head.ip head.body

abbrev pub OfWork : (IpHead → Body → Type 0) → Work → Type 0
OfWork OfHead (work.Alone head payload) = OfItemHead OfHead head
OfWork OfHead (work.Packet flow head payload to_dst to_src) = OfItemHead OfHead head
OfWork OfHead (work.Finish flow) = ⊤

abbrev pub OfJob : (IpHead → Body → Type 0) → Job → Type 0
OfJob OfHead job = OfWork OfHead job.work

abbrev pub OfHits : (IpHead → Body → Type 0) → Hits → Type 0
OfHits OfHead hits = OfItemHead OfHead hits.head

-- what holds of a head tells something of its two ends, which is so in both directions; and of which that is so, of them
-- it holds as of the ends of a stream
module _ (OfHead : IpHead → Body → Type 0) (OfEnds : End → End → Type 0) (turned_ends : (from to : End) → OfEnds from to → OfEnds to from)
    (told_ends : (ip : IpHead) (carried : Body) (len : ℕ) (moment : Moment) → OfHead ip carried → OfEnds (segment_of ip carried len moment).sender (segment_of ip carried len moment).receiver)
    (stream_head : (from to : End) (of_client : Bool) (moment : Moment) (sizes : ℕ × ℕ) → OfEnds from to → OfItemHead OfHead (head_between from to of_client moment sizes)) where
  -- a side, a session, and a session that may be there
  abbrev OfSide : SessionSide → Type 0
  OfSide side = OfEnds side.from side.to

  record OfSession (session : FlowSession) : Type 0 where
    client : OfSide session.client
    server : OfSide session.server

  abbrev OfMaybe : Option FlowSession → Type 0
  OfMaybe None = ⊤
  OfMaybe (Some session) = OfSession session

  -- an item by its head
  abbrev OfItem : Item → Type 0
  OfItem item = OfItemHead OfHead item.head

  -- ---- what happens to a side

  choose : (test : Bool) (a b : SessionSide) → OfSide a → OfSide b → OfSide (if test then a else b)
  choose true a b one other = one
  choose false a b one other = other

  based : (side : SessionSide) (base : Option ℕ) → OfSide side → OfSide (with_base side base)
  based side None has = has
  based side (Some seq) has = has

  left_without : (side : SessionSide) → OfSide side → OfSide (without_left side)
  left_without side has = choose side.on side _ has has

  acked : (side : SessionSide) (ack : ℕ) → OfSide side → OfSide (side_after_ack side ack)
  unfolding side_after_ack
  acked side ack has = choose _ _ side has has

  given : (side : SessionSide) (seq : ℕ) (bytes : List ℕ) → OfSide side → OfSide (side_after_data side seq bytes)
  unfolding side_after_data
  given side seq [] has = has
  given side seq (byte ∷ bytes) has = has

  -- ---- what happens to a session

  pick : (test : Bool) (a b : FlowSession) → OfSession a → OfSession b → OfSession (if test then a else b)
  pick true a b one other = one
  pick false a b one other = other

  based_session : (step : Step) (session : FlowSession) → OfSession session → OfSession (with_bases step session)
  based_session step session has = record {
    client = based session.client step.client_base has.client;
    server = based session.server step.server_base has.server;
  }

  settled_has : (session : FlowSession) → OfSession session → OfSession (settled session)
  settled_has session has = record { client = left_without session.client has.client; server = left_without session.server has.server }

  after_ack_has : (p : Packet) (step : Step) (session : FlowSession) → OfSession session → OfSession (after_ack p step session)
  unfolding after_ack
  after_ack_has p step session has =
      pick (not step.counts_ack) session _ has
      (pick (is_from_client step) (record session { server = side_after_ack session.server (ack_of p) }) (record session { client = side_after_ack session.client (ack_of p) })
      (record { client = has.client; server = acked session.server (ack_of p) has.server })
      (record { client = acked session.client (ack_of p) has.client; server = has.server }))

  after_data_has : (p : Packet) (step : Step) (session : FlowSession) → OfSession session → OfSession (after_data p step session)
  unfolding after_data
  after_data_has p step session has =
      pick (not step.takes_data) session _ has
      (pick (is_from_client step) (record session { client = side_after_data session.client (seq_of p) p.payload })
      (record session { server = side_after_data session.server (seq_of p) p.payload })
      (record { client = given session.client (seq_of p) p.payload has.client; server = has.server })
      (record { client = has.client; server = given session.server (seq_of p) p.payload has.server }))

  steered_has : (rules : List Rule) (items : List Hits) (session : FlowSession) → OfSession session → OfSession (steered rules items session)
  unfolding steered
  steered_has rules items session has = record { client = has.client; server = has.server }

  -- the client's end of a session and the server's, as a test tells them apart
  chosen : (test : Bool) (a b : End) → OfEnds a b → OfEnds (if test then a else b) (if test then b else a)
  chosen true a b ends = ends
  chosen false a b ends = turned_ends a b ends

  -- a session that it begins
  begun_has : (making : Making) (p : Packet) (step : Step) (state : State) → OfItemHead OfHead p.head → OfSession (begun_session making p step state)
  unfolding begun_session
  begun_has making p step state has =
      let ends = chosen (is_from_client step) (sender p) (receiver p) (told_ends p.head.ip p.head.body (length p.payload) p.moment has) in
      record { client = ends; server = turned_ends (client_end p step) (server_end p step) ends }

  pick_maybe : (test : Bool) (a b : Option FlowSession) → OfMaybe a → OfMaybe b → OfMaybe (if test then a else b)
  pick_maybe true a b one other = one
  pick_maybe false a b one other = other

  mapped : (f : FlowSession → FlowSession) (found : Option FlowSession) → ((session : FlowSession) → OfSession session → OfSession (f session)) → OfMaybe found
      → OfMaybe (option_map f found)
  mapped f None each has = tt
  mapped f (Some session) each has = each session has

  own_session : (making : Making) (p : Packet) (found : Option FlowSession) (step : Step) (state : State) → OfItemHead OfHead p.head → OfMaybe found
      → OfMaybe (session_of making p found step state)
  unfolding session_of
  own_session making p found step state head has =
      pick_maybe (not step.tracked) None _ tt
      (pick_maybe step.begun (Some (with_bases step (begun_session making p step state))) _
      (based_session step (begun_session making p step state) (begun_has making p step state head))
      (mapped (λ (session : FlowSession). with_bases step (record (settled session) { state = state })) found
      (λ session it. let settled_one = settled_has session it in
      based_session step (record (settled session) { state = state }) (record { client = settled_one.client; server = settled_one.server })) has))

  has_after_packet : (p : Packet) (step : Step) (session : Option FlowSession) → OfMaybe session → OfMaybe (session_after p step session)
  has_after_packet p step session has =
      mapped (λ (s : FlowSession). after_data p step (after_ack p step s)) session (λ s it. after_data_has p step (after_ack p step s) (after_ack_has p step s it)) has

  -- ---- items

  stream_has : (side : SessionSide) (of_client : Bool) (moment : Moment) (sizes : ℕ × ℕ) (payloads : List (List ℕ)) → OfSide side → All OfItem (stream_items side of_client moment sizes payloads)
  stream_has side of_client moment sizes payloads has =
      All-map OfItem (λ (payload : List ℕ). record { head = head_between side.from side.to of_client moment sizes; payload = payload }) payloads
      (λ k d lt. stream_head side.from side.to of_client moment sizes has)

  both_have : (payloads : SessionSide → List (List ℕ)) (session : FlowSession) (moment : Moment) (sizes : ℕ × ℕ) → OfSession session → All OfItem (both_sides payloads session moment sizes)
  both_have payloads session moment sizes has =
      All-append OfItem (stream_items session.client true moment sizes (payloads session.client)) (stream_items session.server false moment sizes (payloads session.server))
      (stream_has session.client true moment sizes (payloads session.client) has.client)
      (stream_has session.server false moment sizes (payloads session.server) has.server)

  closing_have : (session : FlowSession) (moment : Moment) → OfSession session → All OfItem (closing_items session moment)
  unfolding closing_items
  closing_have session moment has =
      All-append OfItem (left_items session moment (sizes_of session)) (held_items (settled session) moment (sizes_of session))
      (both_have left_payloads session moment (sizes_of session) has)
      (both_have held_payloads (settled session) moment (sizes_of session) (settled_has session has))

  -- the items of a session that may be there
  maybe_have : (f : FlowSession → List Item) (found : Option FlowSession) → ((session : FlowSession) → OfSession session → All OfItem (f session)) → OfMaybe found
      → All OfItem (option_map_or f found [])
  maybe_have f None each has = All-nil OfItem
  maybe_have f (Some session) each has = each session has

  pick_items : (test : Bool) (a b : List Item) → All OfItem a → All OfItem b → All OfItem (if test then a else b)
  pick_items true a b one other = one
  pick_items false a b one other = other

  acked_have : (p : Packet) (step : Step) (session : FlowSession) (sizes : ℕ × ℕ) → OfSession session → All OfItem (acked_items p step session sizes)
  acked_have p step session sizes has =
      pick_items step.counts_ack _ []
      (stream_has (acked_side step session) (not (unwrap_or step.from_client true)) p.moment sizes
      (acked_payloads (acked_side step session) (ack_of p))
      (choose (is_from_client step) session.server session.client has.server has.client))
      (All-nil OfItem)

  own_have : (making : Making) (p : Packet) (step : Step) (session after : Option FlowSession) → OfItemHead OfHead p.head → All OfItem (own_items making p step session after)
  own_have making p step session after has =
      pick_items (is_queued p step session && not making.inserts) [] (packet_item p step after ∷ []) (All-nil OfItem)
      (All-cons OfItem (packet_item p step after) []
      has (All-nil OfItem))

  session_have : (making : Making) (p : Packet) (step : Step) (found session after : Option FlowSession) → OfItemHead OfHead p.head → OfMaybe found → OfMaybe session → OfMaybe after
      → All OfItem (session_items making p step found session after)
  session_have making p step found session after head found_has session_has after_has =
      let sizes : ℕ × ℕ = option_map_or sizes_of after (0, 0) in
      let one : List Item =
      if step.ended_before then [] else option_map_or (λ (s : FlowSession). left_items s p.moment sizes) found [] in
      let two : List Item = option_map_or (λ (s : FlowSession). acked_items p step s sizes) session [] in
      let three : List Item = if step.ends then option_map_or (λ (s : FlowSession). held_items s p.moment sizes) after [] else [] in
      let four = own_items making p step session after in
      let first : All OfItem one =
      pick_items step.ended_before [] _ (All-nil OfItem)
      (maybe_have (λ (s : FlowSession). left_items s p.moment sizes) found
      (λ s it. both_have left_payloads s p.moment sizes it) found_has) in
      let second : All OfItem two =
      maybe_have (λ (s : FlowSession). acked_items p step s sizes) session (λ s it. acked_have p step s sizes it) session_has in
      let third : All OfItem three =
      pick_items step.ends _ []
      (maybe_have (λ (s : FlowSession). held_items s p.moment sizes) after
      (λ s it. both_have held_payloads s p.moment sizes it) after_has)
      (All-nil OfItem) in
      All-append OfItem (one ++ two ++ three) four
      (All-append OfItem (one ++ two) three (All-append OfItem one two first second) third)
      (own_have making p step session after head)

  -- the items of a job, and the session after it
  record OfItems (items : JobItems) : Type 0 where
    ended : All OfItem items.ended
    current : All OfItem items.current
    session : OfMaybe items.session

  packet_has : (making : Making) (p : Packet) (found : Option FlowSession) → OfItemHead OfHead p.head → OfMaybe found → OfItems (packet_items making p found)
  unfolding packet_items
  packet_has making p found head has =
      let step = step_of making p found in
      let state = state_of making p found in
      let session = session_of making p found step state in
      let session_has = own_session making p found step state head has in
      let after = session_after p step session in
      let after_has = has_after_packet p step session session_has in
      record {
        ended = pick_items step.ended_before _ [] (maybe_have (λ (s : FlowSession). closing_items s p.moment) found (λ s it. closing_have s p.moment it) has) (All-nil OfItem);
        current = session_have making p step found session after head has session_has after_has;
        session = pick_maybe step.ends None after tt after_has;
      }

  finish_has : (moment : Moment) (found : Option FlowSession) → OfMaybe found → OfItems (finish_items moment found)
  unfolding finish_items
  finish_has moment found has = record {
    ended = maybe_have (λ (s : FlowSession). closing_items s moment) found (λ s it. closing_have s moment it) has;
    current = All-nil OfItem;
    session = tt;
  }

  work_has : (making : Making) (moment : Moment) (todo : Work) (found : Option FlowSession) → OfWork OfHead todo → OfMaybe found → OfItems (work_items making moment todo found)
  work_has making moment (work.Alone head payload) found head_has has = record {
    ended = All-nil OfItem;
    current = All-cons OfItem (record { head = head; payload = payload }) [] head_has (All-nil OfItem);
    session = tt;
  }
  work_has making moment (work.Packet flow head payload to_dst to_src) found head_has has =
      packet_has making (record { head = head; payload = payload; moment = moment; to_dst = to_dst; to_src = to_src }) found head_has has
  work_has making moment (work.Finish flow) found head_has has = finish_has moment found has

  -- ---- jobs

  abbrev OfState : Option FlowState → Type 0
  OfState None = ⊤
  OfState (Some state) = OfSession state.session

  at_hand : (found : Option FlowState) → OfState found → OfMaybe (session_at_hand found)
  at_hand None has = tt
  at_hand (Some state) has = has

  state_by : (trying : Trying) (items : JobItems) (found : Option FlowState) (session : Option FlowSession) → items.session ≡ session → OfMaybe session
      → OfState (state_after trying items found)
  unfolding state_after
  state_by trying items found None is has = rw (state_after, is) tt
  state_by trying items found (Some session) is has =
      rw (state_after, is) (steered_has trying.rules (hits_of trying (bits_found items found) items.current) session has)

  state_has : (trying : Trying) (items : JobItems) (found : Option FlowState) → OfMaybe items.session → OfState (state_after trying items found)
  state_has trying items found has = state_by trying items found items.session refl has

  flow_has : (d : Detection) (found : Option FlowState) (jobs : List Job) → OfState found → All (OfJob OfHead) jobs → OfState (fold (state_after_one d) found jobs)
  unfolding state_after_one
  flow_has d found [] has all = has
  flow_has d found (job ∷ later) has all =
      let items = work_items d.making job.moment job.work (session_at_hand found) in
      let own = work_has d.making job.moment job.work (session_at_hand found) (All-head (OfJob OfHead) job later all) (at_hand found has) in
      flow_has d (state_after d.trying items found) later (state_has d.trying items found own.session) (All-tail (OfJob OfHead) job later all)

  hits_have : (trying : Trying) (bits : Option Bits) (items : List Item) → All OfItem items → All (OfHits OfHead) (hits_of trying bits items)
  unfolding hits_of
  hits_have trying bits [] all = All-nil (OfHits OfHead)
  hits_have trying bits (item ∷ later) all =
      All-cons (OfHits OfHead) (hit trying bits item) (hits_of trying (bits_after_item trying bits item) later) (All-head OfItem item later all)
      (hits_have trying (bits_after_item trying bits item) later (All-tail OfItem item later all))

  -- the heads of the items of a job, after the earlier jobs of its flow, have what the heads of all these jobs have
  pub items_have : (d : Detection) (earlier : List Job) (job : Job) → All (OfJob OfHead) earlier → OfJob OfHead job → All (OfHits OfHead) (hits d earlier job).items
  unfolding hits hits_in flow_state
  items_have d earlier job all own =
      let found = flow_state d earlier in
      let state : OfState found = flow_has d None earlier tt all in
      let items = work_items d.making job.moment job.work (session_at_hand found) in
      let fit = work_has d.making job.moment job.work (session_at_hand found) own (at_hand found state) in
      All-append (OfHits OfHead) (hits_of d.trying (bits_at_hand found) items.ended) (hits_of d.trying (bits_found items found) items.current)
      (hits_have d.trying (bits_at_hand found) items.ended fit.ended)
      (hits_have d.trying (bits_found items found) items.current fit.current)
