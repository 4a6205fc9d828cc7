-- What the session of a flow holds stays within the limits of the engines, job by job; a session that isn't of TCP holds
-- nothing.
use Rattle.std.proofs.Common.{◌≡◌, ℕ, Bool, true, false, cond, not, ◌||◌, List, [], ◌∷◌, Option, Some, None, fold, length, unwrap_or, refl, sym, ap, ◌∙◌}
use Rattle.std.specs.Prelude.{IfSome}
use Rattle.std.specs.FinSet.{empty}
use Rattle.std.specs.List.{All}
use Rattle.std.specs.Option.{option_map}
use Rattle.std.proofs.lemmas.Bool.{false≢true}
use Rattle.std.proofs.lemmas.List.Elements.{All-head, All-tail}
use Rattle.edge_io.specs.declared.moment.Moment.{Moment}
use Rattle.stream5_sessions.specs.declared.key.End.{End}
use Rattle.stream5_sessions.specs.declared.state.State.{State}
use Rattle.stream5_sessions.specs.declared.step.Step.{Step}
use Rattle.stream5_sessions.specs.Keys.{same_end}
use Rattle.stream5_sessions.specs.Phases.{segment_of}
use Rattle.stream5_sessions.proofs.StepLaws.{IsQuiet, session_step_quiet}
use Rattle.stream5_reassembly.specs.Segments.{idle}
use Rattle.flow_lanes.specs.declared.answer.Hits.{Hits}
use Rattle.flow_lanes.specs.declared.job.Job.{Job}
use Rattle.flow_lanes.specs.declared.job.Toward.{Toward}
use Rattle.flow_lanes.specs.declared.job.Work.{Work}
use Rattle.flow_lanes.specs.declared.job.Work.TheVariants as work
use Rattle.flow_lanes.specs.Engines.{Making, limits_to}
use Rattle.flow_lanes.specs.Flows.{Detection, FlowState, bits_found, session_at_hand, state_after, state_after_one, steered, work_items}
use Rattle.flow_lanes.specs.Holding.{IsLimited, IsLimitedJob, IsLimitedWork, seen_after}
use Rattle.flow_lanes.specs.ItemHits.{bits_after_items, hits_of}
use Rattle.flow_lanes.specs.Items.{JobItems, finish_items, packet_items, session_after}
use Rattle.flow_lanes.specs.Sessions.{Packet, FlowSession, ack_of, after_ack, after_data, begun_session, client_at_begin, client_end}
use Rattle.flow_lanes.specs.Sessions.{is_from_client, is_tcp, receiver, seq_of, server_at_begin, server_end, session_of}
use Rattle.flow_lanes.specs.Sessions.{session_rules, settled, state_found, state_of, step_of, toward, with_bases}
use Rattle.flow_lanes.specs.Sides.{side_after_ack, side_after_data, without_left}
use Rattle.flow_lanes.specs.Sound.{FlowFacts, facts_after_one}
use Rattle.flow_lanes.specs.LanesAfter.{KeptFlow, facts_kept, kept_after_one, state_kept}
use Rattle.flow_lanes.proofs.Sessions.ItemsOn.{state_of-tcp}
use Rattle.flow_lanes.proofs.Held.Sides.{IsFew, IsIdle, few-idle, idle-base, idle-left, side-ack, side-base, side-data, side-left}

-- of a session that isn't of TCP neither data nor acknowledgements count, and no base is set
quiet-step : (making : Making) (p : Packet) (found : Option FlowSession) → (state_found p found).tcp ≡ false → IsQuiet (step_of making p found)
unfolding step_of
quiet-step making p found plain =
    session_step_quiet (state_found p found) (segment_of p.head.ip p.head.body (length p.payload) p.moment) (session_rules making p found) plain

-- ---- a session

-- both sides of a session are within the limits; where it isn't of TCP they hold nothing, and where it is, TCP was seen
pub record HoldsFew (bytes segs : ℕ) (session : FlowSession) (seen : Bool) : Type 0 where
  pub client : IsFew bytes segs session.client.direction
  pub server : IsFew bytes segs session.server.direction
  pub plain : session.state.tcp ≡ false → IsIdle session.client.direction × IsIdle session.server.direction
  pub known : session.state.tcp ≡ true → seen ≡ true

some-map : {A B : Type 0} (f : A → B) (P : B → Type 0) (o : Option A) → IfSome o (λ a. P (f a)) → IfSome (option_map f o) P
some-map f P None h = tt
some-map f P (Some a) h = h

some-then : {A : Type 0} (P Q : A → Type 0) (o : Option A) → ((a : A) → P a → Q a) → IfSome o P → IfSome o Q
some-then P Q None go h = tt
some-then P Q (Some a) go h = go a h

or-left : (a b : Bool) → a ≡ true → (a || b) ≡ true
or-left true b is = refl
or-left false b is = absurd (false≢true is)

or-right : (a b : Bool) → b ≡ true → (a || b) ≡ true
or-right true b is = refl
or-right false b is = is

module _ (making : Making) (bytes segs : ℕ) where
  abbrev HoldsSession : Option FlowSession → Bool → Type 0
  HoldsSession found seen = IfSome found (λ (s : FlowSession). HoldsFew bytes segs s seen)

  abbrev pub HoldsState : Option FlowState → Bool → Type 0
  HoldsState found seen = IfSome found (λ (s : FlowState). HoldsFew bytes segs s.session seen)

  limited-toward : (p : Packet) (end : End) → IsLimited making bytes segs p.to_dst → IsLimited making bytes segs p.to_src → IsLimited making bytes segs (toward p end)
  limited-toward p end dst src = by (same_end end (receiver p))
    where
      by : (b : Bool) → IsLimited making bytes segs (cond b p.to_dst p.to_src)
      by true = dst
      by false = src

  few-toward : (to : Toward) → IsLimited making bytes segs to → IsFew bytes segs (idle (limits_to making to.engine) to.preference)
  few-toward to limited = few-idle bytes segs (limits_to making to.engine) to.preference limited.bytes_few limited.segs_few

  module _ (p : Packet) (dst : IsLimited making bytes segs p.to_dst) (src : IsLimited making bytes segs p.to_src) where
    -- a session that the packet begins
    begun-few : (step : Step) (state : State) (seen : Bool) → (state.tcp ≡ false → IsQuiet step) → (state.tcp ≡ true → seen ≡ true)
        → HoldsFew bytes segs (with_bases step (begun_session making p step state)) seen
    unfolding begun_session
    begun-few step state seen quiet known =
        let client = client_at_begin making p (client_end p step) (server_end p step) in
        let server = server_at_begin making p (client_end p step) (server_end p step) in
        record {
          client = side-base bytes segs client step.client_base (few-toward (toward p (server_end p step)) (limited-toward p (server_end p step) dst src));
          server = side-base bytes segs server step.server_base (few-toward (toward p (client_end p step)) (limited-toward p (client_end p step) dst src));
          plain = λ off. (idle-base client step.client_base (quiet off).client refl, idle-base server step.server_base (quiet off).server refl);
          known = known;
        }

    -- one that goes on
    gone-few : (step : Step) (state : State) (session : FlowSession) (was seen : Bool) → HoldsFew bytes segs session was → state.tcp ≡ session.state.tcp
        → (state.tcp ≡ false → IsQuiet step) → (state.tcp ≡ true → seen ≡ true)
        → HoldsFew bytes segs (with_bases step (record (settled session) { state = state })) seen
    gone-few step state session was seen few same quiet known = record {
      client = side-base bytes segs (without_left session.client) step.client_base (side-left bytes segs session.client few.client);
      server = side-base bytes segs (without_left session.server) step.server_base (side-left bytes segs session.server few.server);
      plain = λ off.
          let none = few.plain (sym same ∙ off) in (
            idle-base (without_left session.client) step.client_base (quiet off).client (idle-left session.client none.0),
            idle-base (without_left session.server) step.server_base (quiet off).server (idle-left session.server none.1),
          );
      known = known;
    }

    ack-few : (step : Step) (s : FlowSession) (seen : Bool) → HoldsFew bytes segs s seen → (s.state.tcp ≡ false → IsQuiet step) → HoldsFew bytes segs (after_ack p step s) seen
    unfolding after_ack
    ack-few step s seen few quiet = by step.counts_ack refl (is_from_client step)
      where
        by : (b : Bool) → step.counts_ack ≡ b → (c : Bool)
            → HoldsFew bytes segs (cond (not b) s (cond c (record s { server = side_after_ack s.server (ack_of p) }) (record s { client = side_after_ack s.client (ack_of p) }))) seen
        by false is c = few
        by true is true = record {
          client = few.client;
          server = side-ack bytes segs s.server (ack_of p) few.server;
          plain = λ off. absurd (false≢true (sym (quiet off).acks ∙ is));
          known = few.known;
        }
        by true is false = record {
          client = side-ack bytes segs s.client (ack_of p) few.client;
          server = few.server;
          plain = λ off. absurd (false≢true (sym (quiet off).acks ∙ is));
          known = few.known;
        }

    ack-state : (step : Step) (s : FlowSession) → (after_ack p step s).state ≡ s.state
    unfolding after_ack
    ack-state step s = by step.counts_ack (is_from_client step)
      where
        by : (b c : Bool) → (cond (not b) s (cond c (record s { server = side_after_ack s.server (ack_of p) }) (record s { client = side_after_ack s.client (ack_of p) }))).state ≡ s.state
        by false c = refl
        by true true = refl
        by true false = refl

    data-few : (step : Step) (s : FlowSession) (seen : Bool) → HoldsFew bytes segs s seen → (s.state.tcp ≡ false → IsQuiet step) → HoldsFew bytes segs (after_data p step s) seen
    unfolding after_data
    data-few step s seen few quiet = by step.takes_data refl (is_from_client step)
      where
        by : (b : Bool)
            → step.takes_data ≡ b
            → (c : Bool)
            → HoldsFew bytes segs
            (cond (not b) s
            (cond c (record s { client = side_after_data s.client (seq_of p) p.payload })
            (record s { server = side_after_data s.server (seq_of p) p.payload })))
            seen
        by false is c = few
        by true is true = record {
          client = side-data bytes segs s.client (seq_of p) p.payload few.client;
          server = few.server;
          plain = λ off. absurd (false≢true (sym (quiet off).carries ∙ is));
          known = few.known;
        }
        by true is false = record {
          client = few.client;
          server = side-data bytes segs s.server (seq_of p) p.payload few.server;
          plain = λ off. absurd (false≢true (sym (quiet off).carries ∙ is));
          known = few.known;
        }

    -- the session of the packet, after its acknowledgement and its data
    abbrev Goes : Step → Bool → FlowSession → Type 0
    Goes step seen s = HoldsFew bytes segs s seen × (s.state.tcp ≡ false → IsQuiet step)

    after-few : (step : Step) (seen : Bool) (s : FlowSession) → Goes step seen s → HoldsFew bytes segs (after_data p step (after_ack p step s)) seen
    after-few step seen s h =
        data-few step (after_ack p step s) seen (ack-few step s seen h.0 h.1)
        (λ off. h.1 (ap (λ (state : State). state.tcp) (sym (ack-state step s)) ∙ off))

    session-few : (found : Option FlowSession) (was : Bool) → HoldsSession found was
        → IfSome (session_of making p found (step_of making p found) (state_of making p found)) (Goes (step_of making p found) (was || is_tcp p.head.body))
    unfolding session_of begun_session
    session-few found was holds = by (not step.tracked) step.begun
      where
        step : Step
        step = step_of making p found

        state : State
        state = state_of making p found

        same : state.tcp ≡ (state_found p found).tcp
        same = state_of-tcp making p found

        quiet : state.tcp ≡ false → IsQuiet step
        quiet off = quiet-step making p found (sym same ∙ off)

        seen : Bool
        seen = was || is_tcp p.head.body

        known_of : (o : Option FlowSession) → HoldsSession o was → (state_found p o).tcp ≡ true → seen ≡ true
        known_of None h is = or-right was (is_tcp p.head.body) is
        known_of (Some session) h is = or-left was (is_tcp p.head.body) (h.known is)

        known : state.tcp ≡ true → seen ≡ true
        known is = known_of found holds (sym same ∙ is)

        go_on : (o : Option FlowSession) → HoldsSession o was → state.tcp ≡ (state_found p o).tcp
            → IfSome (option_map (λ (session : FlowSession). with_bases step (record (settled session) { state = state })) o) (Goes step seen)
        go_on None h is = tt
        go_on (Some session) h is = (gone-few step state session was seen h is quiet known, quiet)

        by : (a b : Bool) → IfSome (cond a None (cond b (Some (with_bases step (begun_session making p step state)))
            (option_map (λ (session : FlowSession). with_bases step (record (settled session) { state = state })) found))) (Goes step seen)
        by true b = tt
        by false true = (begun-few step state seen quiet known, quiet)
        by false false = go_on found holds same

    packet-few : (found : Option FlowSession) (was : Bool) → HoldsSession found was → HoldsSession (packet_items making p found).session (was || is_tcp p.head.body)
    unfolding packet_items
    packet-few found was holds = by step.ends
      where
        step : Step
        step = step_of making p found

        seen : Bool
        seen = was || is_tcp p.head.body

        own : Option FlowSession
        own = session_of making p found step (state_of making p found)

        by : (b : Bool) → HoldsSession (cond b None (session_after p step own)) seen
        by true = tt
        by false =
            some-map (λ (s : FlowSession). after_data p step (after_ack p step s)) (λ (s : FlowSession). HoldsFew bytes segs s seen) own
            (some-then (Goes step seen) (λ (s : FlowSession). HoldsFew bytes segs (after_data p step (after_ack p step s)) seen) own (after-few step seen) (session-few found was holds))

  -- ---- jobs

  at_hand-few : (found : Option FlowState) (seen : Bool) → HoldsState found seen → HoldsSession (session_at_hand found) seen
  at_hand-few None seen holds = tt
  at_hand-few (Some s) seen holds = holds

  items-few : (moment : Moment) (w : Work) (found : Option FlowSession) (was : Bool) → IsLimitedWork making bytes segs w → HoldsSession found was
      → HoldsSession (work_items making moment w found).session (seen_after was w)
  unfolding finish_items
  items-few moment (work.Alone head payload) found was limited holds = tt
  items-few moment (work.Packet flow head payload to_dst to_src) found was limited holds =
      packet-few (record { head = head; payload = payload; moment = moment; to_dst = to_dst; to_src = to_src }) limited.0 limited.1 found was holds
  items-few moment (work.Finish flow) found was limited holds = tt

module _ (d : Detection) (bytes segs : ℕ) where
  steered-few : (hits : List Hits) (s : FlowSession) (seen : Bool) → HoldsFew bytes segs s seen → HoldsFew bytes segs (steered d.trying.rules hits s) seen
  unfolding steered
  steered-few hits s seen few = record { client = few.client; server = few.server; plain = few.plain; known = few.known }

  state-few : (found : Option FlowState) (was : Bool) (job : Job) → IsLimitedJob d.making bytes segs job → HoldsState d.making bytes segs found was
      → HoldsState d.making bytes segs (state_after_one d found job) (seen_after was job.work)
  unfolding state_after_one state_after
  state-few found was job limited holds =
      let items : JobItems = work_items d.making job.moment job.work (session_at_hand found) in
      let seen : Bool = seen_after was job.work in
      let bits = bits_found items found in
      let hits : List Hits = hits_of d.trying bits items.current in
      let left = unwrap_or (bits_after_items d.trying bits items.current) empty in
      let made : FlowSession → FlowState = λ s. record { session = steered d.trying.rules hits s; bits = left } in
      some-map made (λ (s : FlowState). HoldsFew bytes segs s.session seen) items.session
      (some-then (λ (s : FlowSession). HoldsFew bytes segs s seen) (λ (s : FlowSession). HoldsFew bytes segs (steered d.trying.rules hits s) seen) items.session
      (λ s h. steered-few hits s seen h)
      (items-few d.making bytes segs job.moment job.work (session_at_hand found) was limited (at_hand-few d.making bytes segs found was holds)))

  kept-few : (kept : Option KeptFlow) (was : Bool) (job : Job) → IsLimitedJob d.making bytes segs job → HoldsState d.making bytes segs (state_kept kept) was
      → HoldsState d.making bytes segs (state_kept (kept_after_one d kept job)) (seen_after was job.work)
  kept-few kept was job limited holds = by_facts (facts_after_one (facts_kept kept) job)
    where
      by_facts : (o : Option FlowFacts)
          → HoldsState d.making bytes segs
          (state_kept (option_map
          (λ (facts : FlowFacts). record { facts = facts; found = state_after_one d (state_kept kept) job }) o))
          (seen_after was job.work)
      by_facts None = tt
      by_facts (Some facts) = state-few (state_kept kept) was job limited holds

  -- what is kept of a flow after some of its jobs
  pub kept-after : (jobs : List Job) (kept : Option KeptFlow) (was : Bool) → All (IsLimitedJob d.making bytes segs) jobs → HoldsState d.making bytes segs (state_kept kept) was
      → HoldsState d.making bytes segs (state_kept (fold (kept_after_one d) kept jobs)) (fold (λ seen (job : Job). seen_after seen job.work) was jobs)
  kept-after [] kept was limited holds = holds
  kept-after (job ∷ jobs) kept was limited holds =
      kept-after jobs (kept_after_one d kept job) (seen_after was job.work) (All-tail (IsLimitedJob d.making bytes segs) job jobs limited)
      (kept-few kept was job (All-head (IsLimitedJob d.making bytes segs) job jobs limited) holds)
