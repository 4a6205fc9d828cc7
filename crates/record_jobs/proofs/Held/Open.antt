-- A flow that is open after a capture's jobs lives.
use Rattle.std.proofs.Common.{◌≡◌, ℕ, ◌+◌, ◌<◌, ◌⊎◌, inl, inr, ⊎_elim, Bool, true, false, cond, ◌==◌, List, [], ◌∷◌, ◌++◌, Option}
use Rattle.std.proofs.Common.{Some, None, Contains, fold, refl, sym, ap, subst, ◌∙◌, arith, append_assoc, append-nil}
use Rattle.std.specs.Option.{option_map, option_to_list}
use Rattle.std.proofs.lemmas.Bool.{false≢true, eqb-true}
use Rattle.std.proofs.lemmas.Bool.Decides.{nat_tests}
use Rattle.std.proofs.lemmas.List.Sums.{fold-append}
use Rattle.edge_io.specs.Along.{trail}
use Rattle.edge_io.specs.declared.moment.Moment.{Moment}
use Rattle.stream5_sessions.specs.declared.flows.Touch.{Touch}
use Rattle.stream5_sessions.specs.declared.key.Key.{Key}
use Rattle.stream5_sessions.specs.Liveness.{MaxFlows, evicted_flow, flow_number, live_flows, max_for, touch_found}
use Rattle.stream5_sessions.proofs.Liveness.Lasting.{flow-stays, own-lives}
use Rattle.flow_lanes.specs.declared.job.Work.{Work}
use Rattle.flow_lanes.specs.declared.job.Work.TheVariants as work
use Rattle.flow_lanes.specs.Open.{is_open, open_after}
use Rattle.record_jobs.specs.declared.item.RecordItem.{RecordItem}
use Rattle.record_jobs.specs.declared.time.Time.{Time}
use Rattle.record_jobs.specs.Jobs.{alone, flow_packet, job_count, jobs, numbered, packet_work, time_of, works, works_by}
use Rattle.record_jobs.specs.Packets.{fragment_item, packet_in}
use Rattle.record_jobs.specs.Touches.{key_in, most_flows, touch_in, touches}
use Rattle.record_jobs.specs.Way.{LinkedRecord, Way}
use Rattle.record_jobs.proofs.Growth.{touches-push, trail-push}

-- ---- the jobs of a record

module _ (flow : ℕ) (moment : Moment) where
  abbrev after : Bool → ℕ → List Work → Bool
  after was number todo = fold (open_after flow) was (numbered number moment todo)

  module _ (way : Way) (time : Time) (fragment : Option RecordItem) where
    -- the packet, once the fragment by itself is passed over
    of_packet : (touch : Touch) (packet : Option RecordItem) (was : Bool) (number : ℕ)
        → after was number
        (option_to_list (option_map alone fragment) ++ option_to_list (option_map (packet_work way time (Some touch)) packet)) ≡
        true
        → (was ≡ true) ⊎ (touch.flow ≡ flow)
    unfolding flow_packet
    of_packet touch packet was number h = by_fragment fragment packet number h
      where
        by_packet : (packet : Option RecordItem) (number : ℕ) → after was number (option_to_list (option_map (packet_work way time (Some touch)) packet)) ≡ true → (was ≡ true) ⊎ (touch.flow ≡ flow)
        by_packet None number h = inl h
        by_packet (Some item) number h = by_flow (flow == touch.flow) refl h
          where
            by_flow : (b : Bool) → (flow == touch.flow) ≡ b → cond b true was ≡ true → (was ≡ true) ⊎ (touch.flow ≡ flow)
            by_flow true is h = inr (sym (eqb-true flow touch.flow is))
            by_flow false is h = inl h

        by_fragment : (fragment packet : Option RecordItem) (number : ℕ)
            → after was number
            (option_to_list (option_map alone fragment) ++
            option_to_list (option_map (packet_work way time (Some touch)) packet)) ≡
            true
            → (was ≡ true) ⊎ (touch.flow ≡ flow)
        by_fragment None packet number h = by_packet packet number h
        by_fragment (Some item) packet number h = by_packet packet (number + 1) h

    untouched : (packet : Option RecordItem) (was : Bool) (number : ℕ) → after was number (works_by way time None fragment packet) ≡ true → was ≡ true
    untouched packet was number h = by_fragment fragment packet number h
      where
        by_packet : (packet : Option RecordItem) (number : ℕ) → after was number (option_to_list (option_map (packet_work way time None) packet)) ≡ true → was ≡ true
        by_packet None number h = h
        by_packet (Some item) number h = h

        by_fragment : (fragment packet : Option RecordItem) (number : ℕ) → after was number (works_by way time None fragment packet) ≡ true → was ≡ true
        by_fragment None packet number h = by_packet packet number h
        by_fragment (Some item) packet number h = by_packet packet (number + 1) h

    touched : (touch : Touch) (packet : Option RecordItem) (was : Bool) (number : ℕ) → after was number (works_by way time (Some touch) fragment packet) ≡ true
        → ((was ≡ true) × (touch.evicted ≡ Some flow → ⊥)) ⊎ (touch.flow ≡ flow)
    touched touch packet was number h = by_ended touch.evicted refl h
      where
        by_ended : (ended : Option ℕ)
            → touch.evicted ≡ ended
            → after was number
            (option_to_list (option_map (λ flow. work.Finish flow) ended) ++
            (option_to_list (option_map alone fragment) ++
            option_to_list (option_map (packet_work way time (Some touch)) packet))) ≡
            true
            → ((was ≡ true) × (touch.evicted ≡ Some flow → ⊥)) ⊎ (touch.flow ≡ flow)
        by_ended None is h = ⊎_elim
            (λ (open_still : was ≡ true). inl (open_still, λ told. let none = sym is ∙ told in cc))
            (λ (own : touch.flow ≡ flow). inr own)
            (of_packet touch packet was number h)
        by_ended (Some other) is h = by_flow (flow == other) refl h
          where
            by_flow : (b : Bool) → (flow == other) ≡ b
                → after (cond b false was) (number + 1) (option_to_list (option_map alone fragment) ++ option_to_list (option_map (packet_work way time (Some touch)) packet)) ≡ true
                → ((was ≡ true) × (touch.evicted ≡ Some flow → ⊥)) ⊎ (touch.flow ≡ flow)
            by_flow true same h = ⊎_elim
                (λ (never : false ≡ true). absurd (false≢true never))
                (λ (own : touch.flow ≡ flow). inr own)
                (of_packet touch packet false (number + 1) h)
            by_flow false apart h = ⊎_elim
                (λ (open_still : was ≡ true). inl (
                  open_still,
                  λ told.
                      let same : other ≡ flow = cc in
                      let test : (flow == other) ≡ true = grind (arith, nat_tests, same) in false≢true (sym apart ∙ test),
                ))
                (λ (own : touch.flow ≡ flow). inr own)
                (of_packet touch packet was (number + 1) h)

-- ---- all records

module _ (way : Way) (tcp : 0 < way.stream.max_tcp) (udp : 0 < way.stream.max_udp) where
  abbrev max : MaxFlows
  max = most_flows way.stream

  some : (key : Key) → 0 < max_for max key.tcp
  some key = by_protocol key.tcp
    where
      by_protocol : (b : Bool) → 0 < max_for max b
      by_protocol true = tcp
      by_protocol false = udp

  Live : List LinkedRecord → Type 0
  Live records = (flow : ℕ) → is_open flow (trail (jobs way) records) ≡ true → Contains (live_flows max (touches way records)) flow

  live_step : (before : List LinkedRecord) (r : LinkedRecord) → Live before → Live (before ++ r ∷ [])
  unfolding Live jobs works touch_in
  live_step before r live = λ flow is.
      let split = ap (is_open flow) (trail-push (jobs way) before r) ∙ fold-append (open_after flow) false (trail (jobs way) before) (jobs way before r) in
      by_key flow (key_in way before r) refl (opened flow (sym split ∙ is))
    where
      opened : (flow : ℕ)
          → fold (open_after flow) (is_open flow (trail (jobs way) before)) (jobs way before r) ≡ true
          → after flow r.captured.moment (is_open flow (trail (jobs way) before)) (job_count way before)
          (works_by way (time_of before r) (touch_in way before r) (fragment_item way r) (packet_in way before r)) ≡
          true
      opened flow h = h

      at_touches : (flow : ℕ) (keys : List Key) → touches way (before ++ r ∷ []) ≡ keys → Contains (live_flows max keys) flow → Contains (live_flows max (touches way (before ++ r ∷ []))) flow
      at_touches flow keys is has = subst (λ (ks : List Key). Contains (live_flows max ks) flow) (sym is) has

      by_key : (flow : ℕ) (key : Option Key)
          → key_in way before r ≡ key
          → after flow r.captured.moment (is_open flow (trail (jobs way) before)) (job_count way before)
          (works_by way (time_of before r) (touch_in way before r) (fragment_item way r) (packet_in way before r)) ≡
          true
          → Contains (live_flows max (touches way (before ++ r ∷ []))) flow
      by_key flow None none h =
          let no_touch = ap (option_map (touch_found max (touches way before))) none in
          let still =
          untouched flow r.captured.moment way (time_of before r) (fragment_item way r) (packet_in way before r)
          (is_open flow (trail (jobs way) before)) (job_count way before)
          (subst (λ (t : Option Touch). after flow r.captured.moment (is_open flow (trail (jobs way) before))
          (job_count way before) (works_by way (time_of before r) t (fragment_item way r) (packet_in way before r)) ≡
          true) no_touch h) in
          at_touches flow (touches way before)
          (touches-push way before r ∙ ap (λ (o : Option Key). option_to_list o ++ touches way before) none)
          (live flow still)
      by_key flow (Some key) found h =
          let touch = touch_found max (touches way before) key in
          let one_touch = ap (option_map (touch_found max (touches way before))) found in
          let why =
          touched flow r.captured.moment way (time_of before r) (fragment_item way r) touch (packet_in way before r)
          (is_open flow (trail (jobs way) before)) (job_count way before)
          (subst (λ (t : Option Touch). after flow r.captured.moment (is_open flow (trail (jobs way) before))
          (job_count way before) (works_by way (time_of before r) t (fragment_item way r) (packet_in way before r)) ≡
          true) one_touch h) in
          at_touches flow (key ∷ touches way before)
          (touches-push way before r ∙ ap (λ (o : Option Key). option_to_list o ++ touches way before) found)
          (⊎_elim
          (λ
          (stays : (is_open flow (trail (jobs way) before) ≡ true) × (evicted_flow max (touches way before) key ≡ Some flow → ⊥)).
          flow-stays max (touches way before) key flow (some key) (live flow stays.0) stays.1)
          (λ (own : flow_number max (key ∷ touches way before) key ≡ flow). subst
          (Contains (live_flows max (key ∷ touches way before))) own
          (own-lives max (touches way before) key (some key)))
          why)

  live_all : (before later : List LinkedRecord) → Live before → Live (before ++ later)
  live_all before [] live = subst Live (sym (append-nil before)) live
  live_all before (r ∷ later) live = subst Live (append_assoc before (r ∷ []) later) (live_all (before ++ r ∷ []) later (live_step before r live))

  pub open-live : (records : List LinkedRecord) (flow : ℕ) → is_open flow (trail (jobs way) records) ≡ true → Contains (live_flows max (touches way records)) flow
  unfolding Live
  open-live records = live_all [] records (λ flow is. absurd (false≢true is))
