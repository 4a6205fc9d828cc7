-- A flow of which TCP was seen is the flow of a key of TCP that lives.
use Rattle.std.proofs.Common.{◌≡◌, ℕ, ◌+◌, ◌<◌, ◌⊎◌, inl, inr, ⊎_elim, Bool, true, false, cond, not, ◌&&◌, ◌||◌, ◌==◌, List, []}
use Rattle.std.proofs.Common.{◌∷◌, ◌++◌, Option, Some, None, fold, refl, sym, ap, subst, ◌∙◌, arith, append_assoc, append-nil}
use Rattle.std.specs.Prelude.{option_and_then}
use Rattle.std.specs.Option.{option_map, option_to_list}
use Rattle.std.proofs.lemmas.Bool.{false≢true, eqb-true}
use Rattle.std.proofs.lemmas.Bool.Decides.{nat_tests}
use Rattle.std.proofs.lemmas.List.Sums.{fold-append}
use Rattle.edge_io.specs.Along.{trail}
use Rattle.edge_io.specs.declared.moment.Moment.{Moment}
use Rattle.packet_decode.specs.declared.packet.Body.{Body}
use Rattle.packet_decode.specs.declared.packet.Body.TheVariants as body
use Rattle.packet_decode.specs.declared.packet.IpHead.{IpHead}
use Rattle.conf_types.specs.declared.config.StreamConfig.{StreamConfig}
use Rattle.stream5_sessions.specs.declared.flows.Touch.{Touch}
use Rattle.stream5_sessions.specs.declared.key.End.{End}
use Rattle.stream5_sessions.specs.declared.key.Key.{Key}
use Rattle.stream5_sessions.specs.Keys.{is_end_before, key_of}
use Rattle.stream5_sessions.specs.Liveness.{MaxFlows, ends_life, evicted_flow, flow_number, is_live, max_for, touch_found}
use Rattle.stream5_sessions.proofs.Liveness.Eviction.{evicted-is}
use Rattle.stream5_sessions.proofs.Liveness.Lasting.{number-stays, touched-lives}
use Rattle.flow_lanes.specs.declared.job.Work.{Work}
use Rattle.flow_lanes.specs.declared.job.Work.TheVariants as work
use Rattle.flow_lanes.specs.Holding.{is_seen, seen_of}
use Rattle.flow_lanes.specs.Sessions.{is_tcp}
use Rattle.record_jobs.specs.declared.item.RecordItem.{RecordItem}
use Rattle.record_jobs.specs.declared.time.Time.{Time}
use Rattle.record_jobs.specs.Jobs.{alone, flow_packet, job_count, jobs, numbered, packet_work, time_of, works, works_by}
use Rattle.record_jobs.specs.Packets.{fragment_item, packet_in}
use Rattle.record_jobs.specs.Touches.{item_key, key_between, key_in, most_flows, touch_in, touches, tracked_key}
use Rattle.record_jobs.specs.Way.{LinkedRecord, Way}
use Rattle.record_jobs.proofs.Growth.{touches-push, trail-push}

-- ---- keys

key_of-tcp : (tcp : Bool) (a b : End) → (key_of tcp a b).tcp ≡ tcp
unfolding key_of
key_of-tcp tcp a b = either (is_end_before b a)
  where
    either : (before : Bool) → (cond {A = Key} before (record { tcp = tcp; low = b; high = a }) (record { tcp = tcp; low = a; high = b })).tcp ≡ tcp
    either true = refl
    either false = refl

-- the key of a packet of TCP is of TCP
tracked-tcp : (stream : StreamConfig) (ip : IpHead) (carried : Body) (key : Key) → tracked_key stream ip carried ≡ Some key → is_tcp carried ≡ true → key.tcp ≡ true
unfolding tracked_key
tracked-tcp stream ip (body.Tcp head) key e is = go stream.tcp e
  where
    go : (b : Bool) → cond b (Some (key_between true ip head.sport head.dport)) None ≡ Some key → key.tcp ≡ true
    go true e =
        let same : key ≡ key_between true ip head.sport head.dport = cc in
        ap (λ (k : Key). k.tcp) same
        ∙ key_of-tcp true (record { addr = ip.src; port = head.sport }) (record { addr = ip.dst; port = head.dport })
    go false e = cc
tracked-tcp stream ip (body.Udp sport dport) key e is = absurd (false≢true is)
tracked-tcp stream ip (body.Icmp kind code id seq) key e is = cc
tracked-tcp stream ip body.Other key e is = cc
tracked-tcp stream ip body.Fragment key e is = cc
tracked-tcp stream ip (body.Stream sport dport) key e is = cc

-- there is a packet, of TCP
abbrev IsTcp : Option RecordItem → Type 0
IsTcp None = ⊥
IsTcp (Some item) = is_tcp item.head.body ≡ true

key-tcp : (way : Way) (packet : Option RecordItem) (key : Key) → option_and_then (item_key way) packet ≡ Some key → IsTcp packet → key.tcp ≡ true
key-tcp way None key e is = absurd is
key-tcp way (Some item) key e is = tracked-tcp way.stream item.head.ip item.head.body key e is

-- ---- as long as no touch tells otherwise

-- the flow is that of a key of TCP that lives
pub record IsOfTcp (max : MaxFlows) (touches : List Key) (flow : ℕ) : Type 0 where
  pub key : Key
  pub tcp : key.tcp ≡ true
  pub live : is_live max touches key ≡ true
  pub number : flow_number max touches key ≡ flow

tcp-stays : (max : MaxFlows) (touches : List Key) (key : Key) (flow : ℕ)
    → 0 < max_for max key.tcp
    → IsOfTcp max touches flow
    → (evicted_flow max touches key ≡ Some flow → ⊥)
    → IsOfTcp max (key ∷ touches) flow
tcp-stays max touches key flow some old told = by_live (is_live max (key ∷ touches) old.key) refl
  where
    by_live : (b : Bool) → is_live max (key ∷ touches) old.key ≡ b → IsOfTcp max (key ∷ touches) flow
    by_live true on = record { key = old.key; tcp = old.tcp; live = on; number = number-stays max touches key old.key old.live ∙ old.number }
    by_live false off =
        let ends : ends_life max touches key old.key ≡ true = ap (λ (b : Bool). b && not (is_live max (key ∷ touches) old.key)) old.live ∙ ap not off in
        absurd (told (evicted-is max touches key old.key some ends ∙ ap Some old.number))

tcp-own : (max : MaxFlows) (touches : List Key) (key : Key) (flow : ℕ) → 0 < max_for max key.tcp → key.tcp ≡ true → flow_number max (key ∷ touches) key ≡ flow → IsOfTcp max (key ∷ touches) flow
tcp-own max touches key flow some tcp own = record { key = key; tcp = tcp; live = touched-lives max touches key some; number = own }

-- ---- the jobs of a record

module _ (flow : ℕ) (moment : Moment) where
  abbrev after : Bool → ℕ → List Work → Bool
  after was number todo = fold (seen_of flow) was (numbered number moment todo)

  module _ (way : Way) (time : Time) (fragment : Option RecordItem) where
    -- the packet is of the flow, and of TCP
    abbrev Begins : Touch → Option RecordItem → Type 0
    Begins touch packet = (touch.flow ≡ flow) × IsTcp packet

    -- the packet, once the fragment by itself is passed over
    of_packet : (touch : Touch) (packet : Option RecordItem) (was : Bool) (number : ℕ)
        → after was number
        (option_to_list (option_map alone fragment) ++ option_to_list (option_map (packet_work way time (Some touch)) packet)) ≡
        true
        → (was ≡ true) ⊎ Begins touch packet
    unfolding flow_packet
    of_packet touch packet was number h = by_fragment fragment packet number h
      where
        by_packet : (packet : Option RecordItem) (number : ℕ) → after was number (option_to_list (option_map (packet_work way time (Some touch)) packet)) ≡ true → (was ≡ true) ⊎ Begins touch packet
        by_packet None number h = inl h
        by_packet (Some item) number h = by_flow (flow == touch.flow) refl h
          where
            by_was : (b t : Bool) → (b || t) ≡ true → (b ≡ true) ⊎ (t ≡ true)
            by_was true t h = inl refl
            by_was false t h = inr h

            by_flow : (b : Bool) → (flow == touch.flow) ≡ b → cond b (was || is_tcp item.head.body) was ≡ true → (was ≡ true) ⊎ Begins touch (Some item)
            by_flow true is h = ⊎_elim
                (λ (before : was ≡ true). inl before)
                (λ (tcp : is_tcp item.head.body ≡ true). inr (sym (eqb-true flow touch.flow is), tcp))
                (by_was was (is_tcp item.head.body) h)
            by_flow false is h = inl h

        by_fragment : (fragment packet : Option RecordItem) (number : ℕ)
            → after was number
            (option_to_list (option_map alone fragment) ++
            option_to_list (option_map (packet_work way time (Some touch)) packet)) ≡
            true
            → (was ≡ true) ⊎ Begins touch packet
        by_fragment None packet number h = by_packet packet number h
        by_fragment (Some item) packet number h = by_packet packet (number + 1) h

    untouched : (packet : Option RecordItem) (was : Bool) (number : ℕ) → after was number (works_by way time None fragment packet) ≡ true → was ≡ true
    untouched packet was number h = by_fragment fragment packet number h
      where
        by_packet : (packet : Option RecordItem) (number : ℕ) → after was number (option_to_list (option_map (packet_work way time None) packet)) ≡ true → was ≡ true
        by_packet None number h = h
        by_packet (Some item) number h = h

        by_fragment : (fragment packet : Option RecordItem) (number : ℕ) → after was number (works_by way time None fragment packet) ≡ true → was ≡ true
        by_fragment None packet number h = by_packet packet number h
        by_fragment (Some item) packet number h = by_packet packet (number + 1) h

    touched : (touch : Touch) (packet : Option RecordItem) (was : Bool) (number : ℕ) → after was number (works_by way time (Some touch) fragment packet) ≡ true
        → ((was ≡ true) × (touch.evicted ≡ Some flow → ⊥)) ⊎ Begins touch packet
    touched touch packet was number h = by_ended touch.evicted refl h
      where
        by_ended : (ended : Option ℕ)
            → touch.evicted ≡ ended
            → after was number
            (option_to_list (option_map (λ flow. work.Finish flow) ended) ++
            (option_to_list (option_map alone fragment) ++
            option_to_list (option_map (packet_work way time (Some touch)) packet))) ≡
            true
            → ((was ≡ true) × (touch.evicted ≡ Some flow → ⊥)) ⊎ Begins touch packet
        by_ended None is h = ⊎_elim
            (λ (still : was ≡ true). inl (still, λ told. let none = sym is ∙ told in cc))
            (λ (own : Begins touch packet). inr own)
            (of_packet touch packet was number h)
        by_ended (Some other) is h = by_flow (flow == other) refl h
          where
            by_flow : (b : Bool) → (flow == other) ≡ b
                → after (cond b false was) (number + 1) (option_to_list (option_map alone fragment) ++ option_to_list (option_map (packet_work way time (Some touch)) packet)) ≡ true
                → ((was ≡ true) × (touch.evicted ≡ Some flow → ⊥)) ⊎ Begins touch packet
            by_flow true same h = ⊎_elim
                (λ (never : false ≡ true). absurd (false≢true never))
                (λ (own : Begins touch packet). inr own)
                (of_packet touch packet false (number + 1) h)
            by_flow false apart h = ⊎_elim
                (λ (still : was ≡ true). inl (still, λ told. let same : other ≡ flow = cc in let test : (flow == other) ≡ true = grind (arith, nat_tests, same) in false≢true (sym apart ∙ test)))
                (λ (own : Begins touch packet). inr own)
                (of_packet touch packet was (number + 1) h)

-- ---- all records

module _ (way : Way) (tcp : 0 < way.stream.max_tcp) (udp : 0 < way.stream.max_udp) where
  abbrev max : MaxFlows
  max = most_flows way.stream

  some : (key : Key) → 0 < max_for max key.tcp
  some key = by_protocol key.tcp
    where
      by_protocol : (b : Bool) → 0 < max_for max b
      by_protocol true = tcp
      by_protocol false = udp

  Seen : List LinkedRecord → Type 0
  Seen records = (flow : ℕ) → is_seen flow (trail (jobs way) records) ≡ true → IsOfTcp max (touches way records) flow

  seen_step : (before : List LinkedRecord) (r : LinkedRecord) → Seen before → Seen (before ++ r ∷ [])
  unfolding Seen jobs works touch_in key_in
  seen_step before r seen = λ flow is.
      let split = ap (is_seen flow) (trail-push (jobs way) before r) ∙ fold-append (seen_of flow) false (trail (jobs way) before) (jobs way before r) in
      by_key flow (key_in way before r) refl (opened flow (sym split ∙ is))
    where
      opened : (flow : ℕ)
          → fold (seen_of flow) (is_seen flow (trail (jobs way) before)) (jobs way before r) ≡ true
          → after flow r.captured.moment (is_seen flow (trail (jobs way) before)) (job_count way before)
          (works_by way (time_of before r) (touch_in way before r) (fragment_item way r) (packet_in way before r)) ≡
          true
      opened flow h = h

      at_touches : (flow : ℕ) (keys : List Key) → touches way (before ++ r ∷ []) ≡ keys → IsOfTcp max keys flow → IsOfTcp max (touches way (before ++ r ∷ [])) flow
      at_touches flow keys is has = subst (λ (ks : List Key). IsOfTcp max ks flow) (sym is) has

      by_key : (flow : ℕ) (key : Option Key)
          → key_in way before r ≡ key
          → after flow r.captured.moment (is_seen flow (trail (jobs way) before)) (job_count way before)
          (works_by way (time_of before r) (touch_in way before r) (fragment_item way r) (packet_in way before r)) ≡
          true
          → IsOfTcp max (touches way (before ++ r ∷ [])) flow
      by_key flow None none h =
          let no_touch = ap (option_map (touch_found max (touches way before))) none in
          let still =
          untouched flow r.captured.moment way (time_of before r) (fragment_item way r) (packet_in way before r)
          (is_seen flow (trail (jobs way) before)) (job_count way before)
          (subst (λ (t : Option Touch). after flow r.captured.moment (is_seen flow (trail (jobs way) before))
          (job_count way before) (works_by way (time_of before r) t (fragment_item way r) (packet_in way before r)) ≡
          true) no_touch h) in
          at_touches flow (touches way before)
          (touches-push way before r ∙ ap (λ (o : Option Key). option_to_list o ++ touches way before) none)
          (seen flow still)
      by_key flow (Some key) found h =
          let touch = touch_found max (touches way before) key in
          let one_touch = ap (option_map (touch_found max (touches way before))) found in
          let why =
          touched flow r.captured.moment way (time_of before r) (fragment_item way r) touch (packet_in way before r)
          (is_seen flow (trail (jobs way) before)) (job_count way before)
          (subst (λ (t : Option Touch). after flow r.captured.moment (is_seen flow (trail (jobs way) before))
          (job_count way before) (works_by way (time_of before r) t (fragment_item way r) (packet_in way before r)) ≡
          true) one_touch h) in
          at_touches flow (key ∷ touches way before)
          (touches-push way before r ∙ ap (λ (o : Option Key). option_to_list o ++ touches way before) found)
          (⊎_elim
          (λ
          (stays : (is_seen flow (trail (jobs way) before) ≡ true) × (evicted_flow max (touches way before) key ≡ Some flow → ⊥)).
          tcp-stays max (touches way before) key flow (some key) (seen flow stays.0) stays.1)
          (λ (own : (flow_number max (key ∷ touches way before) key ≡ flow) × IsTcp (packet_in way before r)).
          tcp-own max (touches way before) key flow (some key) (key-tcp way (packet_in way before r) key found own.1) own.0)
          why)

  seen_all : (before later : List LinkedRecord) → Seen before → Seen (before ++ later)
  seen_all before [] seen = subst Seen (sym (append-nil before)) seen
  seen_all before (r ∷ later) seen = subst Seen (append_assoc before (r ∷ []) later) (seen_all (before ++ r ∷ []) later (seen_step before r seen))

  pub seen-tcp : (records : List LinkedRecord) (flow : ℕ) → is_seen flow (trail (jobs way) records) ≡ true → IsOfTcp max (touches way records) flow
  unfolding Seen
  seen-tcp records = seen_all [] records (λ flow is. absurd (false≢true is))
