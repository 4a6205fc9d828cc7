-- What all lanes hold of all flows together.
use Rattle.std.proofs.Common.{◌≡◌, ℕ, zero, suc, ◌+◌, ◌*◌, ◌<◌, ◌≤◌, Bool, true, false, cond, not, ◌||◌, ltb, List, [], ◌∷◌, ◌++◌}
use Rattle.std.proofs.Common.{Option, Some, None, filter, length, max, is_none, refl, sym, ap, subst, ◌∙◌, arith, le_trans}
use Rattle.std.proofs.Common.{mul-le-mul_right, nat_eq, unwrap_or, append_assoc, append-nil}
use Rattle.std.specs.Prelude.{sum_by}
use Rattle.std.proofs.lemmas.Cmp.{nat_eq_equiv}
use Rattle.std.specs.List.{All, AllByRecursion, IsDistinct, list_any, position_or_len}
use Rattle.std.specs.Map.{lookup, values_of}
use Rattle.std.specs.Option.{option_map, option_or, option_to_list}
use Rattle.std.proofs.lemmas.Bool.{false≢true, eqb-true, lt-ltb, ltb-true}
use Rattle.std.proofs.lemmas.List.{length-take}
use Rattle.std.proofs.lemmas.List.Elements.{All-append, All-cons, All-head, All-nil, All-tail}
use Rattle.std.proofs.lemmas.List.Sums.{sum_by-cons}
use Rattle.std.proofs.lemmas.Map.Entries.{length-values_of}
use Rattle.std.proofs.lemmas.Map.Made.{length-le_from_is_member}
use Rattle.edge_io.specs.declared.address.Addr.{Addr}
use Rattle.edge_io.specs.declared.moment.Moment.{Moment}
use Rattle.edge_io.specs.Along.{trail}
use Rattle.conf_types.specs.declared.config.StreamConfig.{StreamConfig}
use Rattle.conf_types.specs.declared.config.StreamEngine.{StreamEngine}
use Rattle.conf_types.specs.Defaults.{default_stream_engine, stream_engine_at}
use Rattle.stream5_sessions.specs.declared.flows.Touch.{Touch}
use Rattle.stream5_sessions.specs.declared.key.Key.{Key}
use Rattle.stream5_sessions.specs.Caches.{stretches}
use Rattle.stream5_sessions.specs.Liveness.{MaxFlows, flow_number}
use Rattle.stream5_sessions.proofs.Liveness.Numbers.{value_among}
use Rattle.stream5_sessions.proofs.Liveness.Protocols.{kept, lookup-kept}
use Rattle.stream5_sessions.proofs.Liveness.Rising.{among}
use Rattle.stream5_sessions.specs.Keys.{same_key}
use Rattle.flow_lanes.specs.declared.job.Job.{Job}
use Rattle.flow_lanes.specs.declared.job.Work.{Work}
use Rattle.flow_lanes.specs.declared.job.Work.TheVariants as work
use Rattle.flow_lanes.specs.Engines.{Making}
use Rattle.flow_lanes.specs.Flows.{Detection}
use Rattle.flow_lanes.specs.Holding.{IsLimited, IsLimitedJob, IsLimitedWork, held_bytes, held_segments, is_seen}
use Rattle.flow_lanes.specs.Sessions.{is_tcp}
use Rattle.flow_lanes.specs.LanesAfter.{LanesState}
use Rattle.record_jobs.specs.declared.item.RecordItem.{RecordItem}
use Rattle.record_jobs.specs.declared.time.Time.{Time}
use Rattle.record_jobs.specs.Holding.{KeepStreams, engines_used, greatest, most_held}
use Rattle.record_jobs.specs.Jobs.{alone, evicted_by, flow_packet, job_count, jobs, numbered, packet_work, time_of, works, works_by}
use Rattle.record_jobs.specs.Packets.{fragment_item, packet_in}
use Rattle.record_jobs.specs.Touches.{most_flows, touch_in, touches}
use Rattle.record_jobs.specs.Way.{LinkedRecord, Way, is_bound, stream_place, toward_address}
use Rattle.record_jobs.proofs.Growth.{trail-push}
use Rattle.record_jobs.proofs.Held.Flows.{IsOfTcp, seen-tcp}
use Rattle.flow_lanes.proofs.Held.Lanes.{bytes-few, segments-few}

-- ---- the engines that a side goes by

module _ (limit : StreamEngine → ℕ) where
  engine-most : (engines : List StreamEngine) (place : ℕ) → place < length engines → limit (stream_engine_at engines place) ≤ greatest limit engines
  engine-most [] place within = absurd (omega (arith, within))
  engine-most (engine ∷ engines) zero within = omega arith
  engine-most (engine ∷ engines) (suc place) within = let later = engine-most engines place (omega (arith, within)) in omega (arith, later)

  any-most : (engines : List StreamEngine) (place : ℕ) → limit (stream_engine_at engines place) ≤ max (limit default_stream_engine) (greatest limit engines)
  any-most [] place = omega arith
  any-most (engine ∷ engines) zero = omega arith
  any-most (engine ∷ engines) (suc place) = let later = any-most engines place in omega (arith, later)

  -- where a line is for all hosts, each address has a line
  has_place : (engines : List StreamEngine) → list_any (λ (e : StreamEngine). is_none e.bind) engines ≡ true → position_or_len (λ (e : StreamEngine). is_none e.bind) engines < length engines
  has_place [] some = absurd (false≢true some)
  has_place (engine ∷ engines) some = by (is_none engine.bind) some (has_place engines)
    where
      by : (b : Bool) → (b || list_any (λ (e : StreamEngine). is_none e.bind) engines) ≡ true
          → (list_any (λ (e : StreamEngine). is_none e.bind) engines ≡ true → position_or_len (λ (e : StreamEngine). is_none e.bind) engines < length engines)
          → cond (not b) (1 + position_or_len (λ (e : StreamEngine). is_none e.bind) engines) 0 < length (engine ∷ engines)
      by true h later = omega arith
      by false h later = let there = later h in omega (arith, there)

  place-within : (engines : List StreamEngine) (addr : Addr) → list_any (λ (e : StreamEngine). is_none e.bind) engines ≡ true → stream_place engines addr < length engines
  unfolding stream_place
  place-within engines addr some = by (ltb first (length engines)) refl
    where
      first : ℕ
      first = position_or_len (λ (e : StreamEngine). is_bound addr e.bind) engines

      second : ℕ
      second = position_or_len (λ (e : StreamEngine). is_none e.bind) engines

      there : ltb second (length engines) ≡ true
      there = lt-ltb second (length engines) (has_place engines some)

      by : (b : Bool) → ltb first (length engines) ≡ b → unwrap_or (option_or (cond b (Some first) None) (cond (ltb second (length engines)) (Some second) None)) (length engines) < length engines
      by true is = ltb-true first (length engines) is
      by false is = subst (λ (c : Bool). unwrap_or (cond {A = Option ℕ} c (Some second) None) (length engines) < length engines) (sym there) (has_place engines some)

  pub address-most : (engines : List StreamEngine) (addr : Addr) → limit (stream_engine_at engines (stream_place engines addr)) ≤ greatest limit (engines_used engines)
  address-most engines addr = by (list_any (λ (e : StreamEngine). is_none e.bind) engines) refl
    where
      by : (b : Bool)
          → list_any (λ (e : StreamEngine). is_none e.bind) engines ≡ b
          → limit (stream_engine_at engines (stream_place engines addr)) ≤
          greatest limit (cond b engines (default_stream_engine ∷ engines))
      by true some = engine-most engines (stream_place engines addr) (place-within engines addr some)
      by false none = any-most engines (stream_place engines addr)

-- ---- all jobs go by them

module _ (way : Way) (making : Making) (same : making.stream ≡ way.stream) where
  abbrev bytes : ℕ
  bytes = greatest (λ (e : StreamEngine). e.bytes_limit) (engines_used way.stream.engines)

  abbrev segs : ℕ
  segs = greatest (λ (e : StreamEngine). e.segs_limit) (engines_used way.stream.engines)

  abbrev Limited : Work → Type 0
  Limited w = IsLimitedWork making bytes segs w

  toward-limited : (tcp : Bool) (time : Time) (addr : Addr) → IsLimited making bytes segs (toward_address way tcp time addr)
  unfolding toward_address
  toward-limited tcp time addr =
      let place = stream_place way.stream.engines addr in
      record {
        bytes_few = subst (λ (engines : List StreamEngine). (stream_engine_at engines place).bytes_limit ≤ bytes) (ap (λ (s : StreamConfig). s.engines) (sym same))
            (address-most (λ (e : StreamEngine). e.bytes_limit) way.stream.engines addr);
        segs_few = subst (λ (engines : List StreamEngine). (stream_engine_at engines place).segs_limit ≤ segs) (ap (λ (s : StreamConfig). s.engines) (sym same))
            (address-most (λ (e : StreamEngine). e.segs_limit) way.stream.engines addr);
      }

  one-limited : (time : Time) (touch : Option Touch) (item : RecordItem) → Limited (packet_work way time touch item)
  unfolding flow_packet
  one-limited time None item = tt
  one-limited time (Some touch) item = (toward-limited (is_tcp item.head.body) time item.head.ip.dst, toward-limited (is_tcp item.head.body) time item.head.ip.src)

  ended-limited : (flow : Option ℕ) → All Limited (option_to_list (option_map (λ (f : ℕ). work.Finish f) flow))
  ended-limited None = All-nil Limited
  ended-limited (Some flow) = All-cons Limited (work.Finish flow) [] tt (All-nil Limited)

  alone-limited : (item : Option RecordItem) → All Limited (option_to_list (option_map alone item))
  alone-limited None = All-nil Limited
  alone-limited (Some item) = All-cons Limited (alone item) [] tt (All-nil Limited)

  packet-limited : (time : Time) (touch : Option Touch) (item : Option RecordItem) → All Limited (option_to_list (option_map (packet_work way time touch) item))
  packet-limited time touch None = All-nil Limited
  packet-limited time touch (Some item) = All-cons Limited (packet_work way time touch item) [] (one-limited time touch item) (All-nil Limited)

  works-limited : (time : Time) (touch : Option Touch) (fragment packet : Option RecordItem) → All Limited (works_by way time touch fragment packet)
  works-limited time touch fragment packet =
      let one = option_to_list (option_map (λ (f : ℕ). work.Finish f) (evicted_by touch)) in
      let two = option_to_list (option_map alone fragment) in
      let three = option_to_list (option_map (packet_work way time touch) packet) in
      All-append Limited one (two ++ three) (ended-limited (evicted_by touch))
      (All-append Limited two three (alone-limited fragment) (packet-limited time touch packet))

  abbrev LimitedJob : Job → Type 0
  LimitedJob job = IsLimitedJob making bytes segs job

  numbered-limited : (number : ℕ) (moment : Moment) (todo : List Work) → All Limited todo → All LimitedJob (numbered number moment todo)
  numbered-limited number moment [] all = All-nil LimitedJob
  numbered-limited number moment (first ∷ later) all =
      All-cons LimitedJob (record { number = number; moment = moment; work = first }) (numbered (number + 1) moment later) (All-head Limited first later all)
      (numbered-limited (number + 1) moment later (All-tail Limited first later all))

  record-limited : (before : List LinkedRecord) (r : LinkedRecord) → All LimitedJob (jobs way before r)
  unfolding jobs works
  record-limited before r =
      numbered-limited (job_count way before) r.captured.moment (works way before r) (works-limited (time_of before r) (touch_in way before r) (fragment_item way r) (packet_in way before r))

  all-limited : (before later : List LinkedRecord) → All LimitedJob (trail (jobs way) before) → All LimitedJob (trail (jobs way) (before ++ later))
  all-limited before [] limited = subst (λ (rs : List LinkedRecord). All LimitedJob (trail (jobs way) rs)) (sym (append-nil before)) limited
  all-limited before (r ∷ later) limited =
      subst (λ (rs : List LinkedRecord). All LimitedJob (trail (jobs way) rs)) (append_assoc before (r ∷ []) later)
      (all-limited (before ++ r ∷ []) later
      (subst (All LimitedJob) (sym (trail-push (jobs way) before r)) (All-append LimitedJob (trail (jobs way) before) (jobs way before r) limited (record-limited before r))))

  pub jobs-limited : (records : List LinkedRecord)
      → All (IsLimitedJob making (greatest (λ (e : StreamEngine). e.bytes_limit) (engines_used way.stream.engines))
      (greatest (λ (e : StreamEngine). e.segs_limit) (engines_used way.stream.engines))) (trail (jobs way) records)
  jobs-limited records = all-limited [] records (All-nil LimitedJob)

-- ---- a sum over flows that are named once each

apart-filter : (test : ℕ → Bool) (x : ℕ) (ys : List ℕ) → AllByRecursion (λ y. nat_eq x y ≡ false) ys → AllByRecursion (λ y. nat_eq x y ≡ false) (filter test ys)
apart-filter test x [] all = tt
apart-filter test x (y ∷ ys) all = by (test y) (apart-filter test x ys all.1)
  where
    by : (b : Bool) → AllByRecursion (λ z. nat_eq x z ≡ false) (filter test ys) → AllByRecursion (λ z. nat_eq x z ≡ false) (cond b (y ∷ filter test ys) (filter test ys))
    by true later = (all.0, later)
    by false later = later

distinct-filter : (test : ℕ → Bool) (xs : List ℕ) → IsDistinct nat_eq xs → IsDistinct nat_eq (filter test xs)
unfolding IsDistinct
distinct-filter test [] apart = tt
distinct-filter test (x ∷ xs) apart = by (test x) (distinct-filter test xs apart.1)
  where
    by : (b : Bool) → IsDistinct nat_eq (filter test xs) → IsDistinct nat_eq (cond b (x ∷ filter test xs) (filter test xs))
    by true later = (apart-filter test x xs apart.0, later)
    by false later = later

passes : (test : ℕ → Bool) (xs : List ℕ) (x : ℕ) → among (filter test xs) x ≡ true → test x ≡ true
passes test [] x has = absurd (false≢true has)
passes test (y ∷ ys) x has = by_test (test y) refl has (passes test ys x)
  where
    by_same : (b : Bool) → nat_eq x y ≡ b → test y ≡ true → (b || among (filter test ys) x) ≡ true → (among (filter test ys) x ≡ true → test x ≡ true) → test x ≡ true
    by_same true same is h later = ap test (eqb-true x y same) ∙ is
    by_same false apart is h later = later h

    by_test : (b : Bool) → test y ≡ b → among (cond b (y ∷ filter test ys) (filter test ys)) x ≡ true → (among (filter test ys) x ≡ true → test x ≡ true) → test x ≡ true
    by_test true is h later = by_same (nat_eq x y) refl is h later
    by_test false is h later = later h

sum-tested : (f : ℕ → ℕ) (test : ℕ → Bool) (most : ℕ) (xs : List ℕ) → ((x : ℕ) → f x ≤ cond (test x) most 0) → sum_by f xs ≤ length (filter test xs) * most
sum-tested f test most [] few = omega arith
sum-tested f test most (x ∷ xs) few = by (test x) (few x) (sum-tested f test most xs few)
  where
    by : (b : Bool) → f x ≤ cond b most 0 → sum_by f xs ≤ length (filter test xs) * most → sum_by f (x ∷ xs) ≤ length (cond b (x ∷ filter test xs) (filter test xs)) * most
    by true first rest = subst (λ (n : ℕ). n ≤ suc (length (filter test xs)) * most) (sym (sum_by-cons f x xs)) (omega (arith, first, rest))
    by false first rest = subst (λ (n : ℕ). n ≤ length (filter test xs) * most) (sym (sum_by-cons f x xs)) (omega (arith, first, rest))

-- ---- flows of TCP are few

tcp-kept : (max : MaxFlows) (touches : List Key) (flow : ℕ) → IsOfTcp max touches flow → among (values_of (kept max true touches)) flow ≡ true
tcp-kept max touches flow own =
    let found = lookup-kept max touches own.key ∙ ap (λ (b : Bool). cond b (Some (flow_number max touches own.key)) None) own.live ∙ ap Some own.number in
    value_among (kept max true touches) own.key flow
    (ap (λ (b : Bool). lookup (same_key own.key) (kept max b touches)) (sym own.tcp) ∙ found)

module _ (way : Way) (d : Detection) (records : List LinkedRecord) (lanes : LanesState) (flows : List ℕ) (keep : KeepStreams way d records lanes) (apart : IsDistinct nat_eq flows) where
  abbrev seen : ℕ → Bool
  seen flow = is_seen flow (trail (jobs way) records)

  tcp-few : length (filter seen flows) ≤ way.stream.max_tcp
  tcp-few =
      let max = most_flows way.stream in
      let known = touches way records in
      let few = length-le_from_is_member nat_eq_equiv (filter seen flows) (values_of (kept max true known)) (distinct-filter seen flows apart)
      (λ flow has. tcp-kept max known flow (seen-tcp way keep.tcp keep.udp records flow (passes seen flows flow has))) in
      omega (arith, few, length-values_of (kept max true known), length-take way.stream.max_tcp (stretches max true known))

  total : (held : ℕ → ℕ) (most : ℕ) → ((flow : ℕ) → held flow ≤ cond (seen flow) (2 * most) 0) → sum_by held flows ≤ way.stream.max_tcp * (2 * most)
  total held most few = le_trans (sum-tested held seen (2 * most) flows few) (mul-le-mul_right (2 * most) tcp-few)

  abbrev bytes_used : ℕ
  bytes_used = greatest (λ (e : StreamEngine). e.bytes_limit) (engines_used way.stream.engines)

  abbrev segs_used : ℕ
  segs_used = greatest (λ (e : StreamEngine). e.segs_limit) (engines_used way.stream.engines)

  pub few-bytes : sum_by (held_bytes lanes) flows ≤ most_held (λ (e : StreamEngine). e.bytes_limit) way.stream
  few-bytes =
      total (held_bytes lanes) bytes_used
      (λ flow. bytes-few d lanes (trail (jobs way) records) flow bytes_used segs_used keep.hold (jobs-limited way d.making keep.stream records))

  pub few-segments : sum_by (held_segments lanes) flows ≤ most_held (λ (e : StreamEngine). e.segs_limit) way.stream
  few-segments =
      total (held_segments lanes) segs_used
      (λ flow. segments-few d lanes (trail (jobs way) records) flow bytes_used segs_used keep.hold (jobs-limited way d.making keep.stream records))
