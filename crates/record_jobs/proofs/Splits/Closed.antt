-- All items of a part, those of the flows that end with the capture included, are the items of the whole that go between
-- its pairs.
use Rattle.std.proofs.Common.{◌≡◌, ℕ, zero, suc, ◌+◌, ◌<◌, ◌≤◌, ◌==◌, Bool, true, false, cond, List, [], ◌∷◌, ◌++◌, Option, Some}
use Rattle.std.proofs.Common.{None, map, refl, sym, ap, ap₂, subst, ◌∙◌, append_assoc, append-nil, arith}
use Rattle.std.specs.Prelude.{option_and_then}
use Rattle.std.specs.List.{All, filter, flat_map, range_with_len}
use Rattle.std.specs.Option.{option_to_list}
use Rattle.std.proofs.lemmas.Bool.{eqb-true}
use Rattle.std.proofs.lemmas.List.Elements.{All-head, All-tail, All-weaker, filter-append}
use Rattle.std.proofs.lemmas.List.Folds.{flat_map-map}
use Rattle.edge_io.specs.Along.{trail, trail_from}
use Rattle.edge_io.specs.declared.moment.Moment.{Moment}
use Rattle.stream5_sessions.specs.declared.key.Key.{Key}
use Rattle.stream5_sessions.specs.Liveness.{begun, flow_number, is_touched}
use Rattle.flow_lanes.specs.declared.answer.Hits.{Hits}
use Rattle.flow_lanes.specs.declared.job.Job.{Job}
use Rattle.flow_lanes.specs.declared.job.Work.TheVariants as work
use Rattle.flow_lanes.specs.Flows.{Detection}
use Rattle.record_jobs.specs.declared.item.RecordItem.{RecordItem}
use Rattle.record_jobs.specs.Jobs.{end_of, finishes, job_count, jobs, numbered}
use Rattle.record_jobs.specs.Packets.{packet_in}
use Rattle.record_jobs.specs.Splitting.{IsSplitWhole, Pairs, Part, all_items, is_between, items_between, items_of_job, last_items, of_part, record_items}
use Rattle.record_jobs.specs.Touches.{item_key, key_in, most_flows, touches}
use Rattle.record_jobs.specs.Way.{LinkedRecord, Way}
use Rattle.record_jobs.proofs.Growth.{touches-push, trail-push}
use Rattle.record_jobs.proofs.Splits.Flows.{all-live, filter-same, first-filtered, first-numbers, first-touched, first_keys}
use Rattle.record_jobs.proofs.Splits.Heads.{all-tell, finish-items, finish_job, key-tells, record-tells}
use Rattle.record_jobs.proofs.Splits.Items.{same-items, same-packet}
use Rattle.record_jobs.proofs.Splits.Jobs.{HasRoomFor, along_all, after, after-nameless, flow-of_key, items-plain, nameless, of_key, of_number, room-at}
use Rattle.record_jobs.proofs.Splits.Parts.{filter-kept, filter-left, same-key_packets}
use Rattle.record_jobs.proofs.Splits.Room.{part-room}

-- ---- the ends of flows that live
module _ (d : Detection) (earlier : List Job) (moment : Moment) where
  -- the items at the end of the flow of this number
  abbrev ended_by : ℕ → List Hits
  ended_by flow = after d (map nameless (filter (of_number d flow) earlier)) (finish_job moment)

  differs : (one other : ℕ) → other < one → (one == other) ≡ false
  differs one other less = by_test (one == other) refl
    where
      by_test : (b : Bool) → (one == other) ≡ b → b ≡ false
      by_test true is = let same = eqb-true one other is in absurd (omega (arith, same, less))
      by_test false isnt = refl

  abbrev ends_from : ℕ → List ℕ → List Job
  ends_from number flows = numbered number moment (map (λ flow. work.Finish flow) flows)

  ends-plain : (count first number : ℕ) (more : List Job) → ((flow : ℕ) → first ≤ flow → filter (of_number d flow) more ≡ [])
      → trail_from (items_of_job d) (earlier ++ more) (ends_from number (range_with_len first count)) ≡ flat_map ended_by (range_with_len first count)
  ends-plain zero first number more passed = refl
  ends-plain (suc count) first number more passed =
      let job : Job = record { number = number; moment = moment; work = work.Finish first } in
      let rest : List ℕ = range_with_len (first + 1) count in
      let passed_too : (flow : ℕ) → first + 1 ≤ flow → filter (of_number d flow) (more ++ job ∷ []) ≡ [] =
      λ flow later.
      filter-append (of_number d flow) more (job ∷ [])
      ∙ ap (λ (js : List Job). js ++ filter (of_number d flow) (job ∷ [])) (passed flow (omega (arith, later)))
      ∙ ap (λ (b : Bool). cond b (job ∷ []) []) (differs flow first (omega (arith, later))) in
      let own : items_of_job d (earlier ++ more) job ≡ ended_by first =
      ap (λ (js : List Job). after d js job)
      (filter-append (of_number d first) earlier more
      ∙ ap (λ (js : List Job). filter (of_number d first) earlier ++ js) (passed first (omega arith))
      ∙ append-nil (filter (of_number d first) earlier))
      ∙ sym (after-nameless d (filter (of_number d first) earlier) job) in
      ap (λ (front : List Hits). front ++ trail_from (items_of_job d) ((earlier ++ more) ++ job ∷ []) (ends_from (number + 1) rest)) own
      ∙ ap (λ (js : List Job). ended_by first ++ trail_from (items_of_job d) js (ends_from (number + 1) rest)) (append_assoc earlier more (job ∷ []))
      ∙ ap (λ (back : List Hits). ended_by first ++ back) (ends-plain count (first + 1) (number + 1) (more ++ job ∷ []) passed_too)

-- the items at the end of the flow of a key
abbrev ends_of : Detection → Way → List LinkedRecord → Key → List Hits
ends_of d way records key = after d (trail (of_key way key) records) (finish_job (end_of records))

-- ---- lists

flat_map-same : {X A : Type 0} (f g : X → List A) (xs : List X) → All (λ (x : X). f x ≡ g x) xs → flat_map f xs ≡ flat_map g xs
flat_map-same f g [] all = refl
flat_map-same {X} {A} f g (x ∷ xs) all =
    ap (λ (front : List A). front ++ flat_map f xs) (All-head (λ (y : X). f y ≡ g y) x xs all)
    ∙ ap (λ (back : List A). g x ++ back) (flat_map-same f g xs (All-tail (λ (y : X). f y ≡ g y) x xs all))

-- what is made of the elements that are kept is what a test keeps of what is made of all
flat_map-filter : {X A : Type 0} (kept : X → Bool) (test : A → Bool) (f g : X → List A) → ((x : X) → kept x ≡ true → f x ≡ g x) → ((x : X) → All (λ (a : A). test a ≡ kept x) (g x))
    → (xs : List X) → flat_map f (filter kept xs) ≡ filter test (flat_map g xs)
flat_map-filter kept test f g same each [] = refl
flat_map-filter {X} {A} kept test f g same each (x ∷ xs) = by_test (kept x) refl (flat_map-filter kept test f g same each xs)
  where
    split : filter test (g x ++ flat_map g xs) ≡ cond (kept x) (g x) [] ++ filter test (flat_map g xs)
    split = filter-append test (g x) (flat_map g xs) ∙ ap (λ (front : List A). front ++ filter test (flat_map g xs)) (filter-same test (kept x) (g x) (each x))

    by_test : (b : Bool) → kept x ≡ b → flat_map f (filter kept xs) ≡ filter test (flat_map g xs)
        → flat_map f (cond b (x ∷ filter kept xs) (filter kept xs)) ≡ filter test (g x ++ flat_map g xs)
    by_test true is rest =
        ap (λ (front : List A). front ++ flat_map f (filter kept xs)) (same x is)
        ∙ ap (λ (back : List A). g x ++ back) rest
        ∙ sym (split ∙ ap (λ (c : Bool). cond c (g x) [] ++ filter test (flat_map g xs)) is)
    by_test false isnt rest = rest ∙ sym (split ∙ ap (λ (c : Bool). cond c (g x) [] ++ filter test (flat_map g xs)) isnt)

-- ---- the flows that live after all records
module _ (d : Detection) (way : Way) (records : List LinkedRecord) (room : HasRoomFor way records) where
  -- the last items of a capture, by the packets of their keys alone
  last-plain : last_items d way records ≡ flat_map (ends_of d way records) (first_keys (touches way records))
  unfolding finishes
  last-plain =
      let max = most_flows way.stream in
      let keys : List Key = first_keys (touches way records) in
      let before : List Job = trail (jobs way) records in
      let moment = end_of records in
      let count : ℕ = begun max (touches way records) in
      let number : Key → ℕ = flow_number max (touches way records) in
      let each : All (λ (key : Key). ended_by d before moment (number key) ≡ ends_of d way records key) keys =
      All-weaker (λ (key : Key). is_touched (touches way records) key ≡ true) (λ (key : Key). ended_by d before moment (number key) ≡ ends_of d way records key)
      (λ key touched. ap (λ (js : List Job). after d js (finish_job moment)) (flow-of_key way records room key touched records [] (append-nil records)))
      keys (first-touched max (touches way records)) in
      ap (λ (flows : List ℕ). trail_from (items_of_job d) before (ends_from d before moment (job_count way records) flows)) (all-live max (touches way records) room)
      ∙ ap (λ (js : List Job). trail_from (items_of_job d) js (ends_from d before moment (job_count way records) (range_with_len 0 count))) (sym (append-nil before))
      ∙ ends-plain d before moment count 0 (job_count way records) [] (λ flow later. refl)
      ∙ ap (flat_map (ended_by d before moment)) (sym (first-numbers max (touches way records) room))
      ∙ flat_map-map (ended_by d before moment) number keys
      ∙ flat_map-same (λ (key : Key). ended_by d before moment (number key)) (ends_of d way records) keys each

no-touches : (way : Way) → touches way [] ≡ []
unfolding touches
no-touches way = refl

-- ---- the law
module _ (d : Detection) (way : Way) (pairs : Pairs) (part : Part) (records : List LinkedRecord) (whole : IsSplitWhole way pairs part records) where
  -- a key of the part
  abbrev own_key : Key → Bool
  own_key key = pairs key.low.addr key.high.addr

  abbrev items : List LinkedRecord → LinkedRecord → List Hits
  items = record_items d way

  -- an item that goes between the part's pairs
  abbrev own_item : Hits → Bool
  own_item hits = is_between pairs hits.head

  abbrev between : List Hits → List Hits
  between = filter own_item

  key-of_part : (before : List LinkedRecord) (r : LinkedRecord) (key : Key) → key_in way before r ≡ Some key → own_key key ≡ part r
  unfolding key_in
  key-of_part before r key is = by_packet (packet_in way before r) refl is
    where
      by_packet : (packet : Option RecordItem) → packet_in way before r ≡ packet → option_and_then (item_key way) packet ≡ Some key → own_key key ≡ part r
      by_packet None found is = absurd cc
      by_packet (Some item) found is = key-tells way pairs part whole.of_pairs before r item key found is

  same-key : (before : List LinkedRecord) (r : LinkedRecord) (rest : List LinkedRecord) → before ++ r ∷ rest ≡ records → part r ≡ true → key_in way (filter part before) r ≡ key_in way before r
  unfolding key_in
  same-key before r rest are of = ap (λ (o : Option RecordItem). option_and_then (item_key way) o) (same-packet way part records whole.split before r rest are of)

  -- the part's touches are those of its keys
  own-option : (o : Option Key) (c : Bool) (keys : List Key) → ((key : Key) → o ≡ Some key → own_key key ≡ c)
      → filter own_key (option_to_list o ++ keys) ≡ cond c (option_to_list o) [] ++ filter own_key keys
  own-option None true keys tells = refl
  own-option None false keys tells = refl
  own-option (Some key) true keys tells = ap (λ (b : Bool). cond b (key ∷ filter own_key keys) (filter own_key keys)) (tells key refl)
  own-option (Some key) false keys tells = ap (λ (b : Bool). cond b (key ∷ filter own_key keys) (filter own_key keys)) (tells key refl)

  own-push : (before : List LinkedRecord) (r : LinkedRecord) (c : Bool) → part r ≡ c
      → filter own_key (touches way (before ++ r ∷ [])) ≡ cond c (option_to_list (key_in way before r)) [] ++ filter own_key (touches way before)
  own-push before r c is = ap (filter own_key) (touches-push way before r) ∙ own-option (key_in way before r) c (touches way before) (λ key found. key-of_part before r key found ∙ is)

  own-touches : (before rest : List LinkedRecord) → before ++ rest ≡ records → touches way (filter part before) ≡ filter own_key (touches way before)
  own-touches = along_all Same records (no-touches way ∙ sym (ap (filter own_key) (no-touches way))) step
    where
      Same : List LinkedRecord → Type 0
      Same before = touches way (filter part before) ≡ filter own_key (touches way before)

      step : (before : List LinkedRecord) (r : LinkedRecord) (rest : List LinkedRecord) → before ++ r ∷ rest ≡ records → Same before → Same (before ++ r ∷ [])
      step before r rest are same = by_part (part r) refl
        where
          by_part : (b : Bool) → part r ≡ b → Same (before ++ r ∷ [])
          by_part true is =
              ap (touches way) (filter-kept part before r [] is)
              ∙ touches-push way (filter part before) r
              ∙ ap (λ (o : Option Key). option_to_list o ++ touches way (filter part before)) (same-key before r rest are is)
              ∙ ap (λ (keys : List Key). option_to_list (key_in way before r) ++ keys) same
              ∙ sym (own-push before r true is)
          by_part false isnt = ap (touches way) (filter-left part before r isnt) ∙ same ∙ sym (own-push before r false isnt)

  -- the last items of a flow of the part are those of the whole
  same-ends : (key : Key) → own_key key ≡ true → ends_of d way (filter part records) key ≡ ends_of d way records key
  same-ends key is =
      let owns : (earlier : List LinkedRecord) (s : LinkedRecord) (item : RecordItem) → packet_in way earlier s ≡ Some item → item_key way item ≡ Some key → part s ≡ true =
      λ earlier s item found tracked. sym (key-tells way pairs part whole.of_pairs earlier s item key found tracked) ∙ is in
      ap (λ (js : List Job). after d js (finish_job (end_of (filter part records))))
      (same-key_packets way part records whole.split.by_pair whole.split.start (same-packet way part records whole.split) key owns records [] (append-nil records))
      ∙ ap (λ (moment : Moment). after d (trail (of_key way key) records) (finish_job moment)) whole.end

  own-last : last_items d way (filter part records) ≡ between (last_items d way records)
  own-last =
      let each : (key : Key) → All (λ (hits : Hits). own_item hits ≡ own_key key) (ends_of d way records key) =
      λ key. all-tell way pairs part whole.of_pairs key.low.addr key.high.addr (own_key key) refl (ends_of d way records key) (finish-items way key d records (end_of records)) in
      last-plain d way (filter part records) (part-room way part records (same-packet way part records whole.split) whole.split.room)
      ∙ ap (λ (keys : List Key). flat_map (ends_of d way (filter part records)) (first_keys keys)) (own-touches records [] (append-nil records))
      ∙ ap (flat_map (ends_of d way (filter part records))) (first-filtered own_key (touches way records))
      ∙ flat_map-filter own_key own_item (ends_of d way (filter part records)) (ends_of d way records) same-ends each (first_keys (touches way records))
      ∙ sym (ap between (last-plain d way records whole.split.room))

  -- the items of a record are the part's own exactly where the record is the part's
  tells : (before : List LinkedRecord) (r : LinkedRecord) (rest : List LinkedRecord) → before ++ r ∷ rest ≡ records → All (λ (hits : Hits). own_item hits ≡ part r) (items before r)
  tells before r rest are =
      subst (All (λ (hits : Hits). own_item hits ≡ part r))
      (sym (items-plain d way before r (room-at way records (before ++ r ∷ []) rest whole.split.room (append_assoc before (r ∷ []) rest ∙ are))))
      (record-tells way pairs part whole.of_pairs d before r)

  items-push : (before : List LinkedRecord) (r : LinkedRecord) (rest : List LinkedRecord) (c : Bool) → before ++ r ∷ rest ≡ records → part r ≡ c
      → between (trail items (before ++ r ∷ [])) ≡ between (trail items before) ++ cond c (items before r) []
  items-push before r rest c are is =
      ap between (trail-push items before r)
      ∙ filter-append own_item (trail items before) (items before r)
      ∙ ap (λ (back : List Hits). between (trail items before) ++ back) (filter-same own_item (part r) (items before r) (tells before r rest are))
      ∙ ap (λ (b : Bool). between (trail items before) ++ cond b (items before r) []) is

  own-items : (before rest : List LinkedRecord) → before ++ rest ≡ records → trail items (filter part before) ≡ between (trail items before)
  own-items = along_all Same records refl step
    where
      Same : List LinkedRecord → Type 0
      Same before = trail items (filter part before) ≡ between (trail items before)

      step : (before : List LinkedRecord) (r : LinkedRecord) (rest : List LinkedRecord) → before ++ r ∷ rest ≡ records → Same before → Same (before ++ r ∷ [])
      step before r rest are same = by_part (part r) refl
        where
          by_part : (b : Bool) → part r ≡ b → Same (before ++ r ∷ [])
          by_part true is =
              ap (trail items) (filter-kept part before r [] is)
              ∙ trail-push items (filter part before) r
              ∙ ap (λ (front : List Hits). front ++ items (filter part before) r) same
              ∙ ap (λ (back : List Hits). between (trail items before) ++ back) (same-items way part records whole.split d before r rest are is)
              ∙ sym (items-push before r rest true are is)
          by_part false isnt =
              ap (trail items) (filter-left part before r isnt)
              ∙ same
              ∙ sym (append-nil (between (trail items before)))
              ∙ sym (items-push before r rest false are isnt)

  pub part-items : all_items d way (of_part part records) ≡ items_between pairs (all_items d way records)
  part-items =
      ap₂ (λ (front back : List Hits). front ++ back) (own-items records [] (append-nil records)) own-last
      ∙ sym (filter-append own_item (trail items records) (last_items d way records))
