-- What all lanes did of a batch, put together: the parts of their answers make the one list of answers, and
-- the lanes stand for the batch.
use Rattle.std.proofs.Common.{◌≡◌, ℕ, ◌+◌, ◌<◌, ◌==◌, Bool, true, false, List, [], ◌∷◌, ◌++◌, length, get_or, map, Option, Some, None, refl, sym, ap, subst, ◌∙◌, arith}
use Rattle.std.specs.Prelude.{sum, sum_by, option_and_then, slice_get}
use Rattle.std.specs.List.{AllPairs, filter, flat_map}
use Rattle.std.specs.List.Sorted.{IsPermutation, IsStrictlyIncreasing}
use Rattle.std.proofs.lemmas.Bool.Decides.{nat_tests}
use Rattle.std.proofs.lemmas.List.{get_or-map, get_or_default, length-map, map-append}
use Rattle.std.proofs.lemmas.List.Elements.{filter-append}
use Rattle.std.proofs.lemmas.List.Kept.{AllPairs-filter, AllPairs-from_increasing}
use Rattle.std.proofs.lemmas.List.Sums.{sum-map}
use Rattle.std.proofs.lemmas.Option.{slice_get-get_or, slice_get_within}
use Rattle.edge_io.specs.Along.{AscendsBy, IsLocal, along_from}
use Rattle.edge_io.proofs.Along.{map-along_from}
use Rattle.edge_io.proofs.AlongClasses.{joined_classes}
use Rattle.option_eval.specs.Places.{Means}
use Rattle.ordered_merge.specs.declared.numbered.Numbered.{Numbered}
use Rattle.flow_lanes.specs.declared.answer.BatchOut.{BatchOut}
use Rattle.flow_lanes.specs.declared.answer.JobFound.{JobFound}
use Rattle.flow_lanes.specs.declared.answer.JobHits.{JobHits}
use Rattle.flow_lanes.specs.declared.answer.Matches.{Matches}
use Rattle.flow_lanes.specs.declared.job.Job.{Job}
use Rattle.flow_lanes.specs.Flows.{Detection, answer, flow_of, same_flow}
use Rattle.flow_lanes.specs.Given.{Inspection}
use Rattle.flow_lanes.specs.Sound.{FlowFacts, IsSoundFor, facts_after}
use Rattle.flow_lanes.specs.ItemHits.{matched_entry, told_entry}
use Rattle.flow_lanes.specs.LanesAfter.{AreSoundFor, DetectsBy, LaneState, LanesState, IsAfter, is_in_lane, known_in, known_of, lane_of, new_lane}
use Rattle.flow_lanes.specs.Batching.{AreParts, AreSearched, AreSoundIn, GoesOn, HaveAnswered, HaveMatched, HaveSearched, found_of, numbered_out, own_jobs}
use Rattle.flow_lanes.proofs.Jobs.AnswersJoined.{answers_joined}
use Rattle.flow_lanes.proofs.Jobs.AnswersOfFlow.{answer-local, is_in_lane-by_class, tries-local}
use Rattle.flow_lanes.proofs.Jobs.OwnJobs.{GoesOn-known}

-- a lane that keeps nothing, where a place needs one
idle : LaneState
idle = new_lane 0 false

in_own_lane : (count : ℕ) (flow : Option ℕ) → (lane_of count flow == lane_of count flow) ≡ true
in_own_lane count flow = same (lane_of count flow)
  where
    same : (n : ℕ) → (n == n) ≡ true
    same n = grind (arith, nat_tests)

pub below_count : (count : ℕ) (flow : Option ℕ) → 0 < count → lane_of count flow < count
below_count count None some = some
below_count count (Some flow) some = omega arith

-- the answers of two parts in one, mapped
map-flat_map : {X A B : Type 0} (f : A → B) (g : X → List A) (xs : List X) → map f (flat_map g xs) ≡ flat_map (λ x. map f (g x)) xs
map-flat_map f g [] = refl
map-flat_map f g (x ∷ xs) = map-append f (g x) (flat_map g xs) ∙ ap (λ rest. map f (g x) ++ rest) (map-flat_map f g xs)

-- what ascends does so still where some are left out
pub AscendsBy-filter : {X : Type 0} (key : X → ℕ) (p : X → Bool) (xs : List X) → AscendsBy key xs → AscendsBy key (filter p xs)
AscendsBy-filter {X} key p xs ascends = rising (filter p xs) (AllPairs-filter (λ (x y : X). key x < key y) p xs (λ i j d less within. read i j d less within))
  where
    read : (i j : ℕ) (d : X) → i < j → j < length xs → key (get_or xs i d) < key (get_or xs j d)
    read i j d less within =
        let size = length-map xs key in
        let apart = AllPairs-from_increasing (map key xs) ascends i j 0 less (omega arith) in
        let at_i = get_or-map key xs i d 0 (omega arith) in
        let at_j = get_or-map key xs j d 0 within in
        omega arith

    rising : (ys : List X) → AllPairs (λ (x y : X). key x < key y) ys → AscendsBy key ys
    rising [] pairs k within = absurd (omega arith)
    rising (y ∷ ys) pairs k within =
        let size = length-map (y ∷ ys) key in
        let at_k = get_or-map key (y ∷ ys) k y 0 (omega arith) in
        let at_next = get_or-map key (y ∷ ys) (k + 1) y 0 (omega arith) in
        let apart = pairs k (k + 1) y (omega arith) (omega arith) in
        omega arith

-- an answer with its job's number goes by the jobs of its flow alone
pub numbered_out-local : (all : Bool) (d : Detection) → IsLocal same_flow (numbered_out all d)
numbered_out-local all d before job =
    λ i. record {
      number = job.number;
      value = record { hits = told_entry all (answer-local d before job i); items = length (answer-local d before job i).items; tries = tries-local d before job i };
    }

-- each lane's jobs are sound, where the batch's are
pub AreSoundFor-in : (engines place : ℕ) (lanes : LanesState) (lane : LaneState) (jobs : List Job)
    → AreSoundFor engines lanes jobs
    → slice_get lanes.lanes place ≡ Some lane
    → AreSoundIn engines (length lanes.lanes) place lane jobs
AreSoundFor-in engines place lanes lane jobs sound is front job rest whole here =
    let same : lane_of (length lanes.lanes) (flow_of job) ≡ place = grind (arith, nat_tests) in
    let known : known_in lanes job ≡ known_of lane job =
    ap (λ at. option_and_then (λ (l : LaneState). known_of l job) (slice_get lanes.lanes at)) same ∙ ap (option_and_then (λ (l : LaneState). known_of l job)) is in
    subst (λ facts. IsSoundFor engines (facts_after facts (filter (same_flow job) front)) job) known (sound front job rest whole)

module _ {P : Type 0} (by : Inspection P) (olds : List LaneState) (jobs : List Job) (parts : List (List (Numbered JobFound))) (news : List LaneState)
    (are : AreParts by olds jobs parts news) where
  -- the lane and the part at a place
  at_place : (place : ℕ) → place < length olds → GoesOn by (get_or olds place idle) (own_jobs (length olds) place jobs) (get_or parts place []) (get_or news place idle)
  at_place place within =
      are.each place (get_or olds place idle) (get_or news place idle) (get_or parts place [])
      (slice_get-get_or olds place idle within)
      (slice_get-get_or parts place [] (omega (arith, are.parts_count)))
      (slice_get-get_or news place idle (omega (arith, are.news_count)))

  numbers_at : (place : ℕ) (part : List (Numbered JobFound))
      → place < length parts
      → map (λ (out : Numbered JobFound). out.number) (get_or parts place part) ≡
      map (λ (job : Job). job.number) (own_jobs (length parts) place jobs)
  numbers_at place part within =
      ap (map (λ (out : Numbered JobFound). out.number)) (get_or_default parts place part [] within)
      ∙ (at_place place (omega (arith, are.parts_count))).numbers
      ∙ ap (λ count. map (λ (job : Job). job.number) (own_jobs count place jobs)) (sym are.parts_count)

  -- the answers of a lane bear ascending numbers
  pub part_ascends : AscendsBy (λ (job : Job). job.number) jobs
      → (place : ℕ) (part : List (Numbered JobFound))
      → place < length parts
      → AscendsBy (λ (out : Numbered JobFound). out.number) (get_or parts place part)
  part_ascends ascend place part within =
      subst IsStrictlyIncreasing (sym (numbers_at place part within)) (AscendsBy-filter (λ (job : Job). job.number) (is_in_lane (length parts) place) jobs ascend)

  -- all parts have the numbers of the batch
  pub numbers_joined : 0 < length olds → IsPermutation (map (λ (job : Job). job.number) jobs) (map (λ (out : Numbered JobFound). out.number) (flat_map (λ part. part) parts))
  numbers_joined some =
      subst (λ (numbers : List ℕ). IsPermutation (map (λ (job : Job). job.number) jobs) numbers)
      (sym (map-flat_map (λ (out : Numbered JobFound). out.number) (λ part. part) parts))
      (joined_classes (λ (job : Job). lane_of (length parts) (flow_of job))
      (λ (job : Job). job.number)
      (λ (part : List (Numbered JobFound)). map (λ (out : Numbered JobFound). out.number) part) jobs parts
      (λ job. below_count (length parts) (flow_of job) (omega (arith, are.parts_count)))
      numbers_at)

  -- what the lanes know of a flow
  pub parts_know : (old new : LanesState)
      → old.lanes ≡ olds
      → new.lanes ≡ news
      → 0 < length olds
      → (other : Job)
      → known_in new other ≡ facts_after (known_in old other) (filter (same_flow other) jobs)
  parts_know old new is_old is_new some other =
      let place : ℕ = lane_of (length olds) (flow_of other) in
      let within : place < length olds = below_count (length olds) (flow_of other) some in
      let here =
      GoesOn-known by (length olds) place (get_or olds place idle) (get_or news place idle) jobs (get_or parts place []) other
      (in_own_lane (length olds) (flow_of other))
      (at_place place within) in
      let known : List LaneState → ℕ → Option FlowFacts = λ lanes count.
      option_and_then (λ (lane : LaneState). known_of lane other) (slice_get lanes (lane_of count (flow_of other))) in
      let after : known_in new other ≡ known_of (get_or news place idle) other =
      ap (λ lanes. known lanes (length lanes)) is_new
      ∙ ap (known news) are.news_count
      ∙ ap (option_and_then (λ (lane : LaneState). known_of lane other))
      (slice_get-get_or news place idle (omega (arith, are.news_count))) in
      let before : known_in old other ≡ known_of (get_or olds place idle) other =
      ap (λ lanes. known lanes (length lanes)) is_old
      ∙ ap (option_and_then (λ (lane : LaneState). known_of lane other)) (slice_get-get_or olds place idle within) in
      after ∙ here ∙ ap (λ facts. facts_after facts (filter (same_flow other) jobs)) (sym before)

  module _ (means : Means) (d : Detection) (before : List Job) (detects : DetectsBy by.finds means by.stream by.set d)
      (hold : (place : ℕ) (lane : LaneState) → slice_get olds place ≡ Some lane → IsAfter d lane (own_jobs (length olds) place before)) where
    -- the lanes stand for the batch too
    pub parts_hold : (place : ℕ) (lane : LaneState) → slice_get news place ≡ Some lane → IsAfter d lane (own_jobs (length news) place (before ++ jobs))
    parts_hold place lane is =
        let within : place < length olds = omega (arith, are.news_count, slice_get_within news place lane is) in
        let old = slice_get-get_or olds place idle within in
        let done = are.each place (get_or olds place idle) lane (get_or parts place []) old (slice_get-get_or parts place [] (omega (arith, are.parts_count))) is in
        let holds = (done.right means d (own_jobs (length olds) place before) detects (hold place (get_or olds place idle) old)).holds in
        subst (λ count. IsAfter d lane (own_jobs count place (before ++ jobs))) (sym are.news_count)
        (subst (λ (js : List Job). IsAfter d lane js) (sym (filter-append (is_in_lane (length olds) place) before jobs)) holds)

    -- an ascending list of all answers is that of the jobs taken one by one
    pub parts_answer : 0 < length olds → AscendsBy (λ (job : Job). job.number) jobs → (merged : List (Numbered JobFound)) → IsPermutation (flat_map (λ part. part) parts) merged
        → AscendsBy (λ (out : Numbered JobFound). out.number) merged → merged ≡ along_from (numbered_out by.all d) before jobs
    parts_answer some ascend merged whole ascending =
        answers_joined same_flow (λ (job : Job). lane_of (length parts) (flow_of job)) (λ (job : Job). job.number) (λ (out : Numbered JobFound). out.number) (numbered_out by.all d)
        (numbered_out-local by.all d) (is_in_lane-by_class (length parts)) (λ b job. refl) before jobs parts
        (λ job. below_count (length parts) (flow_of job) (omega (arith, are.parts_count)))
        answers_at ascend merged whole ascending
      where
        answers_at : (place : ℕ) (part : List (Numbered JobFound)) → place < length parts
            → get_or parts place part ≡ along_from (numbered_out by.all d) (own_jobs (length parts) place before) (own_jobs (length parts) place jobs)
        answers_at place part within =
            let inside : place < length olds = omega (arith, are.parts_count) in
            let holds = hold place (get_or olds place idle) (slice_get-get_or olds place idle inside) in
            get_or_default parts place part [] within
            ∙ ((at_place place inside).right means d (own_jobs (length olds) place before) detects holds).right
            ∙ ap (λ count. along_from (numbered_out by.all d) (own_jobs count place before) (own_jobs count place jobs)) (sym are.parts_count)

  -- the batch is searched by its parts, merged
  pub parts_searched : 0 < length olds → AscendsBy (λ (job : Job). job.number) jobs
      → (merged : List (Numbered JobFound)) → IsPermutation (flat_map (λ part. part) parts) merged → AscendsBy (λ (out : Numbered JobFound). out.number) merged
      → HaveSearched by olds jobs merged news
  parts_searched some ascend merged whole ascending old new is_old is_new means d before detects hold =
      let each : (place : ℕ) (lane : LaneState)
      → slice_get olds place ≡ Some lane
      → IsAfter d lane (own_jobs (length olds) place before) =
      subst (λ (lanes : List LaneState). (place : ℕ) (lane : LaneState) → slice_get lanes place ≡ Some lane →
      IsAfter d lane (own_jobs (length lanes) place before)) is_old hold.each in
      record {
        right = parts_answer means d before detects each some ascend merged whole ascending;
        holds = record {
          some = subst (λ (lanes : List LaneState). 0 < length lanes) (sym is_new) (omega (arith, are.news_count));
          each =
              subst (λ (lanes : List LaneState). (place : ℕ) (lane : LaneState) → slice_get lanes place ≡ Some lane →
              IsAfter d lane (own_jobs (length lanes) place (before ++ jobs)))
              (sym is_new) (parts_hold means d before detects each);
        };
      }

-- the sum of what is counted of each job
sum-found : (all : Bool) (d : Detection) (count : JobFound → ℕ) (before jobs : List Job) (found : List (Numbered JobFound)) → found ≡ along_from (numbered_out all d) before jobs
    → sum_by (λ (o : Numbered JobFound). count o.value) found ≡ sum (along_from (λ (b : List Job) (job : Job). count (found_of all d b job)) before jobs)
sum-found all d count before jobs found is =
    sym (sum-map (λ (o : Numbered JobFound). count o.value) found) ∙ ap (λ (outs : List (Numbered JobFound)). sum (map (λ (o : Numbered JobFound). count o.value) outs)) is
    ∙ ap sum (map-along_from (λ (o : Numbered JobFound). count o.value) (numbered_out all d) before jobs)

hits-found : (all : Bool) (d : Detection) (before jobs : List Job) (found : List (Numbered JobFound)) → found ≡ along_from (numbered_out all d) before jobs
    → map (λ (o : Numbered JobFound). o.value.hits) found ≡ along_from (λ (b : List Job) (job : Job). told_entry all (answer d b job)) before jobs
hits-found all d before jobs found is = ap (map (λ (o : Numbered JobFound). o.value.hits)) is ∙ map-along_from (λ (o : Numbered JobFound). o.value.hits) (numbered_out all d) before jobs

module _ {P : Type 0} (by : Inspection P) (olds news : List LaneState) (jobs : List Job) (found : List (Numbered JobFound)) where
  -- a search that tells all items answers the batch
  pub answered : by.all ≡ true → HaveSearched by olds jobs found news
      → (out : BatchOut) → out.hits ≡ map (λ (o : Numbered JobFound). o.value.hits) found → out.tries ≡ sum_by (λ (o : Numbered JobFound). o.value.tries) found
      → HaveAnswered by olds jobs out news
  answered is searched out hits tries old new is_old is_new means d before detects hold =
      let done : AreSearched true d before jobs found new = subst (λ (b : Bool). AreSearched b d before jobs found new) is (searched old new is_old is_new means d before detects hold) in
      record {
        hits = hits ∙ hits-found true d before jobs found done.right;
        tries = tries ∙ sum-found true d (λ (f : JobFound). f.tries) before jobs found done.right;
        holds = done.holds;
      }

  -- a search that tells the items that a rule matches gives the batch's matches
  pub told_matches : by.all ≡ false → HaveSearched by olds jobs found news
      → (out : Matches) → out.hits.items ≡ map (λ (o : Numbered JobFound). o.value.hits) found → out.items ≡ sum_by (λ (o : Numbered JobFound). o.value.items) found
      → out.tries ≡ sum_by (λ (o : Numbered JobFound). o.value.tries) found → HaveMatched by olds jobs out news
  told_matches is searched out hits items tries old new is_old is_new means d before detects hold =
      let done : AreSearched false d before jobs found new =
      subst (λ (b : Bool). AreSearched b d before jobs found new) is
      (searched old new is_old is_new means d before detects hold) in
      record {
        hits = hits ∙ hits-found false d before jobs found done.right ∙ sym (map-along_from matched_entry (answer d) before jobs);
        items = items ∙ sum-found false d (λ (f : JobFound). f.items) before jobs found done.right
            ∙ sym (sym (sum-map (λ (entry : JobHits). length entry.items) (along_from (answer d) before jobs)) ∙
            ap sum (map-along_from (λ (entry : JobHits). length entry.items) (answer d) before jobs));
        tries = tries ∙ sum-found false d (λ (f : JobFound). f.tries) before jobs found done.right;
        holds = done.holds;
      }
