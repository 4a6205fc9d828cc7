-- A batch in turn: each job is searched by its own lane, and what is found of it is put after what was found of the
-- jobs before it. So it is what is found of the jobs taken one by one, and the lanes stand for these jobs.
use Rattle.std.proofs.Common.{◌≡◌, ℕ, zero, suc, ◌<◌, Bool, true, false, cond, List, [], ◌∷◌, ◌++◌, length, get_or, set, Option}
use Rattle.std.proofs.Common.{Some, None, refl, sym, ap, subst, ◌∙◌, ◌⊎◌, inl, inr, append_assoc, eq-eqb, arith}
use Rattle.std.specs.Prelude.{option_and_then, option_map, slice_get}
use Rattle.std.specs.List.{filter}
use Rattle.std.proofs.lemmas.Bool.{cases_eq, eqb-true, false_from_ne_true, ne_eqb}
use Rattle.std.proofs.lemmas.List.{append-nil, length-map, length-set, map-set}
use Rattle.std.proofs.lemmas.List.Elements.{filter-append}
use Rattle.std.proofs.lemmas.List.Sums.{fold-append}
use Rattle.std.proofs.lemmas.Option.{same_Some, slice_get-get_or, slice_get-map, slice_get_within}
use Rattle.edge_io.proofs.Along.{along_from-append}
use Rattle.ordered_merge.specs.declared.numbered.Numbered.{Numbered}
use Rattle.flow_lanes.specs.declared.answer.JobFound.{JobFound}
use Rattle.flow_lanes.specs.declared.job.Job.{Job}
use Rattle.flow_lanes.specs.declared.worker.Worker.{Worker}
use Rattle.flow_lanes.specs.Flows.{Detection, flow_of, same_flow}
use Rattle.flow_lanes.specs.Given.{Inspection}
use Rattle.flow_lanes.specs.Sound.{FlowFacts, IsSoundFor, facts_after, facts_after_one}
use Rattle.flow_lanes.specs.LanesAfter.{LaneState, AreAfter, LanesState, LearnsJob, IsAfter, is_in_lane, known_in, known_of, lane_of}
use Rattle.flow_lanes.specs.Batching.{AddsFound, AreSearched, AreSoundAmong, HaveLearnt, HaveSearched, IsSearched, SearchesJob, lanes_of, numbered_out, own_jobs}
use Rattle.flow_lanes.proofs.Jobs.AnswersOfFlow.{is_in_lane-by_class}
use Rattle.flow_lanes.proofs.Jobs.OwnJobs.{own_jobs-more, own_jobs-of_flow}
use Rattle.flow_lanes.proofs.Jobs.HaveSearched.{numbered_out-local}

-- one lane has all jobs
pub one_lane : (count : ℕ) (flow : Option ℕ) → count ≡ 1 → 0 ≡ lane_of count flow
one_lane count None one = refl
one_lane count (Some flow) one = omega arith

-- what is in a list after a write
slice_get-set_same : {X : Type 0} (xs : List X) (i : ℕ) (y : X) → i < length xs → slice_get (set xs i y) i ≡ Some y
slice_get-set_same [] i y within = absurd (omega arith)
slice_get-set_same (x ∷ xs) zero y within = refl
slice_get-set_same (x ∷ xs) (suc i) y within = slice_get-set_same xs i y (omega arith)

slice_get-set_other : {X : Type 0} (xs : List X) (i k : ℕ) (y : X) → (k ≡ i → ⊥) → slice_get (set xs i y) k ≡ slice_get xs k
slice_get-set_other [] i k y apart = refl
slice_get-set_other (x ∷ xs) zero zero y apart = absurd (apart refl)
slice_get-set_other (x ∷ xs) zero (suc k) y apart = refl
slice_get-set_other (x ∷ xs) (suc i) zero y apart = refl
slice_get-set_other (x ∷ xs) (suc i) (suc k) y apart = slice_get-set_other xs i k y (λ same. apart (ap suc same))

-- lanes of which nothing else is asked
abbrev among : List LaneState → LanesState
among lanes = record { lanes = lanes; greatest = None; failed = false }

-- what lanes know of the flow of a job
abbrev knows : List LaneState → Job → Option FlowFacts
knows lanes job = option_and_then (λ (lane : LaneState). known_of lane job) (slice_get lanes (lane_of (length lanes) (flow_of job)))

-- lanes stand for what each of them stands for
AreAfter-same : (d : Detection) (old new : LanesState) (before : List Job) → old.lanes ≡ new.lanes → AreAfter d old before → AreAfter d new before
AreAfter-same d old new before is hold = record {
  some = subst (λ (lanes : List LaneState). 0 < length lanes) is hold.some;
  each = subst (λ (lanes : List LaneState). (place : ℕ) (lane : LaneState) → slice_get lanes place ≡ Some lane → IsAfter d lane (own_jobs (length lanes) place before)) is hold.each;
}

-- what is found of a job goes by the earlier jobs of its lane alone
numbered_out-own : (all : Bool) (d : Detection) (count place : ℕ) (job : Job) (before : List Job)
    → is_in_lane count place job ≡ true
    → numbered_out all d (own_jobs count place before) job ≡ numbered_out all d before job
numbered_out-own all d count place job before here =
    numbered_out-local all d (own_jobs count place before) job
    ∙ ap (λ (jobs : List Job). numbered_out all d jobs job) (own_jobs-of_flow count place job here before)
    ∙ sym (numbered_out-local all d before job)

-- the lanes stand for a job more, where its own lane does
hold-more : (d : Detection) (lanes : List LaneState) (place : ℕ) (mid next : LaneState) (job : Job) (before : List Job) → is_in_lane (length lanes) place job ≡ true → slice_get lanes place ≡ Some mid
    → AreAfter d (among lanes) before → IsAfter d next (own_jobs (length lanes) place before ++ job ∷ []) → AreAfter d (among (set lanes place next)) (before ++ job ∷ [])
hold-more d lanes place mid next job before here is_mid hold done = record {
  some = omega (arith, length-set lanes place next, hold.some);
  each = λ p lane is.
      subst (λ (count : ℕ). IsAfter d lane (own_jobs count p (before ++ job ∷ []))) (sym (length-set lanes place next)) (at_place p lane is (cases_eq p place));
}
  where
    at_place : (p : ℕ) (lane : LaneState) → slice_get (set lanes place next) p ≡ Some lane → (p ≡ place) ⊎ (p ≡ place → ⊥) → IsAfter d lane (own_jobs (length lanes) p (before ++ job ∷ []))
    at_place p lane is (inl same) =
        let read : Some next ≡ Some lane =
        sym (slice_get-set_same lanes place next (slice_get_within lanes place mid is_mid)) ∙ ap (slice_get (set lanes place next)) (sym same) ∙ is in
        subst (λ (q : ℕ). IsAfter d lane (own_jobs (length lanes) q (before ++ job ∷ []))) (sym same)
        (subst (λ (js : List Job). IsAfter d lane js) (sym (own_jobs-more (length lanes) place before job true here))
        (subst (λ (l : LaneState). IsAfter d l (own_jobs (length lanes) place before ++ job ∷ [])) (same_Some next lane read) done))
    at_place p lane is (inr apart) =
        let other : is_in_lane (length lanes) p job ≡ false =
        ne_eqb (lane_of (length lanes) (flow_of job)) p (λ same. apart (sym same ∙ eqb-true (lane_of (length lanes) (flow_of job)) place here)) in
        subst (λ (js : List Job). IsAfter d lane js) (sym (own_jobs-more (length lanes) p before job false other ∙ append-nil (own_jobs (length lanes) p before)))
        (hold.each p lane (sym (slice_get-set_other lanes place p next apart) ∙ is))

module _ {P : Type 0} (by : Inspection P) where
  -- no job was searched
  pub searched-none : (lanes : List LaneState) → HaveSearched by lanes [] [] lanes
  searched-none lanes old new is_old is_new means d before detects hold = record {
    right = refl;
    holds = subst (λ (jobs : List Job). AreAfter d new jobs) (sym (append-nil before)) (AreAfter-same d old new before (is_old ∙ sym is_new) hold);
  }

  -- a job, by its own lane
  searched-one : (lanes : List LaneState) (place : ℕ) (mid next : LaneState) (job : Job) (out : JobFound) → place ≡ lane_of (length lanes) (flow_of job) → slice_get lanes place ≡ Some mid
      → SearchesJob by mid job out next
      → HaveSearched by lanes (job ∷ []) (record { number = job.number; value = out } ∷ []) (set lanes place next)
  searched-one lanes place mid next job out is_place is_mid searches old new is_old is_new means d before detects hold =
      let here : is_in_lane (length lanes) place job ≡ true = eq-eqb (lane_of (length lanes) (flow_of job)) place (sym is_place) in
      let stood : AreAfter d (among lanes) before = AreAfter-same d old (among lanes) before is_old hold in
      let own : List Job = own_jobs (length lanes) place before in
      let done : IsSearched by.all d own job out next = searches means d own detects (stood.each place mid is_mid) in
      let last : record { number = job.number; value = out } ≡ numbered_out by.all d own job = ap (λ (found : JobFound). record { number = job.number; value = found }) done.right in
      record {
        right = ap (λ (o : Numbered JobFound). o ∷ []) (last ∙ numbered_out-own by.all d (length lanes) place job before here);
        holds = AreAfter-same d (among (set lanes place next)) new (before ++ job ∷ []) (sym is_new) (hold-more d lanes place mid next job before here is_mid stood done.holds);
      }

  -- more jobs were searched
  searched-more : (olds mids news : List LaneState) (front jobs : List Job) (found more : List (Numbered JobFound)) → HaveSearched by olds front found mids
      → HaveSearched by mids jobs more news → HaveSearched by olds (front ++ jobs) (found ++ more) news
  searched-more olds mids news front jobs found more one two old new is_old is_new means d before detects hold =
      let first : AreSearched by.all d before front found (among mids) = one old (among mids) is_old refl means d before detects hold in
      let second : AreSearched by.all d (before ++ front) jobs more new = two (among mids) new refl is_new means d (before ++ front) detects first.holds in
      record {
        right = (λ i. first.right i ++ second.right i) ∙ sym (along_from-append (numbered_out by.all d) before front jobs);
        holds = subst (λ (js : List Job). AreAfter d new js) (append_assoc before front jobs) second.holds;
      }

  -- one job more
  pub turn_searched : (olds mids : List Worker) (place : ℕ) (other worker : Worker) (front : List Job) (job : Job)
      (found more : List (Numbered JobFound))
      → place < length mids
      → place ≡ lane_of (length mids) (flow_of job)
      → HaveSearched by (lanes_of olds) front found (lanes_of mids)
      → AddsFound by job (get_or mids place other).lane found worker.lane more
      → HaveSearched by (lanes_of olds) (front ++ job ∷ []) more (lanes_of (set mids place worker))
  turn_searched olds mids place other worker front job found more within is_place so_far adds =
      let is_mid : slice_get (lanes_of mids) place ≡ Some (get_or mids place other).lane =
      slice_get-map (λ (w : Worker). w.lane) mids place ∙ ap (option_map (λ (w : Worker). w.lane)) (slice_get-get_or mids place other within) in
      let at : place ≡ lane_of (length (lanes_of mids)) (flow_of job) = is_place ∙ ap (λ (count : ℕ). lane_of count (flow_of job)) (sym (length-map mids (λ (w : Worker). w.lane))) in
      subst (λ (outs : List (Numbered JobFound)). HaveSearched by (lanes_of olds) (front ++ job ∷ []) outs (lanes_of (set mids place worker))) (sym adds.added)
      (subst (λ (lanes : List LaneState). HaveSearched by (lanes_of olds) (front ++ job ∷ []) (found ++ record { number = job.number; value = adds.found } ∷ []) lanes)
      (sym (map-set (λ (w : Worker). w.lane) mids place worker))
      (searched-more (lanes_of olds) (lanes_of mids) (set (lanes_of mids) place worker.lane) front (job ∷ []) found (record { number = job.number; value = adds.found } ∷ []) so_far
      (searched-one (lanes_of mids) place (get_or mids place other).lane worker.lane job adds.found at is_mid adds.searches)))

-- what lanes know after no job
pub learnt-none : (lanes : List LaneState) → HaveLearnt lanes [] lanes
learnt-none lanes = record { count = refl; known = λ old new is_old is_new other. ap (λ (ls : List LaneState). knows ls other) (is_new ∙ sym is_old) }

-- what lanes know after one job
learnt-one : (lanes : List LaneState) (place : ℕ) (mid next : LaneState) (job : Job)
    → place ≡ lane_of (length lanes) (flow_of job)
    → slice_get lanes place ≡ Some mid
    → LearnsJob mid job next
    → HaveLearnt lanes (job ∷ []) (set lanes place next)
learnt-one lanes place mid next job is_place is_mid learns = record {
  count = length-set lanes place next;
  known = λ old new is_old is_new other.
      ap (λ (ls : List LaneState). knows ls other) is_new
      ∙ ap (λ (count : ℕ). option_and_then (λ (lane : LaneState). known_of lane other) (slice_get (set lanes place next) (lane_of count (flow_of other)))) (length-set lanes place next)
      ∙ at_lane other (cases_eq (lane_of (length lanes) (flow_of other)) place)
      ∙ ap (λ (ls : List LaneState). facts_after (knows ls other) (filter (same_flow other) (job ∷ []))) (sym is_old);
}
  where
    at_lane : (other : Job)
        → (lane_of (length lanes) (flow_of other) ≡ place) ⊎ (lane_of (length lanes) (flow_of other) ≡ place → ⊥)
        → option_and_then (λ (lane : LaneState). known_of lane other)
        (slice_get (set lanes place next) (lane_of (length lanes) (flow_of other))) ≡
        facts_after (knows lanes other) (filter (same_flow other) (job ∷ []))
    at_lane other (inl same) =
        ap (option_and_then (λ (lane : LaneState). known_of lane other))
        (ap (slice_get (set lanes place next)) same ∙
        slice_get-set_same lanes place next (slice_get_within lanes place mid is_mid))
        ∙ learns other
        ∙ ap (λ (facts : Option FlowFacts). facts_after facts (filter (same_flow other) (job ∷ [])))
        (sym (ap (option_and_then (λ (lane : LaneState). known_of lane other)) (ap (slice_get lanes) same ∙ is_mid)))
    at_lane other (inr apart) =
        let here : is_in_lane (length lanes) place job ≡ true = eq-eqb (lane_of (length lanes) (flow_of job)) place (sym is_place) in
        let stranger : same_flow other job ≡ false =
        false_from_ne_true (same_flow other job) (λ same. apart (eqb-true (lane_of (length lanes) (flow_of other)) place (is_in_lane-by_class (length lanes) place other job same ∙ here))) in
        ap (option_and_then (λ (lane : LaneState). known_of lane other)) (slice_get-set_other lanes place (lane_of (length lanes) (flow_of other)) next apart)
        ∙ sym (ap (λ (b : Bool). facts_after (knows lanes other) (cond b (job ∷ []) [])) stranger)

-- what lanes know after a batch's front and the jobs that follow it
learnt-more : (olds mids news : List LaneState) (front jobs : List Job) → HaveLearnt olds front mids → HaveLearnt mids jobs news → HaveLearnt olds (front ++ jobs) news
learnt-more olds mids news front jobs one two = record {
  count = two.count ∙ one.count;
  known = λ old new is_old is_new other.
      two.known (among mids) new refl is_new other
      ∙ ap (λ (facts : Option FlowFacts). facts_after facts (filter (same_flow other) jobs)) (one.known old (among mids) is_old refl other)
      ∙ sym (fold-append facts_after_one (known_in old other) (filter (same_flow other) front) (filter (same_flow other) jobs))
      ∙ ap (facts_after (known_in old other)) (sym (filter-append (same_flow other) front jobs));
}

-- what the workers' lanes know after one job more
pub turn_learnt : (olds mids : List Worker) (place : ℕ) (other worker : Worker) (front : List Job) (job : Job) → place < length mids → place ≡ lane_of (length mids) (flow_of job)
    → HaveLearnt (lanes_of olds) front (lanes_of mids) → LearnsJob (get_or mids place other).lane job worker.lane → HaveLearnt (lanes_of olds) (front ++ job ∷ []) (lanes_of (set mids place worker))
turn_learnt olds mids place other worker front job within is_place so_far learns =
    let is_mid : slice_get (lanes_of mids) place ≡ Some (get_or mids place other).lane =
    slice_get-map (λ (w : Worker). w.lane) mids place ∙ ap (option_map (λ (w : Worker). w.lane)) (slice_get-get_or mids place other within) in
    let at : place ≡ lane_of (length (lanes_of mids)) (flow_of job) = is_place ∙ ap (λ (count : ℕ). lane_of count (flow_of job)) (sym (length-map mids (λ (w : Worker). w.lane))) in
    subst (λ (lanes : List LaneState). HaveLearnt (lanes_of olds) (front ++ job ∷ []) lanes) (sym (map-set (λ (w : Worker). w.lane) mids place worker))
    (learnt-more (lanes_of olds) (lanes_of mids) (set (lanes_of mids) place worker.lane) front (job ∷ []) so_far
    (learnt-one (lanes_of mids) place (get_or mids place other).lane worker.lane job at is_mid learns))

-- the next job is sound, by what the lanes know after those before it
pub turn_sound : (engines : ℕ) (olds mids : List Worker) (place : ℕ) (other : Worker) (jobs front : List Job) (job : Job)
    (rest : List Job)
    → place < length olds
    → length mids ≡ length olds
    → place ≡ lane_of (length olds) (flow_of job)
    → AreSoundAmong engines olds jobs
    → jobs ≡ front ++ job ∷ rest
    → HaveLearnt (lanes_of olds) front (lanes_of mids)
    → IsSoundFor engines (known_of (get_or mids place other).lane job) job
turn_sound engines olds mids place other jobs front job rest within size is_place sound whole learnt =
    let here : is_in_lane (length olds) place job ≡ true = eq-eqb (lane_of (length olds) (flow_of job)) place (sym is_place) in
    let is_old : slice_get (lanes_of olds) place ≡ Some (get_or olds place other).lane =
    slice_get-map (λ (w : Worker). w.lane) olds place
    ∙ ap (option_map (λ (w : Worker). w.lane)) (slice_get-get_or olds place other within) in
    let is_mid : slice_get (lanes_of mids) place ≡ Some (get_or mids place other).lane =
    slice_get-map (λ (w : Worker). w.lane) mids place
    ∙ ap (option_map (λ (w : Worker). w.lane)) (slice_get-get_or mids place other (omega arith)) in
    let in_olds : lane_of (length (lanes_of olds)) (flow_of job) ≡ place =
    ap (λ (count : ℕ). lane_of count (flow_of job)) (length-map olds (λ (w : Worker). w.lane)) ∙ sym is_place in
    let in_mids : lane_of (length (lanes_of mids)) (flow_of job) ≡ place =
    ap (λ (count : ℕ). lane_of count (flow_of job)) (length-map mids (λ (w : Worker). w.lane) ∙ size) ∙ sym is_place in
    let before : knows (lanes_of olds) job ≡ known_of (get_or olds place other).lane job =
    ap (option_and_then (λ (lane : LaneState). known_of lane job)) (ap (slice_get (lanes_of olds)) in_olds ∙ is_old) in
    let after : knows (lanes_of mids) job ≡ known_of (get_or mids place other).lane job =
    ap (option_and_then (λ (lane : LaneState). known_of lane job)) (ap (slice_get (lanes_of mids)) in_mids ∙ is_mid) in
    let known : known_of (get_or mids place other).lane job
    ≡ facts_after (known_of (get_or olds place other).lane job) (filter (same_flow job) front) =
    sym after
    ∙ learnt.known (among (lanes_of olds)) (among (lanes_of mids)) refl refl job
    ∙ ap (λ (facts : Option FlowFacts). facts_after facts (filter (same_flow job) front)) before in
    subst (λ (facts : Option FlowFacts). IsSoundFor engines facts job)
    (sym known)
    (sound place other within front job rest whole here)
