-- One lane's jobs of a batch, one after another.
use Rattle.std.proofs.Common.{◌≡◌, ℕ, suc, ◌+◌, ◌<◌, ◌==◌, Bool, true, false, cond, List, [], ◌∷◌, ◌++◌, length, get_or, take, drop, Option, refl, sym, ap, subst, ◌∙◌, append_assoc, eq-eqb}
use Rattle.std.specs.List.{filter}
use Rattle.std.proofs.Math.Seq.{drop-cons}
use Rattle.std.proofs.lemmas.List.{append-nil, map-append, take-append-drop, take_more}
use Rattle.std.proofs.lemmas.List.Elements.{filter-append}
use Rattle.std.proofs.lemmas.List.Sums.{fold-append}
use Rattle.edge_io.specs.Along.{along_from}
use Rattle.edge_io.proofs.Along.{along_from-append}
use Rattle.ordered_merge.specs.declared.numbered.Numbered.{Numbered}
use Rattle.flow_lanes.specs.declared.answer.JobFound.{JobFound}
use Rattle.flow_lanes.specs.declared.job.Job.{Job}
use Rattle.flow_lanes.specs.declared.worker.LanePlace.{LanePlace}
use Rattle.flow_lanes.specs.Flows.{flow_of, same_flow}
use Rattle.flow_lanes.specs.Given.{Inspection}
use Rattle.flow_lanes.specs.Sound.{IsSoundFor, facts_after, facts_after_one}
use Rattle.flow_lanes.specs.LanesAfter.{LaneState, LearnsJob, IsAfter, is_in_lane, known_of, lane_of}
use Rattle.flow_lanes.specs.Batching.{AddsFound, AddsOwn, AreSoundIn, GoesOn, SearchesJob, numbered_out, own_jobs}
use Rattle.flow_lanes.proofs.Jobs.AnswersOfFlow.{is_in_lane-by_class}

-- the element at a place is between those before it and those after it
pub split_at_read : {X : Type 0} (xs : List X) (i : ℕ) (x : X) → i < length xs → x ≡ get_or xs i x → xs ≡ take i xs ++ x ∷ drop (suc i) xs
split_at_read xs i x within is =
    sym (take-append-drop i xs) ∙ ap (λ rest. take i xs ++ rest) (drop-cons xs i x within ∙ ap (λ first. first ∷ drop (suc i) xs) (sym is))

pub take_read : {X : Type 0} (xs : List X) (i : ℕ) (x : X) → i < length xs → x ≡ get_or xs i x → take (i + 1) xs ≡ take i xs ++ x ∷ []
take_read xs i x within is = take_more xs i x within ∙ ap (λ last. take i xs ++ last ∷ []) (sym is)

-- which lane a job is in
pub in_lane : (count place lane : ℕ) (flow : Option ℕ) (job : Job) → lane ≡ lane_of count flow → flow ≡ flow_of job → lane ≡ place → is_in_lane count place job ≡ true
in_lane count place lane flow job is_lane is_flow is = eq-eqb (lane_of count (flow_of job)) place (sym (ap (lane_of count) is_flow) ∙ sym is_lane ∙ is)

pub in_other_lane : (count place lane : ℕ) (flow : Option ℕ) (job : Job) → lane ≡ lane_of count flow → flow ≡ flow_of job → (lane == place) ≡ false → is_in_lane count place job ≡ false
in_other_lane count place lane flow job is_lane is_flow is = ap (λ l. l == place) (sym (ap (lane_of count) is_flow) ∙ sym is_lane) ∙ is

-- the jobs of a flow are all in the flow's lane
pub own_jobs-of_flow : (count place : ℕ) (other : Job) → is_in_lane count place other ≡ true → (jobs : List Job) → filter (same_flow other) (own_jobs count place jobs) ≡ filter (same_flow other) jobs
own_jobs-of_flow count place other is [] = refl
own_jobs-of_flow count place other is (job ∷ jobs) = by_flow (same_flow other job) refl (own_jobs-of_flow count place other is jobs)
  where
    own : List Job
    own = own_jobs count place jobs

    dropped : same_flow other job ≡ false → (b : Bool) → filter (same_flow other) (cond b (job ∷ own) own) ≡ filter (same_flow other) own
    dropped apart true = ap (λ c. cond c (job ∷ filter (same_flow other) own) (filter (same_flow other) own)) apart
    dropped apart false = refl

    by_flow : (b : Bool) → same_flow other job ≡ b → filter (same_flow other) own ≡ filter (same_flow other) jobs
        → filter (same_flow other) (cond (is_in_lane count place job) (job ∷ own) own) ≡ cond (same_flow other job) (job ∷ filter (same_flow other) jobs) (filter (same_flow other) jobs)
    by_flow true same rest =
        let here : is_in_lane count place job ≡ true = sym (is_in_lane-by_class count place other job same) ∙ is in
        ap (λ b. filter (same_flow other) (cond b (job ∷ own) own)) here ∙ ap (λ later. cond (same_flow other job) (job ∷ later) later) rest
    by_flow false apart rest =
        dropped apart (is_in_lane count place job) ∙ rest ∙ sym (ap (λ c. cond c (job ∷ filter (same_flow other) jobs) (filter (same_flow other) jobs)) apart)

-- one more job
pub own_jobs-more : (count place : ℕ) (front : List Job) (job : Job) (b : Bool)
    → is_in_lane count place job ≡ b
    → own_jobs count place (front ++ job ∷ []) ≡ own_jobs count place front ++ cond b (job ∷ []) []
own_jobs-more count place front job b is = filter-append (is_in_lane count place) front (job ∷ []) ∙ ap (λ c. own_jobs count place front ++ cond c (job ∷ []) []) is

module _ {P : Type 0} (by : Inspection P) where
  -- a lane that has done no job
  pub GoesOn-none : (lane : LaneState) → GoesOn by lane [] [] lane
  GoesOn-none lane = record {
    right = λ means d before detects holds. record { right = refl; holds = subst (λ jobs. IsAfter d lane jobs) (sym (append-nil before)) holds };
    known = λ other. refl;
    numbers = refl;
  }

  -- one more job is answered
  pub GoesOn-more : (old mid new : LaneState) (jobs : List Job) (outs : List (Numbered JobFound)) (job : Job) (out : JobFound) → GoesOn by old jobs outs mid
      → SearchesJob by mid job out new → LearnsJob mid job new
      → GoesOn by old (jobs ++ job ∷ []) (outs ++ record { number = job.number; value = out } ∷ []) new
  GoesOn-more old mid new jobs outs job out done searches learns = record {
    right = λ means d before detects holds.
        let so_far = done.right means d before detects holds in
        let searched = searches means d (before ++ jobs) detects so_far.holds in
        let last : record { number = job.number; value = out } ≡ numbered_out by.all d (before ++ jobs) job = ap (λ (found : JobFound). record { number = job.number; value = found }) searched.right in
        record {
          right =
              ap (λ front. front ++ record { number = job.number; value = out } ∷ []) so_far.right ∙ ap (λ o. along_from (numbered_out by.all d) before jobs ++ o ∷ []) last
              ∙ sym (along_from-append (numbered_out by.all d) before jobs (job ∷ []));
          holds = subst (λ (js : List Job). IsAfter d new js) (append_assoc before jobs (job ∷ [])) searched.holds;
        };
    known = λ other.
        learns other
        ∙ ap (λ facts. facts_after facts (filter (same_flow other) (job ∷ []))) (done.known other)
        ∙ sym (fold-append facts_after_one (known_of old other) (filter (same_flow other) jobs) (filter (same_flow other) (job ∷ [])))
        ∙ ap (facts_after (known_of old other)) (sym (filter-append (same_flow other) jobs (job ∷ [])));
    numbers = map-append (λ (o : Numbered JobFound). o.number) outs (record { number = job.number; value = out } ∷ [])
        ∙ ap (λ numbers. numbers ++ job.number ∷ []) done.numbers
        ∙ sym (map-append (λ (j : Job). j.number) jobs (job ∷ []));
  }

  -- a job of the lane goes on with it, and a job of another lane changes nothing
  pub AddsOwn-own : (share : LanePlace) (job : Job) (old new : LaneState) (outs more : List (Numbered JobFound)) → is_in_lane share.count share.place job ≡ true
      → AddsFound by job old outs new more → AddsOwn by share job old outs new more
  AddsOwn-own share job old new outs more is adds start front done =
      subst (λ jobs. GoesOn by start jobs more new) (sym (own_jobs-more share.count share.place front job true is))
      (subst (λ (all_outs : List (Numbered JobFound)). GoesOn by start (own_jobs share.count share.place front ++ job ∷ []) all_outs new) (sym adds.added)
      (GoesOn-more start old new (own_jobs share.count share.place front) outs job adds.found done adds.searches adds.learns))

  pub AddsOwn-other : (share : LanePlace) (job : Job) (lane : LaneState) (outs : List (Numbered JobFound)) → is_in_lane share.count share.place job ≡ false → AddsOwn by share job lane outs lane outs
  AddsOwn-other share job lane outs is start front done =
      subst (λ jobs. GoesOn by start jobs outs lane) (sym (own_jobs-more share.count share.place front job false is ∙ append-nil (own_jobs share.count share.place front))) done

  -- what the lane knows of a job's flow after its own jobs of the batch's front
  pub GoesOn-known : (count place : ℕ) (old new : LaneState) (jobs : List Job) (outs : List (Numbered JobFound)) (other : Job) → is_in_lane count place other ≡ true
      → GoesOn by old (own_jobs count place jobs) outs new → known_of new other ≡ facts_after (known_of old other) (filter (same_flow other) jobs)
  GoesOn-known count place old new jobs outs other is done = done.known other ∙ ap (facts_after (known_of old other)) (own_jobs-of_flow count place other is jobs)

  -- the lane's next job is sound
  pub GoesOn-sound : (engines count place : ℕ) (old mid : LaneState) (jobs front : List Job) (job : Job) (rest : List Job) (outs : List (Numbered JobFound))
      → AreSoundIn engines count place old jobs → jobs ≡ front ++ job ∷ rest → GoesOn by old (own_jobs count place front) outs mid
      → is_in_lane count place job ≡ true → IsSoundFor engines (known_of mid job) job
  GoesOn-sound engines count place old mid jobs front job rest outs sound whole done is =
      subst (λ facts. IsSoundFor engines facts job) (sym (GoesOn-known count place old mid front outs job is done)) (sound front job rest whole is)
