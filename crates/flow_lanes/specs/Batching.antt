-- A batch among lanes: what each lane does of it, and what all of them have then.
--
-- A lane does the jobs of its own flows in their order, and its answers bear the numbers of their jobs, by
-- which they are put into the order of the batch. Of the items of a job all are told, or those that a rule
-- matches.
-- To try it on: of two lanes and jobs of the flows 0, 1, 0, lane 0 does the first and the third, and lane 1
-- the second. In turn, the lanes 0, 1 and 0 do them one after another, and what is found needs no order.
use Rattle.std.specs.Prelude.{◌≡◌, ℕ, ◌<◌, Bool, true, List, [], ◌∷◌, ◌++◌, Some, IfOk, filter, length, map, slice_get, slice_index_or}
use Rattle.edge_io.specs.Along.{along_from, within}
use Rattle.option_eval.specs.Places.{Means}
use Rattle.ordered_merge.specs.declared.numbered.Numbered.{Numbered}
use Rattle.flow_lanes.specs.declared.answer.BatchOut.{BatchOut}
use Rattle.flow_lanes.specs.declared.answer.JobFound.{JobFound}
use Rattle.flow_lanes.specs.declared.answer.Matches.{Matches}
use Rattle.flow_lanes.specs.declared.job.Job.{Job}
use Rattle.flow_lanes.specs.declared.worker.LanePlace.{LanePlace}
use Rattle.flow_lanes.specs.declared.worker.Worker.{Worker}
use Rattle.flow_lanes.specs.Flows.{Detection, answer, answer_tries, items, same_flow}
use Rattle.flow_lanes.specs.Given.{Inspection}
use Rattle.flow_lanes.specs.ItemHits.{told_entry}
use Rattle.flow_lanes.specs.Sound.{IsSoundFor, facts_after}
use Rattle.flow_lanes.specs.LanesAfter.{AnswersBatch, AreShort, DetectsBy, LaneState, AreAfter, LanesState, LearnsJob, SearchesBatch, IsAfter, is_in_lane, known_in, known_of}

-- the jobs of the lane at a place among `count`
abbrev pub own_jobs : ℕ → ℕ → List Job → List Job
own_jobs count place jobs = filter (is_in_lane count place) jobs

-- each job of the lane is sound, after what the lane knows and the batch's earlier jobs of its flow
abbrev pub AreSoundIn : ℕ → ℕ → ℕ → LaneState → List Job → Type 0
AreSoundIn engines count place lane jobs =
    (front : List Job) (job : Job) (rest : List Job) → jobs ≡ front ++ job ∷ rest → is_in_lane count place job ≡ true
    → IsSoundFor engines (facts_after (known_of lane job) (filter (same_flow job) front)) job

-- what is found of a job: those of its items that are told, and how many items and candidates there are
abbrev pub found_of : Bool → Detection → List Job → Job → JobFound
found_of all d before job = record {
  hits = told_entry all (answer d before job);
  items = length (answer d before job).items;
  tries = answer_tries d before job;
}

-- a job of a lane is searched: whatever jobs the lane stood for, what is found is the definition's, and the lane
-- stands for those and this job
pub record IsSearched (all : Bool) (d : Detection) (before : List Job) (job : Job) (found : JobFound)
    (new : LaneState) : Type 0 where
  pub right : found ≡ found_of all d before job
  pub short : AreShort job (within same_flow (items d) before job)
  pub holds : IsAfter d new (before ++ job ∷ [])

abbrev pub SearchesJob : {P : Type 0} → Inspection P → LaneState → Job → JobFound → LaneState → Type 0
SearchesJob by old job found new =
    (means : Means) (d : Detection) (before : List Job) → DetectsBy by.finds means by.stream by.set d → IsAfter d old before
    → IsSearched by.all d before job found new

-- what is found of a job, with the job's number
abbrev pub numbered_out : Bool → Detection → List Job → Job → Numbered JobFound
numbered_out all d before job = record { number = job.number; value = found_of all d before job }

-- a lane that stood for some jobs has done these
pub record HasDoneJobs (all : Bool) (d : Detection) (before jobs : List Job) (outs : List (Numbered JobFound))
    (new : LaneState) : Type 0 where
  pub right : outs ≡ along_from (numbered_out all d) before jobs
  pub holds : IsAfter d new (before ++ jobs)

-- a lane has gone on with these jobs: whatever it stood for, its answers are the definition's; it has learnt
-- of the jobs; and the answers bear the numbers of the jobs
pub record GoesOn {P : Type 0} (by : Inspection P) (old : LaneState) (jobs : List Job) (outs : List (Numbered JobFound))
    (new : LaneState) : Type 0 where
  pub right : (means : Means) (d : Detection) (before : List Job) → DetectsBy by.finds means by.stream by.set d
      → IsAfter d old before → HasDoneJobs by.all d before jobs outs new
  pub known : (other : Job) → known_of new other ≡ facts_after (known_of old other) (filter (same_flow other) jobs)
  pub numbers : map (λ (out : Numbered JobFound). out.number) outs ≡ map (λ (job : Job). job.number) jobs

-- a lane searches a job more, of which something is found: with the job's number it is put after what was found
-- before
pub record AddsFound {P : Type 0} (by : Inspection P) (job : Job) (old : LaneState) (outs : List (Numbered JobFound))
    (new : LaneState) (more : List (Numbered JobFound)) : Type 0 where
  pub found : JobFound
  pub added : more ≡ outs ++ record { number = job.number; value = found } ∷ []
  pub searches : SearchesJob by old job found new
  pub learns : LearnsJob old job new

-- a job of a batch is looked at by one lane of several, with which only its own jobs go on
abbrev pub AddsOwn : {P : Type 0} → Inspection P → LanePlace → Job → LaneState → List (Numbered JobFound) → LaneState
    → List (Numbered JobFound) → Type 0
AddsOwn by share job old outs new more =
    (start : LaneState) (front : List Job) → GoesOn by start (own_jobs share.count share.place front) outs old
    → GoesOn by start (own_jobs share.count share.place (front ++ job ∷ [])) more new

-- the lanes have gone on with the jobs of a batch, each with its own: a part of the answers for each lane
pub record AreParts {P : Type 0} (by : Inspection P) (olds : List LaneState) (jobs : List Job)
    (parts : List (List (Numbered JobFound))) (news : List LaneState) : Type 0 where
  pub news_count : length news ≡ length olds
  pub parts_count : length parts ≡ length olds
  pub each : (place : ℕ) (old new : LaneState) (part : List (Numbered JobFound)) → slice_get olds place ≡ Some old
      → slice_get parts place ≡ Some part → slice_get news place ≡ Some new
      → GoesOn by old (own_jobs (length olds) place jobs) part new

-- the lanes of workers
abbrev pub lanes_of : List Worker → List LaneState
lanes_of workers = map (λ (worker : Worker). worker.lane) workers

-- the jobs of each worker's lane are sound
abbrev pub AreSoundAmong : ℕ → List Worker → List Job → Type 0
AreSoundAmong engines workers jobs =
    (place : ℕ) (d : Worker) → place < length workers → AreSoundIn engines (length workers) place
    (slice_index_or workers place d).lane jobs

-- each worker has gone on with its own jobs, where it has answers
abbrev pub AllGoOn : {P : Type 0} → Inspection P → List Worker → List Job → List Worker → Type 0
AllGoOn by olds jobs news =
    (place : ℕ) (d : Worker) → place < length olds
    → IfOk (slice_index_or news place d).outs
    (λ outs. GoesOn by (slice_index_or olds place d).lane (own_jobs (length olds) place jobs) outs.items
    (slice_index_or news place d).lane)

-- the jobs of a batch are searched: what is found of each is the definition's, in the order of the jobs, and the
-- lanes stand for the earlier jobs and the batch
pub record AreSearched (all : Bool) (d : Detection) (before jobs : List Job) (found : List (Numbered JobFound))
    (new : LanesState) : Type 0 where
  pub right : found ≡ along_from (numbered_out all d) before jobs
  pub holds : AreAfter d new (before ++ jobs)

-- lanes have searched a batch, whatever else is known of them: what is found is the definition's
abbrev pub HaveSearched : {P : Type 0} → Inspection P → List LaneState → List Job → List (Numbered JobFound) → List LaneState
    → Type 0
HaveSearched by olds jobs found news =
    (old new : LanesState) → old.lanes ≡ olds → new.lanes ≡ news
    → (means : Means) (d : Detection) (before : List Job) → DetectsBy by.finds means by.stream by.set d
    → AreAfter d old before → AreSearched by.all d before jobs found new

-- the batch is answered, or its matches are told, by lanes that stood for any jobs
abbrev pub HaveAnswered : {P : Type 0} → Inspection P → List LaneState → List Job → BatchOut → List LaneState → Type 0
HaveAnswered by olds jobs out news =
    (old new : LanesState) → old.lanes ≡ olds → new.lanes ≡ news
    → AnswersBatch by.finds by.stream by.set old jobs out new

abbrev pub HaveMatched : {P : Type 0} → Inspection P → List LaneState → List Job → Matches → List LaneState → Type 0
HaveMatched by olds jobs out news =
    (old new : LanesState) → old.lanes ≡ olds → new.lanes ≡ news
    → SearchesBatch by.finds by.stream by.set old jobs out new

-- lanes have learnt of the jobs of a batch, whatever else is known of them
pub record HaveLearnt (olds : List LaneState) (jobs : List Job) (news : List LaneState) : Type 0 where
  pub count : length news ≡ length olds
  pub known : (old new : LanesState) → old.lanes ≡ olds → new.lanes ≡ news → (other : Job)
      → known_in new other ≡ facts_after (known_in old other) (filter (same_flow other) jobs)
