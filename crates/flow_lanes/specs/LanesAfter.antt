-- What a lane and lanes stand for, and what their calls promise.
--
-- A lane stands for a list of jobs where it keeps of each flow what the definitions say of the flow's jobs
-- (specs/Flows). Many lanes stand for one list where each stands for the jobs of its own flows: flow f is
-- in lane f modulo their number. So the answers of a batch are those of one list of jobs, taken one by one,
-- for any number of lanes and any cut of the list into batches.
-- To try it on: of two lanes, which stand for jobs of the flows 0, 1 and 2, lane 0 keeps the flows 0 and 2.
use Rattle.std.specs.Prelude.{◌≡◌, ℕ, ◌%◌, ◌<◌, ◌≤◌, ◌==◌, Bool, true, false, List, [], ◌∷◌, ◌++◌, Option, Some, None, All, IfSome, filter, fold, length, replicate, map, option_map, option_and_then, slice_get, slice_index_or, sum, sum_by, IsSome, if◌then◌else◌}
use Rattle.std.specs.List.{flat_map}
use Rattle.std.specs.List.Sorted.{IsPermutation}
use Rattle.std.specs.Map.{lookup}
use Rattle.edge_io.specs.declared.pattern.Span.{Span}
use Rattle.edge_io.specs.Along.{AscendsBy, along_from, told, within}
use Rattle.packet_decode.specs.declared.packet.Body.{Body}
use Rattle.packet_decode.specs.declared.packet.Body.TheVariants as body
use Rattle.conf_types.specs.declared.config.StreamConfig.{StreamConfig}
use Rattle.option_eval.specs.Places.{Means}
use Rattle.option_eval.specs.RuleSet.{FindWhatIsMeant, Rules}
use Rattle.rule_eval.specs.declared.item.Item.{Item}
use Rattle.rule_eval.specs.Hits.{Tells}
use Rattle.flow_lanes.specs.declared.answer.BatchOut.{BatchOut}
use Rattle.flow_lanes.specs.declared.answer.JobHits.{JobHits}
use Rattle.flow_lanes.specs.declared.answer.Matches.{Matches}
use Rattle.flow_lanes.specs.declared.job.Job.{Job}
use Rattle.flow_lanes.specs.Flows.{Detection, FlowState, answer, answer_tries, flow_of, items, same_flow, same_number, state_after_one}
use Rattle.flow_lanes.specs.ItemHits.{matched_entry}
use Rattle.flow_lanes.specs.Sound.{FlowFacts, IsSoundFor, facts_after, facts_after_one}
use Rattle.flow_lanes.specs.Streams.{item_size}

-- what is kept of a flow that has not ended
pub record KeptFlow : Type 0 where
  pub facts : FlowFacts
  pub found : Option FlowState

-- a lane: the flush point, whether queued packets are items, and the flows by their numbers
pub record LaneState : Type 0 where
  pub flush : ℕ
  pub inserts : Bool
  pub flows : List (ℕ × KeptFlow)

-- what was kept of a flow: what is known of it, and what its next job finds
abbrev pub facts_kept : Option KeptFlow → Option FlowFacts
facts_kept kept = option_map (λ (k : KeptFlow). k.facts) kept

abbrev pub state_kept : Option KeptFlow → Option FlowState
state_kept kept = option_and_then (λ (k : KeptFlow). k.found) kept

-- what a lane keeps of a flow, and what it knows of the flow of a job
abbrev pub kept_of : LaneState → ℕ → Option KeptFlow
kept_of lane flow = lookup (λ other. other == flow) lane.flows

abbrev pub known_of : LaneState → Job → Option FlowFacts
known_of lane job = option_and_then (λ flow. facts_kept (kept_of lane flow)) (flow_of job)

-- a lane that stands for no job
abbrev pub new_lane : ℕ → Bool → LaneState
new_lane flush inserts = record { flush = flush; inserts = inserts; flows = [] }

-- the job is of this flow
abbrev pub is_of_flow : ℕ → Job → Bool
is_of_flow flow job = same_number (Some flow) (flow_of job)

-- what is kept of a flow after one more of its jobs: nothing after its end
abbrev pub kept_after_one : Detection → Option KeptFlow → Job → Option KeptFlow
kept_after_one d kept job = option_map (λ facts. record { facts = facts; found = state_after_one d (state_kept kept) job })
    (facts_after_one (facts_kept kept) job)

-- what is kept after these jobs of one flow
abbrev pub kept_after : Detection → List Job → Option KeptFlow
kept_after d jobs = fold (kept_after_one d) None jobs

-- the lane stands for these jobs, with what is detected by
pub record IsAfter (d : Detection) (lane : LaneState) (before : List Job) : Type 0 where
  pub flush : lane.flush ≡ d.making.flush
  pub inserts : lane.inserts ≡ d.making.inserts
  pub flows : (flow : ℕ) → kept_of lane flow ≡ kept_after d (filter (is_of_flow flow) before)

-- what is detected by is this configuration and these rules, and it is told which of them match, where
-- `finds` says what the made patterns find and `means` what their texts mean
pub record DetectsBy {P : Type 0} (finds : P → List ℕ → Option Span) (means : Means) (stream : StreamConfig) (set : Rules P)
    (d : Detection) : Type 0 where
  pub config : d.making.stream ≡ stream
  pub rules : d.trying.rules ≡ set.rules
  pub made : FindWhatIsMeant finds means set
  pub told : Tells means d.trying.matches

-- One job.

-- a stretch of a stream
abbrev pub is_stretch : Body → Bool
is_stretch (body.Stream sport dport) = true
is_stretch carried = false

-- the stream items of a job of a flow are short
abbrev pub AreShort : Job → List Item → Type 0
AreShort job items =
    IsSome (flow_of job) → All (λ (item : Item). is_stretch item.head.body ≡ true → length item.payload ≤ item_size) items

-- a job of a lane is answered: whatever jobs the lane stood for, the entry is the definition's, and the
-- lane stands for those and this job
pub record IsAnswered (d : Detection) (before : List Job) (job : Job) (entry : JobHits) (new : LaneState) : Type 0 where
  pub right : entry ≡ answer d before job
  pub short : AreShort job (within same_flow (items d) before job)
  pub holds : IsAfter d new (before ++ job ∷ [])

abbrev pub AnswersJob : {P : Type 0} → (P → List ℕ → Option Span) → StreamConfig → Rules P → LaneState → Job → JobHits → LaneState
    → Type 0
AnswersJob finds stream set old job entry new =
    (means : Means) (d : Detection) (before : List Job) → DetectsBy finds means stream set d → IsAfter d old before
    → IsAnswered d before job entry new

-- the number of candidates of a job is told: whatever jobs the lane stood for, it is the definition's
abbrev pub CountsTries : {P : Type 0} → (P → List ℕ → Option Span) → StreamConfig → Rules P → LaneState → Job → ℕ → Type 0
CountsTries finds stream set old job tries =
    (means : Means) (d : Detection) (before : List Job) → DetectsBy finds means stream set d → IsAfter d old before
    → tries ≡ answer_tries d before job

-- the lane has done a job, by what it keeps: the flow of the job has one job more, and no other flow changes
pub record HasDone (d : Detection) (old : LaneState) (job : Job) (new : LaneState) : Type 0 where
  pub flush : new.flush ≡ old.flush
  pub inserts : new.inserts ≡ old.inserts
  pub flows : (flow : ℕ) → kept_of new flow ≡ (if is_of_flow flow job then kept_after_one d (kept_of old flow) job
      else kept_of old flow)

-- what the lane knows of any job's flow after a job: it has learnt of that job's own
abbrev pub LearnsJob : LaneState → Job → LaneState → Type 0
LearnsJob old job new =
    (other : Job) → known_of new other ≡ facts_after (known_of old other) (filter (same_flow other) (job ∷ []))

-- Lanes.

-- lanes: each of them, the greatest number of a job so far, and whether memory was lacking
pub record LanesState : Type 0 where
  pub lanes : List LaneState
  pub greatest : Option ℕ
  pub failed : Bool

-- the place of a job's lane among `count`: a job of no flow is in the first
abbrev pub lane_of : ℕ → Option ℕ → ℕ
lane_of count None = 0
lane_of count (Some flow) = flow % count

abbrev pub is_in_lane : ℕ → ℕ → Job → Bool
is_in_lane count lane job = lane_of count (flow_of job) == lane

-- `count` lanes that stand for no job
abbrev pub AreNew : ℕ → ℕ → Bool → LanesState → Type 0
AreNew count flush inserts lanes = lanes ≡ record {
  lanes = replicate count (new_lane flush inserts);
  greatest = None;
  failed = false;
}

-- the lanes stand for these jobs: each lane for those of its flows, and for no others
pub record AreAfter (d : Detection) (lanes : LanesState) (before : List Job) : Type 0 where
  pub some : 0 < length lanes.lanes
  pub each : (place : ℕ) (lane : LaneState) → slice_get lanes.lanes place ≡ Some lane
      → IsAfter d lane (filter (is_in_lane (length lanes.lanes) place) before)

-- what the lanes know of the flow of a job
abbrev pub known_in : LanesState → Job → Option FlowFacts
known_in lanes job =
    option_and_then (λ (lane : LaneState). known_of lane job) (slice_get lanes.lanes (lane_of (length lanes.lanes) (flow_of job)))

-- each job of a batch is sound, after what the lanes know and the batch's earlier jobs of its flow
abbrev pub AreSoundFor : ℕ → LanesState → List Job → Type 0
AreSoundFor engines lanes jobs =
    (front : List Job) (job : Job) (rest : List Job) → jobs ≡ front ++ job ∷ rest
    → IsSoundFor engines (facts_after (known_in lanes job) (filter (same_flow job) front)) job

-- the numbers of a batch ascend, and are above all earlier ones
pub record AreNext (lanes : LanesState) (jobs : List Job) : Type 0 where
  pub ascend : AscendsBy (λ (job : Job). job.number) jobs
  pub above : IfSome lanes.greatest (λ greatest. All (λ (job : Job). greatest < job.number) jobs)

-- what the lanes know of any job's flow after a batch, how many they are, and the greatest number so far
pub record LearnsBatch (old : LanesState) (jobs : List Job) (new : LanesState) : Type 0 where
  pub known : (other : Job) → known_in new other ≡ facts_after (known_in old other) (filter (same_flow other) jobs)
  pub count : length new.lanes ≡ length old.lanes
  pub greatest : new.greatest ≡ fold (λ most (job : Job). Some job.number) old.greatest jobs

-- a batch is answered: whatever jobs the lanes stood for, there is one entry a job in their order, the
-- definition's, `tries` is the number of all candidates, and the lanes stand for those jobs and the batch
pub record IsBatchAnswered (d : Detection) (before jobs : List Job) (out : BatchOut) (new : LanesState) : Type 0 where
  pub hits : out.hits ≡ along_from (answer d) before jobs
  pub tries : out.tries ≡ sum (along_from (answer_tries d) before jobs)
  pub holds : AreAfter d new (before ++ jobs)

abbrev pub AnswersBatch : {P : Type 0} → (P → List ℕ → Option Span) → StreamConfig → Rules P → LanesState → List Job → BatchOut
    → LanesState → Type 0
AnswersBatch finds stream set old jobs out new =
    (means : Means) (d : Detection) (before : List Job) → DetectsBy finds means stream set d → AreAfter d old before
    → IsBatchAnswered d before jobs out new

-- a batch is searched: whatever jobs the lanes stood for, there is one entry a job in their order, with those of
-- its items that a rule matches; all items are counted, and all candidates; and the lanes stand for those jobs
-- and the batch
pub record IsBatchSearched (d : Detection) (before jobs : List Job) (out : Matches) (new : LanesState) : Type 0 where
  pub hits : out.hits.items ≡ map matched_entry (along_from (answer d) before jobs)
  pub items : out.items ≡ sum_by (λ (entry : JobHits). length entry.items) (along_from (answer d) before jobs)
  pub tries : out.tries ≡ sum (along_from (answer_tries d) before jobs)
  pub holds : AreAfter d new (before ++ jobs)

abbrev pub SearchesBatch : {P : Type 0} → (P → List ℕ → Option Span) → StreamConfig → Rules P → LanesState → List Job → Matches
    → LanesState → Type 0
SearchesBatch finds stream set old jobs out new =
    (means : Means) (d : Detection) (before : List Job) → DetectsBy finds means stream set d → AreAfter d old before
    → IsBatchSearched d before jobs out new

-- memory was lacking: from then on no batch is answered
abbrev pub HasFailed : LanesState → Type 0
HasFailed lanes = lanes.failed ≡ true

-- Laws.

-- the answers to the jobs of one flow, among those to all jobs
abbrev pub answers_of_flow : Detection → ℕ → List Job → List JobHits
answers_of_flow d flow jobs = map (λ p. p.1) (filter (λ p. is_of_flow flow p.0) (along_from (told (answer d)) [] jobs))

-- parts are put together: one list of all their entries, in the order of their numbers
pub record ArePutTogether (parts : List (List JobHits)) (merged : List JobHits) : Type 0 where
  pub whole : IsPermutation (flat_map (λ part. part) parts) merged
  pub ascend : AscendsBy (λ (entry : JobHits). entry.number) merged

-- a part for each lane, which has the answers to the jobs of that lane alone
abbrev pub AreLaneAnswers : Detection → List Job → List Job → List (List JobHits) → Type 0
AreLaneAnswers d before jobs parts =
    (place : ℕ) (other : List JobHits) → place < length parts
    → slice_index_or parts place other ≡ along_from (answer d) (filter (is_in_lane (length parts) place) before)
    (filter (is_in_lane (length parts) place) jobs)
