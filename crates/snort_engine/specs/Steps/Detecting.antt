-- Records on their way to lines: their jobs, what these find, and the lines of it.
--
-- A step says what it does to whatever records come before. Beside that, whatever the host tells, some list of
-- records comes before each step, of which the lanes know what they must know to run the next jobs.
-- To try it on: of a UDP packet whose flow has a rule's bit set by an earlier one, the second batch shows
-- what it would show if both were in one.
use Rattle.std.specs.Prelude.{◌≡◌, ℕ, ◌≤◌, List, [], ◌++◌, length, Option, Result, OnOk, IfOk, All}
use Rattle.edge_io.specs.Along.{trail, trail_from}
use Rattle.conf_types.specs.Sound as conf
use Rattle.rule_types.specs.Sound.{IsSound}
use Rattle.rule_types.specs.declared.rule.Rule.{Rule}
use Rattle.fast_pattern.specs.Grouping.{AreFor}
use Rattle.snort_setup.specs.Rules.{most_rules}
use Rattle.pcap_input.specs.Savefile.{most_records}
use Rattle.flow_lanes.specs.declared.job.Job.{Job}
use Rattle.flow_lanes.specs.LanesAfter.{AreNew, AreAfter, LearnsBatch}
use Rattle.record_jobs.specs.declared.counts.RecordCounts.{RecordCounts}
use Rattle.record_jobs.specs.Way.{LinkedRecord, Way as JobsWay}
use Rattle.record_jobs.specs.Jobs.{jobs}
use Rattle.record_jobs.specs.Fronts.{FrontState, IsFrontAfter}
use Rattle.record_jobs.specs.Ready.{HaveLearnt}
use Rattle.alert_lines.specs.Lines.{text_of, texts_from}
use Rattle.alert_lines.specs.declared.fault.WriteFault.{WriteFault}
use Rattle.alert_lines.specs.Written.{WritesPart}
use Rattle.alert_lines.specs.Gathering.{Sending, EmitsBy}
use Rattle.alert_lines.specs.Showing.{IsWriterAfter, items_lines, tally_in, waiting_in}
use Rattle.alert_lines.specs.Beside.{carried, whats}
use Rattle.snort_engine.specs.declared.counts.Counts.{Counts}
use Rattle.snort_engine.specs.declared.plan.Plan as code
use Rattle.snort_engine.specs.declared.detect.Inspection.{Inspection}
use Rattle.snort_engine.specs.declared.detect.Detector.{Detector}
use Rattle.snort_engine.specs.Course.{Plan}
use Rattle.snort_engine.specs.Trace.{Open, closing_alerts, detection_of, job_items, jobs_of, last_of, no_record, jobs_way_by, jobs_way}
use Rattle.snort_engine.specs.Lines.{alert_count, lines}
use Rattle.snort_engine.specs.Counts.{counts_of, try_count}
use Rattle.snort_engine.specs.Steps.Sourcing.{Sourced}

-- ---- stages

-- a stage from records to lines: what it is in where it was given these inputs, what inputs are that come with more, and
-- the text of these
pub record Stage (S X Y : Type 0) : Type 1 where
  pub holds : List X → S → Type 0
  pub what : List Y → List X
  pub text : List X → List Y → List ℕ

-- inputs that came before
pub record Earlier {S X Y : Type 0} (stage : Stage S X Y) (state : S) : Type 0 where
  pub inputs : List X
  pub hold : stage.holds inputs state

-- whatever inputs came before: it was given these too, and their text is on its way, or a part of it
pub record Advances {S X Y A : Type 0} (stage : Stage S X Y) (inputs : List Y) (old new : S) (first end : Sending)
    (outcome : Result A WriteFault) : Type 0 where
  pub holds : OnOk outcome ((before : List X) → stage.holds before old → stage.holds (before ++ stage.what inputs) new)
  pub emits : EmitsBy (λ (before : Earlier stage old). stage.text before.inputs inputs) first end outcome

-- ---- plans

-- 1 to 64 lanes, and 1 to 65536 bytes of a stream
pub record IsRanged (lanes flush : ℕ) : Type 0 where
  pub some : 1 ≤ lanes
  pub few : lanes ≤ 64
  pub least : 1 ≤ flush
  pub most : flush ≤ 65536

-- a plan's configuration and rules are sound, there are no more rules than a setup may have, and its numbers are in
-- their ranges
pub record IsSoundPlan {P : Type 0} (plan : code.Plan P) : Type 0 where
  pub config : conf.IsSound plan.setup.config
  pub rules : All (IsSound plan.setup.config.classes) plan.setup.set.rules
  pub few : length plan.setup.set.rules ≤ most_rules
  pub ranges : IsRanged plan.lanes plan.flush

-- ---- jobs

-- the lanes and the writer were given these jobs, and the tries of these were counted
pub record IsInspectionAfter (plan : Plan) (before : List Job) (inspection : Inspection) : Type 0 where
  pub lanes : AreAfter (detection_of plan) inspection.lanes before
  pub writer : IsWriterAfter plan.config plan.rules (trail (job_items (detection_of plan)) before) inspection.writer
  pub tries : inspection.tries ≡ try_count (detection_of plan) before

-- an inspection that was given nothing
pub record IsNewInspection {P : Type 0} (plan : code.Plan P) (inspection : Inspection) : Type 0 where
  pub lanes : AreNew plan.lanes plan.flush plan.setup.config.inserts inspection.lanes
  pub groups : AreFor inspection.groups plan.setup.set.rules
  pub writer : IsWriterAfter plan.setup.config plan.setup.set.rules [] inspection.writer
  pub none : waiting_in inspection.writer ≡ []
  pub tries : inspection.tries ≡ 0
  pub last : inspection.last ≡ no_record

-- the lines of jobs after earlier jobs
unfoldable pub jobs_lines : Plan → List Job → List Sourced → List ℕ
jobs_lines plan before batch =
    items_lines plan.form plan.config plan.rules (trail (job_items (detection_of plan)) before)
    (carried (job_items (detection_of plan)) before batch)

-- jobs beside their records, as they go through an inspection
abbrev pub jobs_stage : Plan → Stage Inspection Job Sourced
jobs_stage plan = record { holds = IsInspectionAfter plan; what = whats; text = jobs_lines plan }

-- an inspection ran jobs, and all their lines were written: the lanes have learnt of them, and what else it knows stays
pub record HasRun (old : Inspection) (batch : List Job) (new : Inspection) : Type 0 where
  pub learns : LearnsBatch old.lanes batch new.lanes
  pub groups : new.groups ≡ old.groups
  pub last : new.last ≡ old.last
  pub none : waiting_in new.writer ≡ []

-- ---- records

-- the front took records after these records: these are their jobs, and it stands for all
pub record AreTaken (way : JobsWay) (before records : List LinkedRecord) (new : FrontState) (made : List Job) : Type 0 where
  pub jobs_are : made ≡ trail_from (jobs way) before records
  pub holds : IsFrontAfter way new (before ++ records)

-- these are the jobs of records that the front took, whatever records came before
abbrev pub MakesJobs : JobsWay → List LinkedRecord → FrontState → FrontState → List Job → Type 0
MakesJobs way records old new made =
    (before : List LinkedRecord) → IsFrontAfter way old before → AreTaken way before records new made

-- a detector was given these records
pub record IsDetectorAfter (plan : Plan) (records : List LinkedRecord) (detector : Detector) : Type 0 where
  pub front : IsFrontAfter (jobs_way plan) detector.front records
  pub inspection : IsInspectionAfter plan (jobs_of plan records) detector.inspection
  pub last : detector.inspection.last ≡ last_of records

-- a detector was given some records, the lanes have learnt of all their jobs, and no line waits
pub record IsKnown (way : JobsWay) (rules : List Rule) (detector : Detector) : Type 0 where
  pub records : List LinkedRecord
  pub front : IsFrontAfter way detector.front records
  pub learnt : HaveLearnt detector.inspection.lanes (trail (jobs way) records)
  pub groups : AreFor detector.inspection.groups rules
  pub none : waiting_in detector.inspection.writer ≡ []

abbrev pub Knows : {P : Type 0} → code.Plan P → Detector → Type 0
Knows plan detector = IsKnown (jobs_way_by plan.checks plan.setup.hosts plan.setup.config) plan.setup.set.rules detector

-- what a capture is closed with: a detector that is known, and was given no more records than a capture may have
pub record IsClosable {P : Type 0} (plan : code.Plan P) (detector : Detector) : Type 0 where
  pub known : Knows plan detector
  pub few : detector.front.counts.records ≤ most_records

-- records, as they go through a detector
abbrev pub records_stage : Plan → Stage Detector LinkedRecord LinkedRecord
records_stage plan =
    record { holds = IsDetectorAfter plan; what = λ records. records; text = λ before records. lines plan before records Open }

-- no more than a part of their lines was written
unfoldable pub ShowsRecordsPart : Plan → List LinkedRecord → Detector → Option (List ℕ) → Option (List ℕ) → Type 0
ShowsRecordsPart plan batch detector old new =
    (before : List LinkedRecord) → IsDetectorAfter plan before detector → WritesPart old (lines plan before batch Open) new

-- ---- the end

-- what an inspection counted, with what the records were counted as
abbrev pub counted : RecordCounts → Inspection → Counts
counted seen inspection = record {
  seen = seen;
  items = (tally_in inspection.writer).items;
  hits = (tally_in inspection.writer).hits;
  alerts = (tally_in inspection.writer).alerts;
  tries = inspection.tries;
}

-- the lines of the flows that end with a capture of these records
unfoldable pub closing_lines : Plan → List LinkedRecord → List ℕ
closing_lines plan records =
    texts_from (text_of plan.form plan.config.classes) (alert_count plan records) (closing_alerts plan records)

-- whatever records came before: these lines were written, or a part of them, and all was counted
pub record Closes (plan : Plan) (detector : Detector) (old new : Sending) (outcome : Result Counts WriteFault) : Type 0 where
  pub counted : IfOk outcome (λ counts.
      (records : List LinkedRecord) → IsDetectorAfter plan records detector → counts ≡ counts_of plan records)
  pub emits : EmitsBy (λ (before : Earlier (records_stage plan) detector). closing_lines plan before.inputs) old new outcome
