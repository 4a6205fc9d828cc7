-- How the outcome of a capture ends the run of its course.
--
-- To try it on: where the sink fails at the first line, a run of a plan's course ends as WriteFault, and its message is
-- all warnings and `ERROR: cannot write`.
use Rattle.std.specs.Prelude.{◌≡◌, ℕ, List, ◌++◌, Option, Some, Result}
use Rattle.std.specs.List.{concat}
use Rattle.edge_io.specs.Files.{Files}
use Rattle.edge_io.specs.declared.host.Host.{Ghosts as HostOf}
use Rattle.edge_io.specs.declared.sink.Sink.{Ghosts as SinkOf}
use Rattle.snort_engine.specs.declared.counts.Counts.{Counts}
use Rattle.snort_engine.specs.declared.plan.Plan as code
use Rattle.snort_engine.specs.declared.stop.RunStop.{RunStop}
use Rattle.snort_engine.specs.Course.{Course, Way}
use Rattle.snort_engine.specs.Ending.{Ends}
use Rattle.snort_engine.specs.Outside.{Work, by, work}
use Rattle.snort_engine.specs.Steps.Reporting.{outcome_said}
use Rattle.snort_engine.specs.Steps.Sources.{source_name}
use Rattle.snort_engine.specs.Steps.Stop.{outcome_status}

-- what is said of the outcome of a plan's capture, with what was counted
abbrev pub said_of : {P A : Type 0} → code.Plan P → Result A RunStop → Counts → List ℕ
said_of plan outcome counts = outcome_said (source_name plan.source) plan.counted outcome counts

-- of a host, by these files, and of a sink of alerts
abbrev pub work_by : {H A : Type 0} → HostOf H → SinkOf A → H → A → Files → Work
work_by h a host alerts files = work (by (Some files) h) a host alerts

-- a run of this course ends by this outcome: with its status, and a message of all warnings and what is said of it
abbrev pub EndsBy : {A : Type 0} → Files → Course → Work → Work → Result A RunStop → List ℕ → Type 0
EndsBy files course before after outcome said =
    Ends files course before after (outcome_status outcome) (concat course.warnings ++ said)

-- over all files that agree so, a run of each course of this way ends by this outcome
abbrev pub EndsOnWay : {A : Type 0} → (Files → Type 0) → Way → (Files → Work) → (Files → Work) → Result A RunStop → List ℕ
    → Type 0
EndsOnWay agrees way before after outcome said =
    (files : Files) (course : Course) → agrees files → course.way ≡ way
    → EndsBy files course (before files) (after files) outcome said

-- a run of each course of this way ends by this outcome, where the host isn't asked for anything: whatever is seen of it
-- stays as it is
abbrev pub EndsUnseen : {A : Type 0} → Way → Option (List ℕ) → Option (List ℕ) → Result A RunStop → List ℕ → Type 0
EndsUnseen way old new outcome said =
    (files : Files) (course : Course) (before : Work) → before.alerts ≡ old → course.way ≡ way
    → EndsBy files course before (record before { alerts = new }) outcome said
