-- What is known before a capture is opened: the plan, or why there is none.
--
-- To try it on: where `r` has one rule, `snort -c r -r p` is prepared with the plan for `p` and that rule,
-- and no warning; `snort -c r -T` stops as Accepted; `snort --read-unified2 u` is to tell the lines of `u`.
use Rattle.std.specs.Prelude.{◌≡◌, ℕ, ⊤, List, [], Option, None, Result, Ok, Err, IfErr, ◌⊎◌}
use Rattle.std.specs.FinMap.{get}
use Rattle.edge_io.specs.Files.{Files, Lacks}
use Rattle.edge_io.specs.Told.{Rose}
use Rattle.edge_io.specs.declared.host.LoadFault.{LoadFault}
use Rattle.edge_io.specs.declared.host.LoadFault.TheVariants as load
use Rattle.unified2_out.specs.Reading.{IsBadAt}
use Rattle.edge_io.specs.declared.pattern.Refusal.{Refusal}
use Rattle.edge_io.specs.declared.pattern.Span.{Span}
use Rattle.option_eval.specs.Places.{Means}
use Rattle.option_eval.specs.RuleSet.{FindWhatIsMeant}
use Rattle.command_words.specs.CommandLine.{Asked, Run}
use Rattle.rule_eval.specs.Hits.{Test}
use Rattle.snort_setup.specs.declared.setup.Setup.{Setup}
use Rattle.snort_setup.specs.declared.stop.SetupStop.{SetupStop}
use Rattle.snort_setup.specs.declared.stop.SetupStop.TheVariants as halted
use Rattle.snort_setup.specs.Answers.{SetsUp}
use Rattle.snort_setup.specs.Setup.{Ready}
use Rattle.snort_engine.specs.declared.plan.Plan as code
use Rattle.snort_engine.specs.declared.prepare.Task.{Task}
use Rattle.snort_engine.specs.declared.prepare.Task.TheVariants.{Show, Tell}
use Rattle.snort_engine.specs.declared.stop.RunStop.{RunStop}
use Rattle.snort_engine.specs.declared.stop.RunStop.TheVariants as stop
use Rattle.snort_engine.specs.Course.{Way, Stops, Lists, Course, Given, given, IsCourse, AreListed, IsFileWay, Reads}
use Rattle.snort_engine.specs.Course.{AreRefused, setup_words, told_warnings}
use Rattle.snort_engine.specs.Messages.{too_large_text}
use Rattle.snort_engine.specs.Steps.Detecting.{IsSoundPlan}
use Rattle.snort_engine.specs.Steps.Sources.{way_from}
use Rattle.snort_engine.specs.Steps.Stop.{ReadsQuietly, stop_status, stop_text}
use Rattle.snort_engine.specs.Steps.Showing.{plan_of}

-- the words have a course of this way, with these warnings
pub record HasWay (asked : Option Asked) (given : Given) (warnings : List (List ℕ)) (way : Way) : Type 0 where
  pub course : Course
  pub is : IsCourse asked given course
  pub warnings_are : course.warnings ≡ warnings
  pub way_is : course.way ≡ way

-- the way of a detector that is ready for a capture, where this test says which rules match
abbrev pub way_for : {P : Type 0} → Test → code.Plan P → Way
way_for matches plan = way_from plan.source (plan_of matches plan)

-- the way of a task
abbrev pub task_way : {P : Type 0} → Test → Task P → Way
task_way matches (Show plan) = way_for matches plan
task_way matches (Tell lines) = Lists lines

-- something holds of the detector, if the task has one
abbrev pub OfShow : {P : Type 0} → (code.Plan P → Type 0) → Task P → Type 0
OfShow Holds (Show plan) = Holds plan
OfShow Holds (Tell lines) = ⊤

-- the way of a stop; no stop before a capture is opened tells its name
abbrev pub stops : RunStop → Way
stops why = Stops (stop_text [] why) (stop_status why)

-- the way of an answer
abbrev pub way_by : {A : Type 0} → (A → Way) → Result A RunStop → Way
way_by view (Ok ready) = view ready
way_by view (Err why) = stops why

-- an answer is what the words' course has, with its warnings; but a file that couldn't be read may be one
-- of those that are read where the host's count rose, and want of memory is for any, without a warning
abbrev pub Prepares : {A : Type 0} → (A → Way) → Option Asked → Given → Type 0 → Result A RunStop → List (List ℕ) → Type 0
Prepares view asked given rose (Ok ready) warnings = HasWay asked given warnings (view ready)
Prepares view asked given rose (Err (stop.CannotReadFile name)) warnings =
    HasWay asked given warnings (stops (stop.CannotReadFile name)) ⊎ (rose × Reads asked given name warnings)
Prepares view asked given rose (Err stop.NoMemory) warnings = warnings ≡ []
Prepares view asked given rose (Err why) warnings = HasWay asked given warnings (stops why)

-- an answer to words that read no file is a stop, that of their course over any files
abbrev pub StopsFileless : {A : Type 0} → Option Asked → Type 0 → Result A RunStop → List (List ℕ) → Type 0
StopsFileless {A} asked rose (Ok ready) warnings = ⊥
StopsFileless {A} asked rose (Err why) warnings =
    (view : A → Way) (given : Given) → Prepares view asked given rose (Err why) warnings

-- an answer over these files, where the maker's refusals grew by these: whatever test says which rules
-- match, it is what the words' course has over one list of refused lines
pub record IsPrepared {A : Type 0} (view : Test → A → Way) (asked : Option Asked) (files : Files) (rose : Type 0)
    (grown : List Refusal) (answer : Result A RunStop) (warnings : List (List ℕ)) : Type 0 where
  pub refused : List ℕ
  pub are_refused : AreRefused asked files refused grown
  pub prepares : (matches : Test) → Prepares (view matches) asked (given files matches refused) rose answer warnings

-- ---- its steps

-- the warnings that are told of those that a setup gave: none where memory was lacking
abbrev pub told_of : {A : Type 0} → Result A SetupStop → Run → List (List ℕ) → List (List ℕ)
told_of (Err halted.NoMemory) wanted warnings = []
told_of outcome wanted warnings = told_warnings wanted warnings

-- the setup of a run, and the warnings of it that are told
pub record IsSetUp {A : Type 0} (view : A → Ready) (wanted : Run) (files : Files) (rose : Type 0)
    (grown : List Refusal) (answer : Result A SetupStop) (warnings : List (List ℕ)) : Type 0 where
  pub given_warnings : List (List ℕ)
  pub sets_up : SetsUp view (setup_words wanted) files rose grown answer given_warnings
  pub told_are : warnings ≡ told_of answer wanted given_warnings

-- a detector that is set up is kept as it is, or stops as accepted, or for faulty words
abbrev pub KeepsSetup : {P : Type 0} → Setup P → Result (code.Plan P) RunStop → Type 0
KeepsSetup setup (Ok plan) = plan.setup ≡ setup
KeepsSetup setup (Err (stop.Accepted rules)) = ⊤
KeepsSetup setup (Err stop.CommandLine) = ⊤
KeepsSetup setup (Err why) = ⊥

-- ---- a detector that is ready

-- a plan is sound, and its patterns find what the maker means
pub record IsReadyPlan {P : Type 0} (finds : P → List ℕ → Option Span) (means : Means) (plan : code.Plan P) : Type 0 where
  pub sound : IsSoundPlan plan
  pub meant : FindWhatIsMeant finds means plan.setup.set

-- ---- its causes

-- what may stop a run before its capture is opened; a file that is not read has its cause: a fault was
-- counted, or told files lack the name
abbrev pub HasCause : Type 0 → Option Files → RunStop → Type 0
HasCause rose host stop.Usage = ⊤
HasCause rose host stop.Version = ⊤
HasCause rose host (stop.Accepted rules) = ⊤
HasCause rose host stop.CommandLine = ⊤
HasCause rose host (stop.Refused message) = ⊤
HasCause rose host (stop.CannotReadFile name) = rose ⊎ Lacks host name
HasCause rose host (stop.BadUnified2 place) = ⊤
HasCause rose host stop.NoMemory = ⊤
HasCause rose host why = ⊥

-- a stop has its cause, and the host's count stays where nothing cut the run short
pub record HasEarlyCauses {A : Type 0} (host : Option Files) (old new : ℕ) (outcome : Result A RunStop) : Type 0 where
  pub cause : IfErr outcome (HasCause (Rose old new) host)
  pub quiet : ReadsQuietly outcome old new

-- ---- a Unified2 file

-- how a file of this name that was not loaded stops a run; want of memory is for any
abbrev pub StopsAtFile : List ℕ → LoadFault → RunStop → Type 0
StopsAtFile name load.Failed (stop.CannotReadFile file) = file ≡ name
StopsAtFile name load.TooLarge (stop.Refused message) = message ≡ too_large_text name
StopsAtFile name fault stop.NoMemory = ⊤
StopsAtFile name fault why = ⊥

-- bytes were told as the lines of records, or are bad
abbrev pub ListsBytes : List ℕ → Result (List ℕ) RunStop → Type 0
ListsBytes bytes (Ok lines) = AreListed bytes (Lists lines)
ListsBytes bytes (Err (stop.BadUnified2 place)) = IsBadAt bytes place
ListsBytes bytes (Err stop.NoMemory) = ⊤
ListsBytes bytes (Err why) = ⊥

-- the file of this name was told as the lines of its records, or gives this stop; but it may be one that
-- couldn't be read where the host's count rose
abbrev pub ListsFile : List ℕ → Files → Type 0 → Result (List ℕ) RunStop → Type 0
ListsFile name files rose (Ok lines) = IsFileWay name (get files name) (Lists lines)
ListsFile name files rose (Err (stop.CannotReadFile file)) = (file ≡ name) × (rose ⊎ (get files name ≡ None))
ListsFile name files rose (Err (stop.Refused message)) = IsFileWay name (get files name) (stops (stop.Refused message))
ListsFile name files rose (Err (stop.BadUnified2 place)) = IsFileWay name (get files name) (stops (stop.BadUnified2 place))
ListsFile name files rose (Err stop.NoMemory) = ⊤
ListsFile name files rose (Err why) = ⊥

-- faulty words are refused, unless memory is lacking
abbrev pub IsForFaultyWords : {A : Type 0} → Result A RunStop → Type 0
IsForFaultyWords (Ok ready) = ⊥
IsForFaultyWords (Err stop.CommandLine) = ⊤
IsForFaultyWords (Err stop.NoMemory) = ⊤
IsForFaultyWords (Err why) = ⊥
