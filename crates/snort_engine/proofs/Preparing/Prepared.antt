-- What is known before a capture is opened, from what the words and the setup gave.
use Rattle.std.proofs.Common.{◌≡◌, ℕ, Bool, true, false, List, [], Option, Some, None, Result, Ok, Err, length, refl, sym, ap, subst, ◌∙◌, arith, inl, inr, ⊎_elim}
use Rattle.std.specs.Prelude.{IfOk, IfErr, IsSome, if◌then◌else◌}
use Rattle.edge_io.specs.declared.pattern.Span.{Span}
use Rattle.option_eval.specs.Places.{Means}
use Rattle.std.specs.Option.{option_map, option_map_or}
use Rattle.packet_decode.specs.declared.checks.Checks.{Checks}
use Rattle.std.specs.FinMap.{get}
use Rattle.edge_io.specs.Files.{Files}
use Rattle.edge_io.specs.Told.{Rose}
use Rattle.edge_io.specs.declared.pattern.Refusal.{Refusal}
use Rattle.conf_parser.specs.Reading.{Ended, Whole, Refused as RefusedAt, Asks, told}
use Rattle.command_words.specs.CommandLine.{Asked, help, version, records_of, run, Run}
use Rattle.rule_eval.specs.Hits.{Test}
use Rattle.snort_setup.specs.declared.setup.Setup.{Setup}
use Rattle.snort_setup.specs.declared.stop.SetupStop.{SetupStop}
use Rattle.snort_setup.specs.declared.stop.SetupStop.TheVariants as halted
use Rattle.snort_setup.specs.Words.{Words}
use Rattle.snort_setup.specs.Setup.{Refused, Lacks, Ready, Warned, warned, IsSetup, conf_read}
use Rattle.snort_setup.specs.Answers.{AreRefusedBy, Gives, HasCause as HasSetupCause}
use Rattle.snort_setup.specs.Whole.{IsReadySetup, ready_of}
use Rattle.snort_setup.proofs.One.{setup-one}
use Rattle.snort_engine.specs.declared.plan.Plan as code
use Rattle.snort_engine.specs.declared.prepare.Task.TheVariants.{Show, Tell}
use Rattle.snort_engine.specs.declared.status.Status.TheVariants as status
use Rattle.snort_engine.specs.declared.stop.RunStop.{RunStop}
use Rattle.snort_engine.specs.declared.stop.RunStop.TheVariants as stop
use Rattle.snort_engine.specs.Course.{Way, Stops, Makes, Lists, Course, Given, given, IsCourse, IsFileWay, IsFileless, IsForMade}
use Rattle.snort_engine.specs.Course.{HasOneCourse, checks_of, plan_for, Reads, AreRefused, setup_words, told_warnings, way_ready}
use Rattle.snort_engine.specs.Course.{way_of, course_by, stopping}
use Rattle.snort_engine.specs.declared.plan.CaptureSource.{CaptureSource}
use Rattle.snort_engine.specs.declared.plan.CaptureSource.TheVariants.{File, Made}
use Rattle.snort_engine.specs.Steps.Sources.{IsMade, IsSourceFor, source_name, way_from}
use Rattle.snort_engine.specs.Steps.Detecting.{IsRanged}
use Rattle.snort_engine.specs.Messages.{usage_text, version_text, accepted_text, command_line_text, cannot_read_text}
use Rattle.snort_engine.specs.Steps.Stop.{is_uncut, setup_stop, stop_status, stop_text}
use Rattle.snort_engine.specs.Steps.Preparing.{HasWay, stops, way_by, Prepares, StopsFileless, HasEarlyCauses, IsPrepared}
use Rattle.snort_engine.specs.Steps.Preparing.{IsReadyPlan, IsSetUp, KeepsSetup, HasCause, ListsFile, task_way, way_for, told_of}
use Rattle.snort_engine.proofs.Courses.FileWays.{file_way-one}

-- what maps to nothing is nothing
pub none_by : {W O : Type 0} (f : W → O) (found : Option W) → ((w : W) → found ≡ Some w → ⊥) → option_map f found ≡ None
none_by f None absent = refl
none_by f (Some w) absent = absurd (absent w refl)

-- ---- refused lines

none_refused_by : (words : Words) (ended : Ended) (grown : List Refusal) → AreRefusedBy words ended [] grown
none_refused_by words (Whole read) grown = record { asked = λ k d within. absurd (omega (arith, within)); few = omega arith }
none_refused_by words (RefusedAt fault output) grown = refl
none_refused_by words (Asks name output) grown = refl

-- no line need be refused, whatever the words are
none_refused : (asked : Option Asked) (files : Files) (grown : List Refusal) → AreRefused asked files [] grown
unfolding AreRefused
none_refused None files grown = refl
none_refused (Some help) files grown = refl
none_refused (Some version) files grown = refl
none_refused (Some (records_of file)) files grown = refl
none_refused (Some (run wanted)) files grown = none_refused_by (setup_words wanted) (conf_read (setup_words wanted) (told files)) grown

-- ---- words that read no file

-- a stop that comes without a warning, over no refused lines
stopped_at_once : {A : Type 0} (view : Test → A → Way) (asked : Option Asked) (files : Files) (rose : Type 0) (grown : List Refusal) (why : RunStop) (warnings : List (List ℕ)) → warnings ≡ []
    → ((matches : Test) → Prepares (view matches) asked (given files matches []) rose (Err why) []) → IsPrepared view asked files rose grown (Err why) warnings
stopped_at_once view asked files rose grown why warnings none has =
    subst (λ (w : List (List ℕ)). IsPrepared view asked files rose grown (Err why) w) (sym none)
    (record { refused = []; are_refused = none_refused asked files grown; prepares = has })

faulty_way : (here : Given) → HasWay None here [] (stops stop.CommandLine)
unfolding IsCourse stop_text
faulty_way here = record { course = stopping command_line_text status.Refused; is = refl; warnings_are = refl; way_is = refl }

help_way : (here : Given) → HasWay (Some help) here [] (stops stop.Usage)
unfolding IsCourse stop_text
help_way here = record { course = stopping usage_text status.Done; is = refl; warnings_are = refl; way_is = refl }

version_way : (here : Given) → HasWay (Some version) here [] (stops stop.Version)
unfolding IsCourse stop_text
version_way here = record { course = stopping version_text status.Done; is = refl; warnings_are = refl; way_is = refl }

pub prepared_faulty : {A : Type 0} (view : Test → A → Way) (asked : Option Asked) (files : Files) (rose : Type 0)
    (grown : List Refusal) (warnings : List (List ℕ))
    → asked ≡ None
    → warnings ≡ []
    → IsPrepared view asked files rose grown (Err stop.CommandLine) warnings
prepared_faulty view asked files rose grown warnings is none =
    subst (λ (a : Option Asked). IsPrepared view a files rose grown (Err stop.CommandLine) warnings) (sym is)
    (stopped_at_once view None files rose grown stop.CommandLine warnings none (λ matches. faulty_way (given files matches [])))

pub prepared_help : {A : Type 0} (view : Test → A → Way) (asked : Option Asked) (files : Files) (rose : Type 0)
    (grown : List Refusal) (warnings : List (List ℕ))
    → asked ≡ Some help
    → warnings ≡ []
    → IsPrepared view asked files rose grown (Err stop.Usage) warnings
prepared_help view asked files rose grown warnings is none =
    subst (λ (a : Option Asked). IsPrepared view a files rose grown (Err stop.Usage) warnings) (sym is)
    (stopped_at_once view (Some help) files rose grown stop.Usage warnings none (λ matches. help_way (given files matches [])))

pub prepared_version : {A : Type 0} (view : Test → A → Way) (asked : Option Asked) (files : Files) (rose : Type 0)
    (grown : List Refusal) (warnings : List (List ℕ))
    → asked ≡ Some version
    → warnings ≡ []
    → IsPrepared view asked files rose grown (Err stop.Version) warnings
prepared_version view asked files rose grown warnings is none =
    subst (λ (a : Option Asked). IsPrepared view a files rose grown (Err stop.Version) warnings) (sym is)
    (stopped_at_once view (Some version) files rose grown stop.Version warnings none (λ matches. version_way (given files matches [])))

-- memory was lacking
pub prepared_lacking : {A : Type 0} (view : Test → A → Way) (asked : Option Asked) (files : Files) (rose : Type 0)
    (grown : List Refusal) (warnings : List (List ℕ))
    → warnings ≡ []
    → IsPrepared view asked files rose grown (Err stop.NoMemory) warnings
prepared_lacking view asked files rose grown warnings none = stopped_at_once view asked files rose grown stop.NoMemory warnings none (λ matches. refl)

-- words that read no file stop so, over any files
fileless : {A : Type 0} (asked : Option Asked) (rose : Type 0) (why : RunStop) (warnings : List (List ℕ)) → warnings ≡ []
    → ((view : A → Way) (here : Given) → Prepares view asked here rose (Err why) []) → StopsFileless {A = A} asked rose (Err why) warnings
fileless {A} asked rose why warnings none has = λ view here. subst (λ (w : List (List ℕ)). Prepares view asked here rose (Err why) w) (sym none) (has view here)

pub fileless_faulty : {A : Type 0} (asked : Option Asked) (rose : Type 0) (warnings : List (List ℕ)) → asked ≡ None → warnings ≡ [] → StopsFileless {A = A} asked rose (Err stop.CommandLine) warnings
fileless_faulty {A} asked rose warnings is none =
    subst (λ (a : Option Asked). StopsFileless {A = A} a rose (Err stop.CommandLine) warnings) (sym is) (fileless None rose stop.CommandLine warnings none (λ view here. faulty_way here))

pub fileless_help : {A : Type 0} (asked : Option Asked) (rose : Type 0) (warnings : List (List ℕ)) → asked ≡ Some help → warnings ≡ [] → StopsFileless {A = A} asked rose (Err stop.Usage) warnings
fileless_help {A} asked rose warnings is none =
    subst (λ (a : Option Asked). StopsFileless {A = A} a rose (Err stop.Usage) warnings) (sym is) (fileless (Some help) rose stop.Usage warnings none (λ view here. help_way here))

pub fileless_version : {A : Type 0} (asked : Option Asked) (rose : Type 0) (warnings : List (List ℕ))
    → asked ≡ Some version
    → warnings ≡ []
    → StopsFileless {A = A} asked rose (Err stop.Version) warnings
fileless_version {A} asked rose warnings is none =
    subst (λ (a : Option Asked). StopsFileless {A = A} a rose (Err stop.Version) warnings) (sym is) (fileless (Some version) rose stop.Version warnings none (λ view here. version_way here))

pub fileless_lacking : {A : Type 0} (asked : Option Asked) (rose : Type 0) (warnings : List (List ℕ)) → warnings ≡ [] → StopsFileless {A = A} asked rose (Err stop.NoMemory) warnings
fileless_lacking asked rose warnings none = fileless asked rose stop.NoMemory warnings none (λ view here. refl)

-- words that name files are none of these
pub not_fileless_file : (asked : Option Asked) (file : List ℕ) → asked ≡ Some (records_of file) → IsFileless asked → ⊥
not_fileless_file asked file is fileless_so = subst IsFileless is fileless_so

pub not_fileless_run : (asked : Option Asked) (wanted : Run) → asked ≡ Some (run wanted) → IsFileless asked → ⊥
not_fileless_run asked wanted is fileless_so = subst IsFileless is fileless_so

-- ---- words that name a Unified2 file

-- the course of a file
file_course : (file : List ℕ) (here : Given) (way : Way) → IsFileWay file (get here.files file) way → HasWay (Some (records_of file)) here [] way
unfolding IsCourse
file_course file here way is = record { course = record { warnings = []; way = way }; is = record { unwarned = refl; way = is }; warnings_are = refl; way_is = refl }

-- a Unified2 file's lines are prepared
listed_file : {P : Type 0} (file : List ℕ) (files : Files) (rose : Type 0) (grown : List Refusal) (lines : List ℕ) → ListsFile file files rose (Ok lines)
    → IsPrepared (task_way {P = P}) (Some (records_of file)) files rose grown (Ok (Tell lines)) []
listed_file file files rose grown lines lists = record {
  refused = [];
  are_refused = none_refused (Some (records_of file)) files grown;
  prepares = λ matches. file_course file (given files matches []) (Lists lines) lists;
}

pub prepared_listed : {P : Type 0} (asked : Option Asked) (file : List ℕ) (files : Files) (rose : Type 0) (grown : List Refusal)
    (lines : List ℕ) (warnings : List (List ℕ))
    → asked ≡ Some (records_of file)
    → warnings ≡ []
    → ListsFile file files rose (Ok lines)
    → IsPrepared (task_way {P = P}) asked files rose grown (Ok (Tell lines)) warnings
prepared_listed {P} asked file files rose grown lines warnings is none lists =
    subst (λ (a : Option Asked). IsPrepared (task_way {P = P}) a files rose grown (Ok (Tell lines)) warnings) (sym is)
    (subst (λ (w : List (List ℕ)). IsPrepared (task_way {P = P}) (Some (records_of file)) files rose grown (Ok (Tell lines)) w) (sym none)
    (listed_file {P = P} file files rose grown lines lists))

-- a Unified2 file has no lines, and the way says why
unlisted_way : {A : Type 0} (view : A → Way) (file : List ℕ) (here : Given) (rose : Type 0) (why : RunStop)
    → ListsFile file here.files rose (Err why)
    → Prepares view (Some (records_of file)) here rose (Err why) []
unfolding Reads stop_text
unlisted_way view file here rose (stop.CannotReadFile name) lists =
    ⊎_elim
    (λ (risen : rose). inr (risen, (lists.0, refl)))
    (λ (lacks : get here.files file ≡ None).
    inl (file_course file here (stops (stop.CannotReadFile name))
    (subst (λ (contents : Option (List ℕ)). IsFileWay file contents (stops (stop.CannotReadFile name))) (sym lacks) (ap (λ (n : List ℕ). Stops (cannot_read_text n) status.HostFault) lists.0))))
    lists.1
unlisted_way view file here rose (stop.Refused message) lists = file_course file here (stops (stop.Refused message)) lists
unlisted_way view file here rose (stop.BadUnified2 place) lists = file_course file here (stops (stop.BadUnified2 place)) lists
unlisted_way view file here rose stop.NoMemory lists = refl
unlisted_way view file here rose why lists = absurd lists

pub prepared_unlisted : {A : Type 0} (view : Test → A → Way) (asked : Option Asked) (file : List ℕ) (files : Files)
    (rose : Type 0) (grown : List Refusal) (why : RunStop) (warnings : List (List ℕ))
    → asked ≡ Some (records_of file)
    → warnings ≡ []
    → ListsFile file files rose (Err why)
    → IsPrepared view asked files rose grown (Err why) warnings
prepared_unlisted view asked file files rose grown why warnings is none lists =
    subst (λ (a : Option Asked). IsPrepared view a files rose grown (Err why) warnings) (sym is)
    (stopped_at_once view (Some (records_of file)) files rose grown why warnings none (λ matches. unlisted_way (view matches) file (given files matches []) rose why lists))

-- ---- words that set a detector up

-- the course of a setup
run_way : (wanted : Run) (here : Given) (setup : Warned Ready) (warnings : List (List ℕ)) (way : Way) → IsSetup (setup_words wanted) here.files here.refused setup
    → warnings ≡ told_warnings wanted setup.warnings → way ≡ way_of here.matches wanted setup.outcome → HasWay (Some (run wanted)) here warnings way
unfolding IsCourse
run_way wanted here setup warnings way is told_are way_is = record {
  course = course_by here.matches wanted setup;
  is = (setup, is, refl);
  warnings_are = sym told_are;
  way_is = sym way_is;
}

-- the setup was stopped
pub setup_stopped : {A B : Type 0} (view : A → Ready) (ways : Test → B → Way) (wanted : Run) (files : Files) (rose : Type 0) (grown : List Refusal) (why : SetupStop) (warnings : List (List ℕ))
    → IsSetUp view wanted files rose grown (Err why) warnings → IsPrepared ways (Some (run wanted)) files rose grown (Err (setup_stop why)) warnings
unfolding AreRefused Reads stop_text
setup_stopped {A} {B} view ways wanted files rose grown why warnings set = record {
  refused = set.sets_up.refused;
  are_refused = set.sets_up.are_refused;
  prepares = λ matches. by_stop matches why set.sets_up.gives set.told_are;
}
  where
    by_stop : (matches : Test) (s : SetupStop)
        → Gives view (setup_words wanted) files set.sets_up.refused rose (Err s) set.given_warnings
        → warnings ≡ told_of {A = A} (Err s) wanted set.given_warnings
        → Prepares (ways matches) (Some (run wanted)) (given files matches set.sets_up.refused) rose (Err (setup_stop s)) warnings
    by_stop matches (halted.Refused message) gives told_are =
        run_way wanted (given files matches set.sets_up.refused)
        (warned set.given_warnings (Err (Refused message))) warnings
        (stops (stop.Refused message)) gives told_are refl
    by_stop matches (halted.CannotRead name) gives told_are =
        ⊎_elim
        (λ lacks. inl (run_way wanted (given files matches set.sets_up.refused) (warned set.given_warnings (Err (Lacks name))) warnings (stops (stop.CannotReadFile name)) lacks told_are refl))
        (λ read. inr (read.0, (set.given_warnings, read.1, told_are)))
        gives
    by_stop matches halted.NoMemory gives told_are = told_are

-- a detector that is ready is a task, and so a stop is a stop
pub task_ready : {P : Type 0} (asked : Option Asked) (files : Files) (rose : Type 0) (grown : List Refusal)
    (prepared : code.Plan P) (warnings : List (List ℕ))
    → IsPrepared way_for asked files rose grown (Ok prepared) warnings
    → IsPrepared task_way asked files rose grown (Ok (Show prepared)) warnings
task_ready asked files rose grown prepared warnings is = record { refused = is.refused; are_refused = is.are_refused; prepares = is.prepares }

stopped_as : {A B : Type 0} (view : A → Way) (other : B → Way) (asked : Option Asked) (here : Given) (rose : Type 0) (why : RunStop)
    (warnings : List (List ℕ))
    → Prepares view asked here rose (Err why) warnings
    → Prepares other asked here rose (Err why) warnings
stopped_as view other asked here rose (stop.CannotReadFile name) warnings has = has
stopped_as view other asked here rose stop.NoMemory warnings has = has
stopped_as view other asked here rose why warnings has = has

pub task_stopped : {A B : Type 0} (view : Test → A → Way) (other : Test → B → Way) (asked : Option Asked) (files : Files)
    (rose : Type 0) (grown : List Refusal) (why : RunStop) (warnings : List (List ℕ))
    → IsPrepared view asked files rose grown (Err why) warnings
    → IsPrepared other asked files rose grown (Err why) warnings
task_stopped view other asked files rose grown why warnings is = record {
  refused = is.refused;
  are_refused = is.are_refused;
  prepares = λ matches. stopped_as (view matches) (other matches) asked (given files matches is.refused) rose why warnings (is.prepares matches);
}

-- the detector was set up
pub setup_ready : {P : Type 0} (wanted : Run) (files : Files) (rose : Type 0) (grown : List Refusal) (setup : Setup P) (answer : Result (code.Plan P) RunStop) (warnings : List (List ℕ))
    → IsSetUp ready_of wanted files rose grown (Ok setup) warnings
    → ((matches : Test) → way_by (way_for matches) answer ≡ way_of matches wanted (Ok (ready_of setup))) → KeepsSetup setup answer
    → IsPrepared way_for (Some (run wanted)) files rose grown answer warnings
unfolding AreRefused
setup_ready {P} wanted files rose grown setup answer warnings set way keeps = record {
  refused = set.sets_up.refused;
  are_refused = set.sets_up.are_refused;
  prepares = λ matches. by_answer matches answer keeps
      (run_way wanted (given files matches set.sets_up.refused)
      (warned set.given_warnings (Ok (ready_of setup))) warnings
      (way_by (way_for matches) answer) set.sets_up.gives set.told_are (way matches));
}
  where
    by_answer : (matches : Test) (a : Result (code.Plan P) RunStop) → KeepsSetup setup a → HasWay (Some (run wanted)) (given files matches set.sets_up.refused) warnings (way_by (way_for matches) a)
        → Prepares (way_for matches) (Some (run wanted)) (given files matches set.sets_up.refused) rose a warnings
    by_answer matches (Ok prepared) kept has = has
    by_answer matches (Err (stop.Accepted rules)) kept has = has
    by_answer matches (Err stop.CommandLine) kept has = has
    by_answer matches (Err why) kept has = absurd kept

same_course : (w v : List (List ℕ)) (x y : Way) → w ≡ v → x ≡ y → ◌≡◌ {A = Course} (record { warnings = w; way = x }) (record { warnings = v; way = y })
same_course w v x y warnings way = cc

-- words, files, a test and refused lines have at most one course
pub one_course : HasOneCourse
unfolding IsCourse
one_course None here a b of_a of_b = of_a ∙ sym of_b
one_course (Some help) here a b of_a of_b = of_a ∙ sym of_b
one_course (Some version) here a b of_a of_b = of_a ∙ sym of_b
one_course (Some (records_of file)) here a b of_a of_b =
    same_course a.warnings b.warnings a.way b.way (of_a.unwarned ∙ sym of_b.unwarned) (file_way-one file (get here.files file) a.way b.way of_a.way of_b.way)
one_course (Some (run wanted)) here a b (setup_a, is_a, of_a) (setup_b, is_b, of_b) =
    of_a ∙ ap (λ (setup : Warned Ready). course_by here.matches wanted setup) (setup-one (setup_words wanted) here.files here.refused setup_a setup_b is_a is_b) ∙ sym of_b

-- ---- where the capture comes from

-- the way of a capture is that of the words
pub way_from-words : (matches : Test) (wanted : Run) (ready : Ready) (source : CaptureSource) → IsSourceFor wanted (Some source)
    → way_from source (plan_for matches wanted ready (source_name source)) ≡ way_ready matches wanted ready wanted.generate wanted.capture
way_from-words matches wanted ready (File name) (unmade, named) =
    sym (ap (λ (generate : Option ℕ). way_ready matches wanted ready generate wanted.capture) unmade ∙ ap (way_ready matches wanted ready None) named)
way_from-words matches wanted ready (Made seed count) (counted, seeded) =
    sym (ap (λ (generate : Option ℕ). way_ready matches wanted ready generate wanted.capture) counted ∙ ap (λ (s : ℕ). Makes (plan_for matches wanted ready []) s count) seeded)

pub ready_way : (matches : Test) (wanted : Run) (ready : Ready) (source : CaptureSource) (checks : Checks) → wanted.test ≡ false → IsSourceFor wanted (Some source)
    → checks ≡ option_map_or checks_of wanted.checks ready.config.checks
    → way_from source (record (plan_for matches wanted ready (source_name source)) { checks = checks }) ≡ way_of matches wanted (Ok ready)
ready_way matches wanted ready source checks untested from are =
    ap (λ (k : Checks). way_from source (record (plan_for matches wanted ready (source_name source)) { checks = k })) are
    ∙ way_from-words matches wanted ready source from
    ∙ sym (ap (λ (test : Bool). if test then Stops (accepted_text (length ready.rules)) status.Done else way_ready matches wanted ready wanted.generate wanted.capture) untested)

-- words without a capture
pub no_source : (wanted : Run) (found : Option CaptureSource) → ((source : CaptureSource) → found ≡ Some source → ⊥) → IsSourceFor wanted found → (wanted.generate ≡ None) × (wanted.capture ≡ None)
no_source wanted None absent is = is
no_source wanted (Some source) absent is = absurd (absent source refl)

-- where the words ask for a capture that is made, it is
pub source_made : (wanted : Run) (source : CaptureSource) → IsSourceFor wanted (Some source) → IsSome wanted.generate → IsMade source
source_made wanted (File name) (unmade, named) asks = let none : false ≡ true = subst (λ (generate : Option ℕ). IsSome generate) unmade asks in absurd cc
source_made wanted (Made seed count) is asks = tt

pub run_made : {P : Type 0} (asked : Option Asked) (wanted : Run) (answer : Result (code.Plan P) RunStop)
    → asked ≡ Some (run wanted)
    → IfOk answer (λ ready. IsSome wanted.generate → IsMade ready.source)
    → IfOk answer (λ ready. IsForMade asked → IsMade ready.source)
run_made asked wanted (Ok prepared) is made = λ for_made. made (subst IsForMade is for_made)
run_made asked wanted (Err why) is made = tt

-- ---- causes

-- a setup that was stopped has its cause
pub setup_cause : (rose : Type 0) (host : Option Files) (why : SetupStop) → HasSetupCause rose host why → HasCause rose host (setup_stop why)
setup_cause rose host (halted.Refused message) cause = tt
setup_cause rose host (halted.CannotRead name) cause = cause
setup_cause rose host halted.NoMemory cause = tt

-- a detector that was set up is stopped without a fault
kept_cause : {P : Type 0} (rose : Type 0) (host : Option Files) (setup : Setup P) (answer : Result (code.Plan P) RunStop) → KeepsSetup setup answer → IfErr answer (HasCause rose host)
kept_cause rose host setup (Ok prepared) kept = tt
kept_cause rose host setup (Err (stop.Accepted rules)) kept = tt
kept_cause rose host setup (Err stop.CommandLine) kept = tt
kept_cause rose host setup (Err why) kept = absurd kept

-- the causes of what was stopped, and of what wasn't
pub stopped_early : {A : Type 0} (host : Option Files) (old new : ℕ) (why : RunStop)
    → HasCause (Rose old new) host why
    → (is_uncut (stop_status why) ≡ true → new ≡ old)
    → HasEarlyCauses {A = A} host old new (Err why)
stopped_early host old new why cause quiet = record { cause = cause; quiet = quiet }

pub ready_early : {A : Type 0} (host : Option Files) (old new : ℕ) (ready : A) → new ≡ old → HasEarlyCauses host old new (Ok ready)
ready_early host old new ready same = record { cause = tt; quiet = λ uncut. same }

pub kept_early : {P : Type 0} (host : Option Files) (old new : ℕ) (setup : Setup P) (answer : Result (code.Plan P) RunStop) → KeepsSetup setup answer → new ≡ old → HasEarlyCauses host old new answer
kept_early host old new setup answer kept same = record { cause = kept_cause (Rose old new) host setup answer kept; quiet = λ uncut. same }

-- ---- a detector that is ready

-- the plan keeps its setup, and its numbers are those of the words
pub kept_ready : {P : Type 0} (finds : P → List ℕ → Option Span) (means : Means) (setup : Setup P) (answer : Result (code.Plan P) RunStop) (lanes flush : ℕ) → KeepsSetup setup answer
    → IfOk answer (λ ready. (ready.lanes ≡ lanes) × (ready.flush ≡ flush)) → IsRanged lanes flush → IsReadySetup finds means setup → IfOk answer (IsReadyPlan finds means)
kept_ready finds means setup (Err why) lanes flush kept same ranged sound = tt
kept_ready {P} finds means setup (Ok prepared) lanes flush kept (same, too) ranged sound =
    let still : IsReadySetup finds means prepared.setup = subst (λ (s : Setup P). IsReadySetup finds means s) (sym kept) sound in
    record {
      sound = record {
        config = still.config;
        rules = still.rules;
        few = still.few;
        ranges = subst (λ (n : ℕ). IsRanged n prepared.flush) (sym same) (subst (λ (n : ℕ). IsRanged lanes n) (sym too) ranged);
      };
      meant = still.meant;
    }
