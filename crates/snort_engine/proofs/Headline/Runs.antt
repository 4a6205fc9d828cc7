-- How a run follows its course, and the headline.
use Rattle.std.proofs.lemmas.Bool.Decides.{nat_tests}
use Rattle.std.proofs.Common.{◌≡◌, ℕ, ◌+◌, ◌≤◌, Bool, true, false, List, [], ◌++◌, Option, Some, None, Result, Ok, Err, refl, sym, ap, subst, ◌∙◌, arith, inl, inr, ◌⊎◌, ⊎_elim}
use Rattle.std.specs.List.{concat}
use Rattle.edge_io.specs.Told.{grown, Rose, one_more}
use Rattle.edge_io.specs.Files.{Files, Lacks}
use Rattle.snort_engine.specs.declared.plan.CaptureSource.{CaptureSource}
use Rattle.snort_engine.specs.declared.plan.CaptureSource.TheVariants.{File, Made}
use Rattle.snort_engine.specs.Records.{IsToldOther}
use Rattle.snort_engine.specs.Steps.Reader.{MayBeOther, OpensSo}
use Rattle.snort_engine.specs.Steps.Sources.{IsMade, LacksCapture, OpensOn, way_from}
use Rattle.snort_engine.specs.Records.{BeginsOtherwise}
use Rattle.edge_io.proofs.Told.{grown-nil}
use Rattle.option_eval.specs.Places.{Means}
use Rattle.command_words.specs.CommandLine.{Asked, command_line}
use Rattle.rule_eval.specs.Hits.{Test, Tells}
use Rattle.snort_engine.specs.declared.status.Status.{Status}
use Rattle.snort_engine.specs.declared.status.Status.TheVariants as status
use Rattle.snort_engine.specs.declared.stop.RunStop.{RunStop}
use Rattle.snort_engine.specs.declared.stop.RunStop.TheVariants as stop
use Rattle.snort_engine.specs.Course.{Plan, Way, Stops, Goes, Makes, Lists, Course, Given, given, IsCourse, IsFileless, IsForMade, AreRefused}
use Rattle.snort_engine.specs.Answer.{Answer, answer_of, way_answer, capture_answer}
use Rattle.snort_engine.specs.Messages.{no_memory_text}
use Rattle.snort_engine.specs.Outside.{Outside, Work, work_of, NoFault, NoCountFell}
use Rattle.snort_engine.specs.ReadAhead.{IsUntouched, ReadsAhead}
use Rattle.snort_engine.specs.Ending.{IsStated, IsUncut, IsAnswered, Ends, EndsEarly, EndsOnCourse, EndsRun}
use Rattle.snort_engine.specs.Steps.Stop.{stop_status, stop_text, outcome_status, is_uncut, is_written, ReadsQuietly, WritesQuietly}
use Rattle.snort_engine.specs.Steps.Reporting.{TellsOn, TellsLast}
use Rattle.snort_engine.specs.Steps.Preparing.{HasWay, stops, Prepares, StopsFileless, IsPrepared, HasCause, IsForFaultyWords}
use Rattle.snort_engine.specs.Headline.{refused_since, EndsSo, HasAnswer, LacksOne, HasOther, MayBeCut, OpensBy, Headline}
use Rattle.snort_engine.proofs.Prefixes.{rose_since}
use Rattle.snort_engine.proofs.Headline.Quiet.{status_uncut, uncut_written}
use Rattle.snort_engine.proofs.Lines.Laws.{lines_join, prefix_law}
use Rattle.snort_engine.proofs.Preparing.Prepared.{one_course}
use Rattle.snort_engine.proofs.Records.Made.{made_is_whole}
use Rattle.snort_engine.proofs.Headline.Reported.{ReportsOn, tells_message}
use Rattle.snort_engine.proofs.Headline.Finishing.{IsPlain, ends_met, ends_answered, ends_untold, ends_since, IsLater, ahead_stops}

-- ---- a course that stops

-- the answer of a course that stops
stops_answered : (files : Files) (course : Course) (message : List ℕ) (ended : Status) → course.way ≡ Stops message ended
    → answer_of files course ≡ record { alerts = []; errors = concat course.warnings ++ message; status = ended }
stops_answered files course message ended is = ap (way_answer files (concat course.warnings)) is

-- what stops a course before its capture: a status that is plain, or that of a file that is lacking
abbrev pub IsEarlyStatus : Status → Type 0
IsEarlyStatus ended = IsPlain ended ⊎ (ended ≡ status.HostFault)

-- a run of a course that stops, where nothing was opened and no line was written
stops_ends : (files : Files) (course : Course) (message : List ℕ) (ended : Status) (before after : Work) → course.way ≡ Stops message ended → IsEarlyStatus ended → IsUntouched before after
    → Ends files course before after ended (concat course.warnings ++ message)
stops_ends files course message ended before after is early unopened =
    ⊎_elim
    (λ (plain : IsPlain ended). ends_met files course before after ended [] text plain wrote answered ahead)
    (λ (lacks : ended ≡ status.HostFault).
    subst (λ (s : Status). Ends files course before after s text) (sym lacks)
    (ends_answered files course before after [] text wrote (subst (λ (s : Status). IsAnswered (answer_of files course) s [] text) lacks answered)
    (subst (λ (s : Status). ReadsAhead files course before after s) lacks ahead)))
    early
  where
    text : List ℕ
    text = concat course.warnings ++ message

    wrote : after.alerts ≡ grown before.alerts []
    wrote = unopened.alerts ∙ sym (grown-nil before.alerts)

    meant : answer_of files course ≡ record { alerts = []; errors = concat course.warnings ++ message; status = ended }
    meant = stops_answered files course message ended is

    answered : IsAnswered (answer_of files course) ended [] (concat course.warnings ++ message)
    answered = record {
      status = ap (λ (a : Answer). a.status) (sym meant);
      alerts_are = ap (λ (a : Answer). a.alerts) (sym meant);
      message_is = ap (λ (a : Answer). a.errors) (sym meant);
    }

    ahead : ReadsAhead files course before after ended
    ahead = ahead_stops files course message ended before after ended is refl unopened

-- ---- a run that was stopped before its capture

-- a course of this way, over these files
on_course : (asked : Option Asked) (here : Given) (warnings : List (List ℕ)) (message : List ℕ) (ended : Status) (before after : Work) → HasWay asked here warnings (Stops message ended)
    → IsEarlyStatus ended → IsUntouched before after
    → EndsOnCourse asked here before after ended (concat warnings ++ message)
on_course asked here warnings message ended before after has early unopened = record {
  course = has.course;
  is = has.is;
  ends =
      subst (λ (w : List (List ℕ)). Ends here.files has.course before after ended (concat w ++ message)) has.warnings_are
      (stops_ends here.files has.course message ended before after has.way_is early unopened);
}

-- a course of this way, where memory was lacking for the message
on_course_untold : (asked : Option Asked) (here : Given) (warnings : List (List ℕ)) (message : List ℕ) (ended : Status) (before after : Work) → HasWay asked here warnings (Stops message ended)
    → IsEarlyStatus ended → IsUntouched before after
    → EndsOnCourse asked here before after status.NoMemory (concat warnings ++ no_memory_text)
on_course_untold asked here warnings message ended before after has early unopened = record {
  course = has.course;
  is = has.is;
  ends = subst (λ (w : List (List ℕ)). Ends here.files has.course before after status.NoMemory (concat w ++ no_memory_text)) has.warnings_are
      (ends_untold here.files has.course before after ended (concat has.course.warnings ++ message) (stops_ends here.files has.course message ended before after has.way_is early unopened));
}

module _ {A : Type 0} (view : A → Way) (asked : Option Asked) (here : Given) (before after : Work) (warnings : List (List ℕ)) (unopened : IsUntouched before after) where
  -- how a stop ends a run
  stop_ends : (host : Option Files) (why : RunStop) → HasCause (Rose before.host_faults after.host_faults) host why
      → Prepares view asked here (Rose before.host_faults after.host_faults) (Err why) warnings
      → EndsRun asked here before after (stop_status why) (concat warnings ++ stop_text [] why)
  unfolding stop_text
  stop_ends host stop.Usage cause has = inl (on_course asked here warnings _ _ before after has (inl tt) unopened)
  stop_ends host stop.Version cause has = inl (on_course asked here warnings _ _ before after has (inl tt) unopened)
  stop_ends host (stop.Accepted rules) cause has = inl (on_course asked here warnings _ _ before after has (inl tt) unopened)
  stop_ends host stop.CommandLine cause has = inl (on_course asked here warnings _ _ before after has (inl tt) unopened)
  stop_ends host (stop.Refused message) cause has = inl (on_course asked here warnings _ _ before after has (inl tt) unopened)
  stop_ends host (stop.CannotReadFile name) cause has =
      ⊎_elim
      (λ lacks. inl (on_course asked here warnings _ _ before after lacks (inr refl) unopened))
      (λ read. inr (record { unopened = unopened; why = inl (refl, read.0, record { name = name; warnings = warnings; is = read.1; says = refl }) }))
      has
  stop_ends host (stop.BadUnified2 place) cause has = inl (on_course asked here warnings _ _ before after has (inl tt) unopened)
  stop_ends host stop.NoMemory cause has = inr (record { unopened = unopened; why = inr (refl, record { warnings = warnings; before_one = inl has; says = refl }) })
  stop_ends host why cause has = absurd cause

  -- how a stop ends a run where memory was lacking for its message
  stop_untold : (host : Option Files) (why : RunStop) → HasCause (Rose before.host_faults after.host_faults) host why
      → Prepares view asked here (Rose before.host_faults after.host_faults) (Err why) warnings
      → EndsRun asked here before after status.NoMemory (concat warnings ++ no_memory_text)
  stop_untold host stop.Usage cause has = inl (on_course_untold asked here warnings _ _ before after has (inl tt) unopened)
  stop_untold host stop.Version cause has = inl (on_course_untold asked here warnings _ _ before after has (inl tt) unopened)
  stop_untold host (stop.Accepted rules) cause has = inl (on_course_untold asked here warnings _ _ before after has (inl tt) unopened)
  stop_untold host stop.CommandLine cause has = inl (on_course_untold asked here warnings _ _ before after has (inl tt) unopened)
  stop_untold host (stop.Refused message) cause has = inl (on_course_untold asked here warnings _ _ before after has (inl tt) unopened)
  stop_untold host (stop.CannotReadFile name) cause has =
      ⊎_elim
      (λ lacks. inl (on_course_untold asked here warnings _ _ before after lacks (inr refl) unopened))
      (λ read. inr (record { unopened = unopened; why = inr (refl, record { warnings = warnings; before_one = inr (name, read.1); says = refl }) }))
      has
  stop_untold host (stop.BadUnified2 place) cause has = inl (on_course_untold asked here warnings _ _ before after has (inl tt) unopened)
  stop_untold host stop.NoMemory cause has = inr (record { unopened = unopened; why = inr (refl, record { warnings = warnings; before_one = inl has; says = refl }) })
  stop_untold host why cause has = absurd cause

-- ---- the headline

-- what holds of told files and one list of refused lines
abbrev pub HoldsOf : Option Asked → Test → Outside → Outside → Status → Files → List ℕ → Type 0
HoldsOf asked matches before after ended files refused =
    AreRefused asked files refused (refused_since before after)
    × EndsSo asked (given files matches refused) before after ended
    × (ended ≡ status.HostFault → Rose before.host_faults after.host_faults ⊎ HasAnswer asked (given files matches refused) status.HostFault)
    × OpensBy asked (given files matches refused) before after ended

-- the list, and what holds of told files
pub record OfOne (seen : Option Files) (P : Files → List ℕ → Type 0) : Type 0 where
  pub refused : List ℕ
  pub holds : (files : Files) → seen ≡ Some files → P files refused

of_one : (seen : Option Files) (P : Files → List ℕ → Type 0) → ((files : Files) → seen ≡ Some files → (refused : List ℕ) × P files refused) → OfOne seen P
of_one None P has = record { refused = []; holds = λ files is. absurd cc }
of_one (Some known) P has =
    let one = has known refl in
    record { refused = one.0; holds = λ files is. let same : known ≡ files = cc in subst (λ (f : Files). P f one.0) same one.1 }

-- what is known of a run, whatever ended it
pub record IsRun (asked : Option Asked) (means : Means) (before after : Outside) (ended : Status) : Type 0 where
  pub matches : Test
  pub tells : Tells means matches
  pub told : (files : Files) → before.files ≡ Some files → (refused : List ℕ) × HoldsOf asked matches before after ended files refused
  pub untold : ended ≡ status.HostFault → before.files ≡ None → Rose before.host_faults after.host_faults
  pub write_fault : ended ≡ status.WriteFault → Rose before.alert_faults after.alert_faults
  pub quiet : IsUncut ended → (after.host_faults ≡ before.host_faults) × (after.alert_faults ≡ before.alert_faults)
  pub quiet_alerts : ended ≡ status.HostFault → after.alert_faults ≡ before.alert_faults
  pub faulty_words : asked ≡ None → (ended ≡ status.Refused) ⊎ (ended ≡ status.NoMemory)
  pub opened_twice : after.opens ≤ before.opens + 2
  pub made_unopened : IsForMade asked → (after.opens ≡ before.opens) × (after.left ≡ before.left)
  pub fileless : IsFileless asked → (files : Files) → EndsSo asked (given files matches []) before after ended
  pub same_files : after.files ≡ before.files
  pub counts : NoCountFell before after

-- where no count rose, the status is the answer's, unless memory is lacking
complete_on : (files : Files) (course : Course) (before after : Outside) (ended : Status) (message : List ℕ) (s : Status) → ended ≡ s
    → (s ≡ status.WriteFault → Rose before.alert_faults after.alert_faults)
    → Ends files course (work_of before) (work_of after) ended message → NoFault before after → (ended ≡ (answer_of files course).status) ⊎ (ended ≡ status.NoMemory)
complete_on files course before after ended message status.NoMemory is write ends calm = inr is
complete_on files course before after ended message status.WriteFault is write ends calm = absurd (calm.alerts (write refl))
complete_on files course before after ended message status.HostFault is write ends calm =
    inl (ends.ended_as_stated (subst (λ (x : Status). IsStated x (Rose before.host_faults after.host_faults)) (sym is) calm.host)).status
complete_on files course before after ended message status.Done is write ends calm =
    inl (ends.ended_as_stated (subst (λ (x : Status). IsStated x (Rose before.host_faults after.host_faults)) (sym is) tt)).status
complete_on files course before after ended message status.Refused is write ends calm =
    inl (ends.ended_as_stated (subst (λ (x : Status). IsStated x (Rose before.host_faults after.host_faults)) (sym is) tt)).status
complete_on files course before after ended message status.BadCapture is write ends calm =
    inl (ends.ended_as_stated (subst (λ (x : Status). IsStated x (Rose before.host_faults after.host_faults)) (sym is) tt)).status

complete_by : (asked : Option Asked) (here : Given) (before after : Outside) (ended : Status) → (ended ≡ status.WriteFault → Rose before.alert_faults after.alert_faults)
    → EndsSo asked here before after ended → NoFault before after
    → HasAnswer asked here ended ⊎ (ended ≡ status.NoMemory)
complete_by asked here before after ended write so calm =
    ⊎_elim
    (λ (on : EndsOnCourse asked here (work_of before) (work_of after) ended so.message).
    ⊎_elim (λ (is : ended ≡ (answer_of here.files on.course).status). inl (record { course = on.course; is = on.is; status = is })) (λ (lacking : ended ≡ status.NoMemory). inr lacking)
    (complete_on here.files on.course before after ended so.message ended refl write on.ends calm))
    (λ (early : EndsEarly asked here (work_of before) (work_of after) ended so.message).
    ⊎_elim (λ unread. absurd (calm.host unread.1)) (λ lacking. inr lacking.0) early.why)
    so.ends

-- the headline of a run
pub headline : (words : List (List ℕ)) (means : Means) (before after : Outside) (ended : Status) → IsRun (command_line words) means before after ended → Headline words means before after ended
headline words means before after ended run = record {
  matches = run.matches;
  tells = run.tells;
  refused = (of_one before.files (HoldsOf (command_line words) run.matches before after ended) run.told).refused;
  refused_patterns = λ files is. ((of_one before.files (HoldsOf (command_line words) run.matches before after ended) run.told).holds files is).0;
  ends = λ files is. ((of_one before.files (HoldsOf (command_line words) run.matches before after ended) run.told).holds files is).1;
  complete = λ files is calm.
      complete_by (command_line words) _ before after ended run.write_fault ((of_one before.files (HoldsOf (command_line words) run.matches before after ended) run.told).holds files is).1 calm;
  opened_once = record {
    at_most = run.opened_twice;
    exactly = λ files is. ((of_one before.files (HoldsOf (command_line words) run.matches before after ended) run.told).holds files is).3;
  };
  made_unopened = run.made_unopened;
  write_fault = run.write_fault;
  host_fault = λ failed. by_files before.files refl failed;
  quiet = run.quiet;
  quiet_alerts = run.quiet_alerts;
  faulty_words = run.faulty_words;
  fileless = run.fileless;
  same_files = run.same_files;
  counts = run.counts;
  one_course = one_course;
  made_is_whole = made_is_whole;
  lines_join = lines_join;
  prefix_law = prefix_law;
}
  where
    by_files : (seen : Option Files) → before.files ≡ seen → ended ≡ status.HostFault
        → Rose before.host_faults after.host_faults
        ⊎ LacksOne before.files (λ files. given files run.matches (of_one before.files (HoldsOf (command_line words) run.matches before after ended) run.told).refused) (command_line words)
    by_files None is failed = inl (run.untold failed is)
    by_files (Some files) is failed =
        ⊎_elim (λ (rose : Rose before.host_faults after.host_faults). inl rose) (λ answered. inr (files, is, answered))
        (((of_one before.files (HoldsOf (command_line words) run.matches before after ended) run.told).holds files is).2 failed)

-- ---- a run that was stopped before its capture

-- a stop at a file that couldn't be read has its answer, or the host's count rose
stop_answered : {A : Type 0} (view : A → Way) (asked : Option Asked) (here : Given) (rose : Type 0) (host : Option Files) (why : RunStop) (warnings : List (List ℕ)) → HasCause rose host why
    → Prepares view asked here rose (Err why) warnings
    → stop_status why ≡ status.HostFault → rose ⊎ HasAnswer asked here status.HostFault
stop_answered view asked here rose host (stop.CannotReadFile name) warnings cause has failed =
    ⊎_elim
    (λ (way : HasWay asked here warnings (stops (stop.CannotReadFile name))).
    inr (record { course = way.course; is = way.is; status = sym (ap (λ (a : Answer). a.status) (stops_answered here.files way.course _ _ way.way_is)) }))
    (λ read. inl read.0)
    has
stop_answered view asked here rose host (stop.Capture why) warnings cause has failed = absurd cause
stop_answered view asked here rose host why warnings cause has failed = absurd cc

-- without told files the host's count rose
stop_untold_rose : (rose : Type 0) (host : Option Files) (why : RunStop) → HasCause rose host why → stop_status why ≡ status.HostFault → host ≡ None → rose
stop_untold_rose rose host (stop.CannotReadFile name) cause failed none = ⊎_elim (λ (r : rose). r) (λ (lacks : Lacks host name). absurd (subst (λ (h : Option Files). Lacks h name) none lacks)) cause
stop_untold_rose rose host (stop.Capture why) cause failed none = absurd cause
stop_untold_rose rose host why cause failed none = absurd cc

-- no stop before the capture is a fault of writing
no_write_stop : (rose : Type 0) (host : Option Files) (why : RunStop) → HasCause rose host why → stop_status why ≡ status.WriteFault → ⊥
no_write_stop rose host stop.CannotWrite cause failed = cause
no_write_stop rose host (stop.Capture why) cause failed = cause
no_write_stop rose host why cause failed = absurd cc

-- faulty words are refused
faulty_status : {A : Type 0} (answer : Result A RunStop) → IsForFaultyWords answer → (outcome_status answer ≡ status.Refused) ⊎ (outcome_status answer ≡ status.NoMemory)
faulty_status (Ok ready) faulty = absurd faulty
faulty_status (Err stop.CommandLine) faulty = inl refl
faulty_status (Err stop.NoMemory) faulty = inr refl
faulty_status (Err why) faulty = absurd faulty

-- what is told of a run: its warnings, and then what is reported of its outcome
pub record IsTold (warnings : List (List ℕ)) (text : List ℕ) (outcome : Result (Unit {0}) RunStop) (before after : Outside) (ended : Status) : Type 0 where
  pub middle : Option (List ℕ)
  pub at_middle : ℕ
  pub well : Bool
  pub later : before.error_faults ≤ at_middle
  pub on : at_middle ≤ after.error_faults
  pub warned : TellsOn (concat warnings) true before.errors middle (Rose before.error_faults at_middle) well
  pub reports : ReportsOn text outcome ended well middle after.errors (Rose at_middle after.error_faults)

-- a status other than NoMemory is that of the outcome
by_outcome : (warnings : List (List ℕ)) (text : List ℕ) (outcome : Result (Unit {0}) RunStop) (before after : Outside) (ended other : Status) → IsTold warnings text outcome before after ended
    → (status.NoMemory ≡ other → ⊥) → ended ≡ other → outcome_status outcome ≡ other
by_outcome warnings text outcome before after ended other told apart is =
    ⊎_elim (λ said. sym said.0 ∙ is) (λ untold. absurd (apart (sym untold.0 ∙ is))) told.reports

-- a run that isn't cut short has an outcome that isn't
uncut_by_outcome : (warnings : List (List ℕ)) (text : List ℕ) (outcome : Result (Unit {0}) RunStop) (before after : Outside) (ended : Status) → IsTold warnings text outcome before after ended
    → IsUncut ended → is_uncut (outcome_status outcome) ≡ true
uncut_by_outcome warnings text outcome before after ended told uncut =
    ⊎_elim
    (λ said. ap is_uncut (sym said.0) ∙ status_uncut ended uncut)
    (λ untold. let never : false ≡ true = ap is_uncut (sym untold.0) ∙ status_uncut ended uncut in absurd cc)
    told.reports

-- a run that isn't cut short met no fault of the host and none of the alert sink, where the work met none
quiet_run : (warnings : List (List ℕ)) (text : List ℕ) (outcome : Result (Unit {0}) RunStop) (before after : Outside) (ended : Status) → IsTold warnings text outcome before after ended
    → ReadsQuietly outcome before.host_faults after.host_faults → WritesQuietly outcome before.alert_faults after.alert_faults
    → IsUncut ended → (after.host_faults ≡ before.host_faults) × (after.alert_faults ≡ before.alert_faults)
quiet_run warnings text outcome before after ended told reads writes uncut =
    let so = uncut_by_outcome warnings text outcome before after ended told uncut in
    (reads so, writes (uncut_written (outcome_status outcome) so))

quiet_alerts_run : (warnings : List (List ℕ)) (text : List ℕ) (outcome : Result (Unit {0}) RunStop) (before after : Outside) (ended : Status) → IsTold warnings text outcome before after ended
    → WritesQuietly outcome before.alert_faults after.alert_faults → ended ≡ status.HostFault → after.alert_faults ≡ before.alert_faults
quiet_alerts_run warnings text outcome before after ended told writes failed =
    writes (ap is_written (by_outcome warnings text outcome before after ended status.HostFault told (λ e. cc) failed))

-- a run that ends so by its outcome, and so where memory is lacking for the message
ends_told : (asked : Option Asked) (here : Given) (warnings : List (List ℕ)) (text : List ℕ) (outcome : Result (Unit {0}) RunStop) (before after : Outside) (ended : Status)
    → IsTold warnings text outcome before after ended
    → EndsRun asked here (work_of before) (work_of after) (outcome_status outcome) (concat warnings ++ text)
    → EndsRun asked here (work_of before) (work_of after) status.NoMemory (concat warnings ++ no_memory_text)
    → EndsSo asked here before after ended
ends_told asked here warnings text outcome before after ended told ends untold =
    ⊎_elim
    (λ (said : (ended ≡ outcome_status outcome) × TellsLast (text) told.well told.middle after.errors (Rose told.at_middle after.error_faults)).
    record {
      message = concat warnings ++ text;
      tells = tells_message (concat warnings) (text) before.errors told.middle after.errors before.error_faults told.at_middle after.error_faults told.well told.later told.on told.warned said.1;
      ends = subst (λ (s : Status). EndsRun asked here (work_of before) (work_of after) s (concat warnings ++ text)) (sym said.0) ends;
    })
    (λ (lacking : (ended ≡ status.NoMemory) × TellsLast no_memory_text told.well told.middle after.errors (Rose told.at_middle after.error_faults)).
    record {
      message = concat warnings ++ no_memory_text;
      tells =
          tells_message (concat warnings) no_memory_text before.errors told.middle after.errors before.error_faults told.at_middle after.error_faults told.well told.later told.on told.warned
          lacking.1;
      ends = subst (λ (s : Status). EndsRun asked here (work_of before) (work_of after) s (concat warnings ++ no_memory_text)) (sym lacking.0) untold;
    })
    told.reports

-- a course has one way
same_other : (asked : Option Asked) (here : Given) (warnings : List (List ℕ)) (way : Way) → HasWay asked here warnings way → HasOther asked here → BeginsOtherwise (Some here.files) way
same_other asked here warnings way has other =
    let same : other.course ≡ has.course = one_course asked here other.course has.course other.is has.is in
    subst (BeginsOtherwise (Some here.files)) (ap (λ (c : Course). c.way) same ∙ has.way_is) other.other

-- a run that was stopped before a capture that begins as no savefile does was cut short
stop_cut : {A : Type 0} (view : A → Way) (asked : Option Asked) (here : Given) (before after : Outside) (ended : Status)
    (host : Option Files) (why : RunStop) (warnings : List (List ℕ)) (text : List ℕ)
    → HasCause (Rose before.host_faults after.host_faults) host why
    → Prepares view asked here (Rose before.host_faults after.host_faults) (Err why) warnings
    → IsTold warnings text (Err why) before after ended
    → HasOther asked here
    → MayBeCut before after ended
stop_cut view asked here before after ended host stop.Usage warnings text cause has told other = absurd (same_other asked here warnings _ has other)
stop_cut view asked here before after ended host stop.Version warnings text cause has told other = absurd (same_other asked here warnings _ has other)
stop_cut view asked here before after ended host (stop.Accepted rules) warnings text cause has told other = absurd (same_other asked here warnings _ has other)
stop_cut view asked here before after ended host stop.CommandLine warnings text cause has told other = absurd (same_other asked here warnings _ has other)
stop_cut view asked here before after ended host (stop.Refused message) warnings text cause has told other = absurd (same_other asked here warnings _ has other)
stop_cut view asked here before after ended host (stop.BadUnified2 place) warnings text cause has told other = absurd (same_other asked here warnings _ has other)
stop_cut view asked here before after ended host (stop.CannotReadFile name) warnings text cause has told other =
    ⊎_elim
    (λ (way : HasWay asked here warnings (stops (stop.CannotReadFile name))). absurd (same_other asked here warnings (stops (stop.CannotReadFile name)) way other))
    (λ read. inl read.0)
    has
stop_cut view asked here before after ended host stop.NoMemory warnings text cause has told other = ⊎_elim (λ said. inr said.0) (λ lacking. inr lacking.0) told.reports
stop_cut view asked here before after ended host why warnings text cause has told other = absurd cause

-- what is known of a run that was stopped
pub record IsStopped {A : Type 0} (ways : Test → A → Way) (asked : Option Asked) (before after : Outside) (why : RunStop) (warnings : List (List ℕ)) : Type 0 where
  pub prepared : (files : Files) → before.files ≡ Some files → IsPrepared ways asked files (Rose before.host_faults after.host_faults) (refused_since before after) (Err why) warnings
  pub cause : HasCause (Rose before.host_faults after.host_faults) before.files why
  pub faulty_words : asked ≡ None → IsForFaultyWords {A = A} (Err why)
  pub fileless : IsFileless asked → StopsFileless {A = A} asked (Rose before.host_faults after.host_faults) (Err why) warnings
  pub unopened : IsUntouched (work_of before) (work_of after)
  pub quiet : ReadsQuietly {A = A} (Err why) before.host_faults after.host_faults
  pub quiet_alerts : after.alert_faults ≡ before.alert_faults
  pub same_files : after.files ≡ before.files
  pub counts : NoCountFell before after

pub stopped_run : {A : Type 0} (ways : Test → A → Way) (asked : Option Asked) (means : Means) (before after : Outside) (why : RunStop) (warnings : List (List ℕ)) (ended : Status)
    → (test : Test) × Tells means test
    → IsStopped ways asked before after why warnings → IsTold warnings (stop_text [] why) (Err why) before after ended → IsRun asked means before after ended
stopped_run {A} ways asked means before after why warnings ended decided run told = record {
  matches = decided.0;
  tells = decided.1;
  told = λ files is.
      let p = run.prepared files is in
      let here = given files decided.0 p.refused in
      let has = p.prepares decided.0 in (
        p.refused,
        (
          p.are_refused,
          ends_told asked here warnings (stop_text [] why) (Err why) before after ended told
              (stop_ends (ways decided.0) asked here (work_of before) (work_of after) warnings run.unopened before.files why run.cause has)
              (stop_untold (ways decided.0) asked here (work_of before) (work_of after) warnings run.unopened before.files why run.cause has),
          λ failed.
              stop_answered (ways decided.0) asked here (Rose before.host_faults after.host_faults) before.files why warnings run.cause has
              (by_outcome warnings (stop_text [] why) (Err why) before after ended status.HostFault told (λ e. cc) failed),
          inl (
            (let same = run.unopened.opens in omega (arith, same)),
            λ other. stop_cut (ways decided.0) asked here before after ended before.files why warnings (stop_text [] why) run.cause has told other,
          ),
        ),
      );
  untold = λ failed none.
      stop_untold_rose (Rose before.host_faults after.host_faults) before.files why run.cause
      (by_outcome warnings (stop_text [] why) (Err why) before after ended status.HostFault told (λ e. cc) failed) none;
  write_fault = λ failed.
      absurd (no_write_stop (Rose before.host_faults after.host_faults) before.files why run.cause
      (by_outcome warnings (stop_text [] why) (Err why) before after ended status.WriteFault told (λ e. cc) failed));
  quiet = quiet_run warnings (stop_text [] why) (Err why) before after ended told run.quiet (λ written. run.quiet_alerts);
  quiet_alerts = λ failed. run.quiet_alerts;
  faulty_words = λ none.
      ⊎_elim
      (λ said. ⊎_elim (λ refused. inl (said.0 ∙ refused)) (λ lacking. inr (said.0 ∙ lacking)) (faulty_status {A = A} (Err why) (run.faulty_words none)))
      (λ lacking. inr lacking.0) told.reports;
  opened_twice = let same = run.unopened.opens in omega (arith, same);
  made_unopened = λ for_made. (run.unopened.opens, run.unopened.left);
  fileless = λ so files.
      let here = given files decided.0 [] in
      let has = run.fileless so (ways decided.0) here in
      ends_told asked here warnings (stop_text [] why) (Err why) before after ended told
      (stop_ends (ways decided.0) asked here (work_of before) (work_of after) warnings run.unopened before.files why run.cause has)
      (stop_untold (ways decided.0) asked here (work_of before) (work_of after) warnings run.unopened before.files why run.cause has);
  same_files = run.same_files;
  counts = run.counts;
}

-- ---- a run that went on to its capture

-- one more is at most one more
one_more_most : (count : ℕ) → one_more count ≤ count + 1
one_more_most count = grind (arith, nat_tests)

-- a file is opened twice at most
so_most : (told : Option Files) (name : List ℕ) (failed : Type 0) (old new : ℕ) → OpensSo told name failed old new → new ≤ old + 2
so_most told name failed old new opens =
    let one = one_more_most old in
    let two = one_more_most (one_more old) in
    ⊎_elim (λ once. let is = once.0 in omega (arith, is, one)) (λ twice. let is = twice.0 in omega (arith, is, one, two)) opens

-- a capture is opened twice at most
pub opens_most : (told : Option Files) (way : Way) (failed : Type 0) (old new : ℕ) → OpensOn told way failed old new → new ≤ old + 2
opens_most told (Goes plan) failed old new opens = so_most told plan.source failed old new opens
opens_most told (Stops message ended) failed old new opens = omega (arith, opens)
opens_most told (Makes plan seed count) failed old new opens = omega (arith, opens)
opens_most told (Lists lines) failed old new opens = omega (arith, opens)

-- one that is made isn't opened
pub opens_made : (told : Option Files) (source : CaptureSource) (plan : Plan) (failed : Type 0) (old new : ℕ) → IsMade source → OpensOn told (way_from source plan) failed old new → new ≡ old
opens_made told (File name) plan failed old new made opens = absurd made
opens_made told (Made seed count) plan failed old new made opens = opens

-- how often a capture was opened that was shown, by its way
opens_by : (asked : Option Asked) (here : Given) (warnings : List (List ℕ)) (before after : Outside) (ended : Status) (failed : Type 0) (way : Way)
    → (failed → Rose before.host_faults after.host_faults) → HasWay asked here warnings way
    → OpensOn (Some here.files) way failed before.opens after.opens → OpensBy asked here before after ended
opens_by asked here warnings before after ended failed (Stops message status_then) rises has opens =
    inl (omega (arith, opens), λ other. absurd (same_other asked here warnings (Stops message status_then) has other))
opens_by asked here warnings before after ended failed (Makes plan seed count) rises has opens =
    inl (omega (arith, opens), λ other. absurd (same_other asked here warnings (Makes plan seed count) has other))
opens_by asked here warnings before after ended failed (Lists lines) rises has opens = inl (omega (arith, opens), λ other. absurd (same_other asked here warnings (Lists lines) has other))
opens_by asked here warnings before after ended failed (Goes plan) rises has opens =
    let most = one_more_most before.opens in
    ⊎_elim
    (λ (once : (after.opens ≡ one_more before.opens) × (IsToldOther (Some here.files) plan.source → failed)).
    inl ((let is = once.0 in omega (arith, is, most)), λ other. inl (rises (once.1 (same_other asked here warnings (Goes plan) has other)))))
    (λ (twice : (after.opens ≡ one_more (one_more before.opens)) × MayBeOther (Some here.files) plan.source).
    inr (twice.0, record { course = has.course; is = has.is; other = subst (BeginsOtherwise (Some here.files)) (sym has.way_is) twice.1 }))
    opens

-- what is known of a run that shown its capture
pub record IsShowing {A : Type 0} (ways : Test → A → Way) (asked : Option Asked) (means : Means) (before after : Outside) (ready : A) (text : List ℕ) (outcome : Result (Unit {0}) RunStop)
    (warnings : List (List ℕ)) :
    Type 0 where
  pub middle : Work
  pub prepared : (files : Files) → before.files ≡ Some files → IsPrepared ways asked files (Rose before.host_faults middle.host_faults) (refused_since before after) (Ok ready) warnings
  pub faulty_words : asked ≡ None → ⊥
  pub fileless : IsFileless asked → ⊥
  pub since : IsLater (work_of before) middle
  pub ends : (matches : Test) → Tells means matches → (files : Files) (course : Course) → before.files ≡ Some files → course.way ≡ ways matches ready
      → Ends files course middle (work_of after) (outcome_status outcome) (concat course.warnings ++ text)
  pub write_fault : outcome_status outcome ≡ status.WriteFault → Rose before.alert_faults after.alert_faults
  pub read_fault : (matches : Test) → outcome_status outcome ≡ status.HostFault → Rose middle.host_faults after.host_faults ⊎ LacksCapture before.files (ways matches ready)
  pub quiet : ReadsQuietly outcome before.host_faults after.host_faults
  pub quiet_alerts : WritesQuietly outcome before.alert_faults after.alert_faults
  pub opened : (matches : Test) → OpensOn before.files (ways matches ready) (Rose middle.host_faults after.host_faults) before.opens after.opens
  pub made_unopened : IsForMade asked → (after.opens ≡ before.opens) × (after.left ≡ before.left)
  pub same_files : after.files ≡ before.files
  pub counts : NoCountFell before after

-- the run on its course
showing_on : {A : Type 0} (ways : Test → A → Way) (asked : Option Asked) (means : Means) (before after : Outside) (ready : A) (text : List ℕ) (outcome : Result (Unit {0}) RunStop)
    (warnings : List (List ℕ)) (matches : Test) (files : Files) (here : Given)
    → here.files ≡ files → IsShowing ways asked means before after ready text outcome warnings → Tells means matches → before.files ≡ Some files → HasWay asked here warnings (ways matches ready)
    → (course : Course) × IsCourse asked here course × (course.warnings ≡ warnings) × (course.way ≡ ways matches ready) ×
    Ends files course (work_of before) (work_of after) (outcome_status outcome) (concat warnings ++ text)
showing_on ways asked means before after ready text outcome warnings matches files here over run tells is has = (
  has.course,
  has.is,
  has.warnings_are,
  has.way_is,
  subst (λ (w : List (List ℕ)). Ends files has.course (work_of before) (work_of after) (outcome_status outcome) (concat w ++ text)) has.warnings_are
      (ends_since files has.course (work_of before) run.middle (work_of after) (outcome_status outcome) (concat has.course.warnings ++ text) run.since
      (run.ends matches tells files has.course is has.way_is)),
)

-- the answer of a capture that is lacking
lacking_capture : (asked : Option Asked) (here : Given) (way : Way) (warnings : List (List ℕ)) → HasWay asked here warnings way → LacksCapture (Some here.files) way
    → HasAnswer asked here status.HostFault
unfolding capture_answer
lacking_capture asked here (Stops message ended) warnings has lacks = absurd lacks
lacking_capture asked here (Makes plan seed count) warnings has lacks = absurd lacks
lacking_capture asked here (Lists lines) warnings has lacks = absurd lacks
lacking_capture asked here (Goes plan) warnings has lacks = record {
  course = has.course;
  is = has.is;
  status = sym (ap (λ (way : Way). (way_answer here.files (concat has.course.warnings) way).status) has.way_is
      ∙ ap (λ (held : Option (List ℕ)). (capture_answer plan (concat has.course.warnings) held).status) lacks);
}

-- files that aren't told lack no capture
none_lacking : (way : Way) → LacksCapture None way → ⊥
none_lacking (Stops message ended) lacks = lacks
none_lacking (Makes plan seed count) lacks = lacks
none_lacking (Lists lines) lacks = lacks
none_lacking (Goes plan) lacks = lacks

pub shown_run : {A : Type 0} (ways : Test → A → Way) (asked : Option Asked) (means : Means) (before after : Outside) (ready : A) (text : List ℕ) (outcome : Result (Unit {0}) RunStop)
    (warnings : List (List ℕ)) (ended : Status)
    → (test : Test) × Tells means test
    → IsShowing ways asked means before after ready text outcome warnings → IsTold warnings text outcome before after ended → IsRun asked means before after ended
shown_run ways asked means before after ready text outcome warnings ended decided run told = record {
  matches = decided.0;
  tells = decided.1;
  told = λ files is.
      let p = run.prepared files is in
      let here = given files decided.0 p.refused in
      let has = p.prepares decided.0 in
      let on = showing_on ways asked means before after ready text outcome warnings decided.0 files here refl run decided.1 is has in
      let on_untold : Ends files on.0 (work_of before) (work_of after) status.NoMemory (concat warnings ++ no_memory_text) =
      subst (λ (w : List (List ℕ)). Ends files on.0 (work_of before) (work_of after) status.NoMemory (concat w ++ no_memory_text)) on.2
      (ends_untold files on.0 (work_of before) (work_of after) (outcome_status outcome) (concat warnings ++ text) on.4) in (
        p.refused,
        (
          p.are_refused,
          ends_told asked here warnings text outcome before after ended told
              (inl (record { course = on.0; is = on.1; ends = on.4 }))
              (inl (record { course = on.0; is = on.1; ends = on_untold })),
          λ failed. ⊎_elim
              (λ (rose : Rose run.middle.host_faults after.host_faults). inl (rose_since before.host_faults run.middle.host_faults after.host_faults run.since.later rose))
              (λ (lacks : LacksCapture before.files (ways decided.0 ready)).
              inr (lacking_capture asked here (ways decided.0 ready) warnings has (subst (λ (t : Option Files). LacksCapture t (ways decided.0 ready)) is lacks)))
              (run.read_fault decided.0 (by_outcome warnings text outcome before after ended status.HostFault told (λ e. cc) failed)),
          opens_by asked here warnings before after ended (Rose run.middle.host_faults after.host_faults) (ways decided.0 ready)
              (rose_since before.host_faults run.middle.host_faults after.host_faults run.since.later) has
              (subst (λ (t : Option Files). OpensOn t (ways decided.0 ready) (Rose run.middle.host_faults after.host_faults) before.opens after.opens) is (run.opened decided.0)),
        ),
      );
  untold = λ failed none. ⊎_elim
      (λ (rose : Rose run.middle.host_faults after.host_faults). rose_since before.host_faults run.middle.host_faults after.host_faults run.since.later rose)
      (λ (lacks : LacksCapture before.files (ways decided.0 ready)). absurd (none_lacking (ways decided.0 ready) (subst (λ (t : Option Files). LacksCapture t (ways decided.0 ready)) none lacks)))
      (run.read_fault decided.0 (by_outcome warnings text outcome before after ended status.HostFault told (λ e. cc) failed));
  write_fault = λ failed. run.write_fault (by_outcome warnings text outcome before after ended status.WriteFault told (λ e. cc) failed);
  quiet = quiet_run warnings text outcome before after ended told run.quiet run.quiet_alerts;
  quiet_alerts = quiet_alerts_run warnings text outcome before after ended told run.quiet_alerts;
  faulty_words = λ none. absurd (run.faulty_words none);
  fileless = λ so. absurd (run.fileless so);
  opened_twice = opens_most before.files (ways decided.0 ready) (Rose run.middle.host_faults after.host_faults) before.opens after.opens (run.opened decided.0);
  made_unopened = run.made_unopened;
  same_files = run.same_files;
  counts = run.counts;
}
