-- A run by the texts of a configuration, or by none, or after a capture.
use Rattle.std.proofs.Common.{◌≡◌, ℕ, inl, inr, List, [], ◌∷◌, Option, None, Some, refl, sym, subst, arith}
use Rattle.std.specs.Prelude.{◌⊎◌, IfErr, IsErrOf, Result, Ok, Err}
use Rattle.std.specs.Borrow.{Bor}
use Rattle.edge_io.specs.Files.{Files, Lacks}
use Rattle.edge_io.proofs.Told.{grown-nil}
use Rattle.conf_parser.specs.Reading.{Ended, Whole, Refused as RefusedAt, Asks, told}
use Rattle.snort_setup.specs.declared.stop.SetupStop.{SetupStop}
use Rattle.snort_setup.specs.declared.stop.SetupStop.TheVariants as stop
use Rattle.snort_setup.specs.Answers.{AreRefusedBy, HasCause, OnReadyOrRefused, SetsUp}
use Rattle.snort_setup.specs.Setup.{Ready, IsReading, IsSetup, warned, conf_read, Lacks as LacksName, Refused}
use Rattle.snort_setup.specs.Words.{Words}
use Rattle.snort_eve.specs.declared.outcome.Outcome.{Outcome}
use Rattle.snort_eve.specs.declared.outcome.Outcome.TheVariants as outcome
use Rattle.snort_eve.specs.declared.texts.Texts.{Texts as Kept}
use Rattle.snort_eve.specs.Endings.{of_records}
use Rattle.edge_io.specs.declared.moment.Moment.{Moment}
use Rattle.alert_json.specs.declared.line_year.YearFrom.{YearFrom}
use Rattle.snort_eve.specs.Asking.{Since, Wanted, lines, of_capture}
use Rattle.snort_eve.specs.Captures.{GivesFirst, after_moment}
use Rattle.pcapng_input.specs.declared.fault.ReadFault.TheVariants as read_fault
use Rattle.snort_eve.specs.declared.capture.CaptureStop.{CaptureStop}
use Rattle.snort_eve.specs.declared.capture.CaptureStop.TheVariants as capture_stop
use Rattle.snort_eve.specs.Confs.{AreReadyTexts, Given, GivenTexts, GiveTexts, halted}
use Rattle.snort_eve.specs.Runs.{AreLinesRun, AreRun, IsInputRun, IsLinesRun, IfNone, OnUnread, UnlessFault, UnlessShort, UnlessUnread, Writes, line_of, undated}
use Rattle.snort_eve.specs.Texts.{AreTexts, Texts, texts_of}

-- ---- what a setup gives

none-refused : (words : Words) (ended : Ended) (refused : List ℕ) → AreRefusedBy words ended refused [] → refused ≡ []
none-refused words (Whole read) [] are = refl
none-refused words (Whole read) (place ∷ places) are = absurd (omega (arith, are.few))
none-refused words (RefusedAt fault output) refused are = are
none-refused words (Asks name output) refused are = are

without : {A B : Type 0} (rose : Type 0) → A ⊎ (rose × B) → A ⊎ B
without rose (inl a) = inl a
without rose (inr b) = inr b.1

-- where a maker refuses nothing
pub setup-given : {A : Type 0} (view : A → Ready) (words : Words) (files : Files) (rose : Type 0) (answer : Result A SetupStop) (warnings : List (List ℕ))
    → SetsUp view words files rose [] answer warnings → Given view words files answer
setup-given view words files rose (Ok x) warnings up = record {
  warnings = warnings;
  setup = subst (λ (r : List ℕ). IsSetup words files r (warned warnings (Ok (view x)))) (none-refused words (conf_read words (told files)) up.refused up.are_refused) up.gives;
}
setup-given view words files rose (Err (stop.Refused message)) warnings up = record {
  warnings = warnings;
  setup = subst (λ (r : List ℕ). IsSetup words files r (warned warnings (Err (Refused message)))) (none-refused words (conf_read words (told files)) up.refused up.are_refused) up.gives;
}
setup-given view words files rose (Err (stop.CannotRead name)) warnings up = record {
  warnings = warnings;
  asks =
      without rose
      (subst (λ (r : List ℕ). IsSetup words files r (warned warnings (Err (LacksName name))) ⊎
      (rose × IsReading words files r name warnings))
      (none-refused words (conf_read words (told files)) up.refused up.are_refused)
      up.gives);
}
setup-given view words files rose (Err stop.NoMemory) warnings up = tt

-- texts are made of what it gave
pub texts-given : (words : Words) (files : Files) (ready : Ready) (answer : Result Kept SetupStop)
    → Given (λ (r : Ready). r) words files (Ok ready)
    → GiveTexts ready answer
    → GivenTexts words files answer
texts-given words files ready (Ok texts) given are = record { ready = ready; is = given; are = are }
texts-given words files ready (Err (stop.Refused message)) given are = absurd are
texts-given words files ready (Err (stop.CannotRead name)) given are = absurd are
texts-given words files ready (Err stop.NoMemory) given are = tt

-- no file is unread then, and a count stays, unless memory is lacking
pub texts-cause : (rose : Type 0) (contents : Option Files) (ready : Ready) (answer : Result Kept SetupStop) → GiveTexts ready answer → IfErr answer (HasCause rose contents)
texts-cause rose contents ready (Ok texts) are = tt
texts-cause rose contents ready (Err (stop.Refused message)) are = tt
texts-cause rose contents ready (Err (stop.CannotRead name)) are = absurd are
texts-cause rose contents ready (Err stop.NoMemory) are = tt

pub texts-quiet : (P : Type 0) (ready : Ready) (answer : Result Kept SetupStop) → P → GiveTexts ready answer → OnReadyOrRefused P answer
texts-quiet P ready (Ok texts) holds are = holds
texts-quiet P ready (Err (stop.Refused message)) holds are = absurd are
texts-quiet P ready (Err (stop.CannotRead name)) holds are = absurd are
texts-quiet P ready (Err stop.NoMemory) holds are = tt

pub given-as : (words : Words) (files : Files) (stop : SetupStop) → Given (λ (r : Ready). r) words files (Err stop) → GivenTexts words files (Err stop)
given-as words files (stop.Refused message) given = given
given-as words files (stop.CannotRead name) given = given
given-as words files stop.NoMemory given = tt

pub quiet-as : (P : Type 0) (stop : SetupStop) → OnReadyOrRefused {A = Ready} P (Err stop) → OnReadyOrRefused {A = Kept} P (Err stop)
quiet-as P (stop.Refused message) holds = holds
quiet-as P (stop.CannotRead name) holds = tt
quiet-as P stop.NoMemory holds = tt

-- ---- runs

abbrev pub BareRuns : Texts → Wanted → (Files → Type 0) → Option (List ℕ) → Option (List ℕ) → Outcome → Type 0
BareRuns texts wanted agrees old new ended = Writes agrees old new (λ files wrote. AreRun (of_records (line_of texts wanted.run)) files wanted.files wrote ended)

abbrev pub LinesRun : Option Words → Wanted → (Files → Type 0) → Option (List ℕ) → Option (List ℕ) → Outcome → Type 0
LinesRun conf wanted agrees old new ended = Writes agrees old new (λ files wrote. IsLinesRun conf wanted files wrote ended)

abbrev pub InputRun : Option Since → Wanted → (Files → Type 0) → Option (List ℕ) → Option (List ℕ) → Outcome → Type 0
InputRun since wanted agrees old new ended = Writes agrees old new (λ files wrote. IsInputRun since wanted files wrote ended)

abbrev pub LinesFrom : YearFrom → Wanted → (Files → Type 0) → Option (List ℕ) → Option (List ℕ) → Outcome → Type 0
LinesFrom from wanted agrees old new ended = Writes agrees old new (λ files wrote. AreLinesRun from wanted files wrote ended)

pub run-bare : (texts : Texts) (wanted : Wanted) (agrees : Files → Type 0) (old new : Option (List ℕ)) (ended : Outcome)
    → AreTexts texts [] [] → BareRuns texts wanted agrees old new ended → LinesRun None wanted agrees old new ended
run-bare texts wanted agrees old new ended are writes =
    record { wrote = writes.wrote; told = writes.told; holds = λ files a. record { texts = texts; are = are; run = writes.holds files a } }

pub run-ready : (kept : Kept) (words : Words) (wanted : Wanted) (agrees now_agrees : Files → Type 0) (old new : Option (List ℕ)) (ended : Outcome)
    → ((files : Files) → agrees files → AreReadyTexts words files kept) → ((files : Files) → now_agrees files → agrees files)
    → BareRuns (texts_of kept) wanted now_agrees old new ended → LinesRun (Some words) wanted now_agrees old new ended
run-ready kept words wanted agrees now_agrees old new ended given earlier writes = record {
  wrote = writes.wrote;
  told = writes.told;
  holds = λ files a.
      let is = given files (earlier files a) in
      inr (record { ready = is.ready; is = is.is; copied = record { texts = texts_of kept; are = is.are; run = writes.holds files a } });
}

pub run-halted : (stop : SetupStop) (words : Words) (wanted : Wanted) (agrees : Files → Type 0) (old : Option (List ℕ))
    → ((files : Files) → agrees files → GivenTexts words files (Err stop)) → LinesRun (Some words) wanted agrees old old (halted stop)
run-halted (stop.Refused message) words wanted agrees old given = record { wrote = []; told = sym (grown-nil old); holds = λ files a. inl (refl, given files a) }
run-halted (stop.CannotRead name) words wanted agrees old given = record { wrote = []; told = sym (grown-nil old); holds = λ files a. inl (refl, given files a) }
run-halted stop.NoMemory words wanted agrees old given = record { wrote = []; told = sym (grown-nil old); holds = λ files a. inl (refl, tt) }

-- after a capture, and where that doesn't tell its first record
pub run-after : (name : List ℕ) (moment : Moment) (wanted : Wanted) (agrees now_agrees : Files → Type 0) (old new : Option (List ℕ)) (ended : Outcome)
    → ((files : Files) → agrees files → GivesFirst files name (Ok moment)) → ((files : Files) → now_agrees files → agrees files)
    → LinesFrom (after_moment moment.nanos) wanted now_agrees old new ended → InputRun (Some (of_capture name)) wanted now_agrees old new ended
run-after name moment wanted agrees now_agrees old new ended given earlier writes = record {
  wrote = writes.wrote;
  told = writes.told;
  holds = λ files a. inr (record { moment = moment; first = given files (earlier files a); run = writes.holds files a });
}

pub run-undated : (name : Bor (List ℕ)) (stop : CaptureStop) (wanted : Wanted) (agrees : Files → Type 0) (old : Option (List ℕ))
    → ((files : Files) → agrees files → GivesFirst files name.now (Err stop)) → InputRun (Some (of_capture name.now)) wanted agrees old old (undated name stop)
run-undated name capture_stop.Empty wanted agrees old given = record { wrote = []; told = sym (grown-nil old); holds = λ files a. inl (refl, given files a) }
run-undated name (capture_stop.Fault (read_fault.Bad why)) wanted agrees old given = record { wrote = []; told = sym (grown-nil old); holds = λ files a. inl (refl, given files a) }
run-undated name (capture_stop.Fault read_fault.Failed) wanted agrees old given = record { wrote = []; told = sym (grown-nil old); holds = λ files a. inl (refl, refl) }
run-undated name (capture_stop.Fault read_fault.NoMemory) wanted agrees old given = record { wrote = []; told = sym (grown-nil old); holds = λ files a. inl (refl, tt) }

-- ---- causes

-- the answer that tells it
abbrev stopped : CaptureStop → Result Moment CaptureStop
stopped stop = Err stop

pub undated-cause : (P : List ℕ → Type 0) (name : Bor (List ℕ)) (stop : CaptureStop) → (IsErrOf (stopped stop) (capture_stop.Fault read_fault.Failed) → P name.now) → OnUnread (undated name stop) P
undated-cause P name capture_stop.Empty cause = tt
undated-cause P name (capture_stop.Fault (read_fault.Bad why)) cause = tt
undated-cause P name (capture_stop.Fault read_fault.Failed) cause = cause refl
undated-cause P name (capture_stop.Fault read_fault.NoMemory) cause = tt

pub undated-quiet : (P : Type 0) (name : Bor (List ℕ)) (stop : CaptureStop) → ((IsErrOf (stopped stop) (capture_stop.Fault read_fault.Failed) → ⊥) → P) → UnlessUnread (undated name stop) P
undated-quiet P name capture_stop.Empty holds = holds (λ same. absurd cc)
undated-quiet P name (capture_stop.Fault (read_fault.Bad why)) holds = holds (λ same. absurd cc)
undated-quiet P name (capture_stop.Fault read_fault.Failed) holds = tt
undated-quiet P name (capture_stop.Fault read_fault.NoMemory) holds = holds (λ same. absurd cc)

pub undated-written : (name : Bor (List ℕ)) (stop : CaptureStop) → undated name stop ≡ outcome.Unwritten → ⊥
undated-written name capture_stop.Empty is = absurd cc
undated-written name (capture_stop.Fault (read_fault.Bad why)) is = absurd cc
undated-written name (capture_stop.Fault read_fault.Failed) is = absurd cc
undated-written name (capture_stop.Fault read_fault.NoMemory) is = absurd cc

pub halted-cause : (rose : Type 0) (contents : Option Files) (stop : SetupStop) → HasCause rose contents stop → OnUnread (halted stop) (λ name. rose ⊎ Lacks contents name)
halted-cause rose contents (stop.Refused message) cause = tt
halted-cause rose contents (stop.CannotRead name) cause = cause
halted-cause rose contents stop.NoMemory cause = tt

pub halted-quiet : (P : Type 0) (stop : SetupStop) → OnReadyOrRefused {A = Kept} P (Err stop) → UnlessShort (halted stop) P
halted-quiet P (stop.Refused message) holds = holds
halted-quiet P (stop.CannotRead name) holds = tt
halted-quiet P stop.NoMemory holds = tt

pub halted-written : (stop : SetupStop) → halted stop ≡ outcome.Unwritten → ⊥
halted-written (stop.Refused message) is = absurd cc
halted-written (stop.CannotRead name) is = absurd cc
halted-written stop.NoMemory is = absurd cc

pub short-weaker : (P Q : Type 0) (ended : Outcome) → (P → Q) → UnlessUnread ended P → UnlessShort ended Q
short-weaker P Q outcome.Done weaker holds = weaker holds
short-weaker P Q outcome.Help weaker holds = weaker holds
short-weaker P Q outcome.CommandLine weaker holds = weaker holds
short-weaker P Q (outcome.Refused message) weaker holds = weaker holds
short-weaker P Q (outcome.NoConf name) weaker holds = tt
short-weaker P Q (outcome.Bad name at) weaker holds = weaker holds
short-weaker P Q (outcome.NoLine name at) weaker holds = weaker holds
short-weaker P Q outcome.NoRecord weaker holds = weaker holds
short-weaker P Q (outcome.BadCapture why) weaker holds = weaker holds
short-weaker P Q (outcome.Unread name) weaker holds = tt
short-weaker P Q outcome.Unwritten weaker holds = weaker holds
short-weaker P Q (outcome.TooLong name) weaker holds = weaker holds
short-weaker P Q outcome.NoMemory weaker holds = tt

pub fault-bare : (P : Type 0) (wanted : Wanted) (ended : Outcome) → wanted.conf ≡ None → UnlessUnread ended P → UnlessFault (Some (lines wanted)) ended P
fault-bare P wanted outcome.Done none holds = holds
fault-bare P wanted outcome.Help none holds = holds
fault-bare P wanted outcome.CommandLine none holds = holds
fault-bare P wanted (outcome.Refused message) none holds = holds
fault-bare P wanted (outcome.NoConf name) none holds = tt
fault-bare P wanted (outcome.Bad name at) none holds = holds
fault-bare P wanted (outcome.NoLine name at) none holds = holds
fault-bare P wanted outcome.NoRecord none holds = holds
fault-bare P wanted (outcome.BadCapture why) none holds = holds
fault-bare P wanted (outcome.Unread name) none holds = tt
fault-bare P wanted outcome.Unwritten none holds = holds
fault-bare P wanted (outcome.TooLong name) none holds = holds
fault-bare P wanted outcome.NoMemory none holds = subst (λ (c : Option Words). IfNone c P) (sym none) holds

pub fault-conf : (P : Type 0) (wanted : Wanted) (words : Words) (ended : Outcome) → wanted.conf ≡ Some words → UnlessShort ended P → UnlessFault (Some (lines wanted)) ended P
fault-conf P wanted words outcome.Done some holds = holds
fault-conf P wanted words outcome.Help some holds = holds
fault-conf P wanted words outcome.CommandLine some holds = holds
fault-conf P wanted words (outcome.Refused message) some holds = holds
fault-conf P wanted words (outcome.NoConf name) some holds = tt
fault-conf P wanted words (outcome.Bad name at) some holds = holds
fault-conf P wanted words (outcome.NoLine name at) some holds = holds
fault-conf P wanted words outcome.NoRecord some holds = holds
fault-conf P wanted words (outcome.BadCapture why) some holds = holds
fault-conf P wanted words (outcome.Unread name) some holds = tt
fault-conf P wanted words outcome.Unwritten some holds = holds
fault-conf P wanted words (outcome.TooLong name) some holds = holds
fault-conf P wanted words outcome.NoMemory some holds = subst (λ (c : Option Words). IfNone c P) (sym some) tt

if-none : (P : Type 0) (conf : Option Words) → P → IfNone conf P
if-none P None holds = holds
if-none P (Some words) holds = tt

pub fault-any : (P : Type 0) (wanted : Wanted) (ended : Outcome) → UnlessUnread ended P → UnlessFault (Some (lines wanted)) ended P
fault-any P wanted outcome.Done holds = holds
fault-any P wanted outcome.Help holds = holds
fault-any P wanted outcome.CommandLine holds = holds
fault-any P wanted (outcome.Refused message) holds = holds
fault-any P wanted (outcome.NoConf name) holds = tt
fault-any P wanted (outcome.Bad name at) holds = holds
fault-any P wanted (outcome.NoLine name at) holds = holds
fault-any P wanted outcome.NoRecord holds = holds
fault-any P wanted (outcome.BadCapture why) holds = holds
fault-any P wanted (outcome.Unread name) holds = tt
fault-any P wanted outcome.Unwritten holds = holds
fault-any P wanted (outcome.TooLong name) holds = holds
fault-any P wanted outcome.NoMemory holds = if-none P wanted.conf holds
