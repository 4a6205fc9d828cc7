-- A run: files of Unified2 records, or of alert lines, become JSON lines.
--
-- The words name the files, and what all records have alike (`Asking`). The lines are those of the events of the files'
-- records, or of their alert lines (`event_line` of alert_json), file by file in their order, each event once. The year of
-- alert lines is given, or follows from the first record of a capture; where that isn't told, nothing is written. A run ends at
-- the first file that isn't records, or alert lines, up to its end, that can't be opened or read, or behind which a write fails
-- or memory is lacking: the files before are done, and of this one the lines of what is whole, or a beginning of the lines, are
-- written.
-- To try it on: of a file with two events, and one with an event and a packet of which a byte is lacking, the lines of three
-- events are written, and the status is 2.
use Rattle.std.specs.Prelude.{◌≡◌, ◌⊎◌, ⊤, ℕ, ◌^◌, ◌≤◌, length, List, [], ◌∷◌, ◌++◌, Option, Some, None, codes, decimal, Result, Ok, Err}
use Rattle.std.specs.Borrow.{Bor}
use Rattle.std.specs.FinMap.{get}
use Rattle.edge_io.specs.Files.{Files}
use Rattle.edge_io.specs.Told.{grown}
use Rattle.conf_types.specs.declared.classes.Class.{Class}
use Rattle.rule_types.specs.declared.rule.Rule.{Rule}
use Rattle.snort_setup.specs.Words.{Words}
use Rattle.snort_setup.specs.Setup.{Ready}
use Rattle.alert_json.specs.Facts.{RunFacts}
use Rattle.alert_json.specs.Value.{event_line}
use Rattle.snort_eve.specs.Joins.{Joined}
use Rattle.snort_eve.specs.Events.{event_of}
use Rattle.snort_eve.specs.Asking.{Asked, Since, Wanted, help, in_year, lines, of_capture}
use Rattle.snort_eve.specs.Texts.{Texts, AreTexts}
use Rattle.snort_eve.specs.Confs.{IsReady, IsRefusedBy, IsUnreadBy}
use Rattle.edge_io.specs.declared.moment.Moment.{Moment}
use Rattle.alert_json.specs.declared.line_year.YearFrom.{YearFrom}
use Rattle.alert_json.specs.declared.line_year.YearFrom.TheVariants.{Given}
use Rattle.snort_eve.specs.Captures.{IsFirst, after_moment}
use Rattle.snort_eve.specs.declared.capture.CaptureStop.{CaptureStop}
use Rattle.snort_eve.specs.declared.capture.CaptureStop.TheVariants as capture_stop
use Rattle.pcapng_input.specs.declared.fault.ReadFault.TheVariants as fault
use Rattle.pcapng_input.specs.Faults.{bad_capture_text}
use Rattle.snort_eve.specs.Forms.{Meaning}
use Rattle.snort_eve.specs.Endings.{of_records}
use Rattle.snort_eve.specs.LineForms.{of_lines}
use Rattle.snort_eve.specs.declared.outcome.Outcome.{Outcome}
use Rattle.snort_eve.specs.declared.outcome.Outcome.TheVariants as outcome
use Rattle.snort_eve.specs.declared.form.Ending.{Ending}
use Rattle.snort_eve.specs.declared.form.Ending.TheVariants.{Done, Bad, NoLine}
use Rattle.snort_eve.specs.declared.copy.CopyStop.{CopyStop}
use Rattle.snort_eve.specs.declared.copy.CopyStop.TheVariants.{Unread, Unwritten, TooLong, NoMemory}

-- the line of an event with its packet, by these texts and in a run that asks for this
abbrev pub line_of : Texts → RunFacts → Joined → List ℕ
line_of texts run it = event_line (event_of texts it) run

-- ---- a file

-- the file has this name, and its bytes are so
pub record HasBytes (name : List ℕ) (files : Files) (Holds : List ℕ → Type 0) : Type 0 where
  pub bytes : List ℕ
  pub has : get files name ≡ Some bytes
  pub holds : Holds bytes

-- a beginning of the file's lines
abbrev pub IsCut : Meaning → Files → List ℕ → List ℕ → Type 0
IsCut means files name wrote = (bytes : List ℕ) → get files name ≡ Some bytes → means.begins bytes wrote

-- where there is such a file, it has more bytes than can be counted
abbrev pub IsTooLong : List ℕ → Files → Type 0
IsTooLong name files = (bytes : List ℕ) → get files name ≡ Some bytes → 2 ^ 64 ≤ length bytes

-- what was written of a file, by how its copying ended
abbrev pub IsFileRun : Meaning → Files → List ℕ → List ℕ → Outcome → Type 0
IsFileRun means files name wrote outcome.Done = HasBytes name files (λ bytes. means.ends bytes wrote Done)
IsFileRun means files name wrote outcome.Help = ⊥
IsFileRun means files name wrote outcome.CommandLine = ⊥
IsFileRun means files name wrote (outcome.Refused message) = ⊥
IsFileRun means files name wrote (outcome.NoConf told) = ⊥
IsFileRun means files name wrote (outcome.Bad told at) =
    (told.now ≡ name) × HasBytes name files (λ bytes. means.ends bytes wrote (Bad at))
IsFileRun means files name wrote (outcome.NoLine told number) =
    (told.now ≡ name) × HasBytes name files (λ bytes. means.ends bytes wrote (NoLine number))
IsFileRun means files name wrote outcome.NoRecord = ⊥
IsFileRun means files name wrote (outcome.BadCapture why) = ⊥
IsFileRun means files name wrote (outcome.Unread told) = (told.now ≡ name) × IsCut means files name wrote
IsFileRun means files name wrote outcome.Unwritten = IsCut means files name wrote
IsFileRun means files name wrote (outcome.TooLong told) =
    (told.now ≡ name) × (IsCut means files name wrote × IsTooLong name files)
IsFileRun means files name wrote outcome.NoMemory = IsCut means files name wrote

-- ---- files

-- files that are of their form up to their ends, one after another
abbrev pub AreDone : Meaning → Files → List (List ℕ) → List ℕ → Type 0
AreDone means files [] wrote = wrote ≡ []
AreDone means files (name ∷ names) wrote =
    (first : List ℕ) × (later : List ℕ) × (wrote ≡ first ++ later)
    × IsFileRun means files name first outcome.Done × AreDone means files names later

-- how a run ends that has no file left
abbrev pub IsAtEnd : Outcome → Type 0
IsAtEnd outcome.Done = ⊤
IsAtEnd outcome.NoMemory = ⊤
IsAtEnd other = ⊥

-- where these files are left, the run ended at the first one
abbrev pub EndsAt : Meaning → Files → List (List ℕ) → List ℕ → Outcome → Type 0
EndsAt means files [] wrote ended = (wrote ≡ []) × IsAtEnd ended
EndsAt means files (name ∷ names) wrote ended = (ended ≡ outcome.Done → ⊥) × IsFileRun means files name wrote ended

-- the first files are done, and the run ended at those that are left
pub record AreRun (means : Meaning) (files : Files) (names : List (List ℕ)) (wrote : List ℕ) (ended : Outcome) :
    Type 0 where
  pub done : List (List ℕ)
  pub left : List (List ℕ)
  pub names_are : names ≡ done ++ left
  pub before : List ℕ
  pub now : List ℕ
  pub split : wrote ≡ before ++ now
  pub are : AreDone means files done before
  pub last : EndsAt means files left now ended

-- ---- a run

-- how it ends where words are refused, or ask for the usage
abbrev pub IsRefused : Outcome → Type 0
IsRefused outcome.CommandLine = ⊤
IsRefused outcome.NoMemory = ⊤
IsRefused other = ⊥

abbrev pub IsHelp : Outcome → Type 0
IsHelp outcome.Help = ⊤
IsHelp outcome.NoMemory = ⊤
IsHelp other = ⊥

-- files were copied by the texts of these rules and classes
pub record CopiedBy (rules : List Rule) (classes : List Class) (wanted : Wanted) (files : Files) (wrote : List ℕ)
    (ended : Outcome) : Type 0 where
  pub texts : Texts
  pub are : AreTexts texts rules classes
  pub run : AreRun (of_records (line_of texts wanted.run)) files wanted.files wrote ended

-- how a run ends whose configuration isn't ready
abbrev pub IsHalted : Words → Files → Outcome → Type 0
IsHalted words files (outcome.Refused message) = IsRefusedBy words files message
IsHalted words files (outcome.NoConf name) = IsUnreadBy words files name
IsHalted words files outcome.NoMemory = ⊤
IsHalted words files other = ⊥

-- files were copied by the texts of a configuration that is ready
pub record CopiedByReady (words : Words) (wanted : Wanted) (files : Files) (wrote : List ℕ) (ended : Outcome) : Type 0 where
  pub ready : Ready
  pub is : IsReady words files ready
  pub copied : CopiedBy ready.rules ready.config.classes wanted files wrote ended

-- files were copied without texts, or by those of a configuration; or that isn't ready, and nothing was written
abbrev pub IsLinesRun : Option Words → Wanted → Files → List ℕ → Outcome → Type 0
IsLinesRun None wanted files wrote ended = CopiedBy [] [] wanted files wrote ended
IsLinesRun (Some words) wanted files wrote ended =
    ((wrote ≡ []) × IsHalted words files ended) ⊎ CopiedByReady words wanted files wrote ended

-- files of alert lines were copied, and the year of each one's first line follows from this
abbrev pub AreLinesRun : YearFrom → Wanted → Files → List ℕ → Outcome → Type 0
AreLinesRun from wanted files wrote ended = AreRun (of_lines wanted.run from) files wanted.files wrote ended

-- how a run ends whose capture doesn't tell its first record
abbrev pub IsUndated : List ℕ → Files → Outcome → Type 0
IsUndated name files outcome.NoRecord = IsFirst files name (Err capture_stop.Empty)
IsUndated name files (outcome.BadCapture why) = IsFirst files name (Err (capture_stop.Fault (fault.Bad why)))
IsUndated name files (outcome.Unread told) = told.now ≡ name
IsUndated name files outcome.NoMemory = ⊤
IsUndated name files other = ⊥

-- or the first line of each file comes after the date of its first record
pub record IsRunAfter (name : List ℕ) (wanted : Wanted) (files : Files) (wrote : List ℕ) (ended : Outcome) : Type 0 where
  pub moment : Moment
  pub first : IsFirst files name (Ok moment)
  pub run : AreLinesRun (after_moment moment.nanos) wanted files wrote ended

-- files of records were copied; or of alert lines, each of which begins in this year, or after this capture
abbrev pub IsInputRun : Option Since → Wanted → Files → List ℕ → Outcome → Type 0
IsInputRun None wanted files wrote ended = IsLinesRun wanted.conf wanted files wrote ended
IsInputRun (Some (in_year year)) wanted files wrote ended = AreLinesRun (Given year) wanted files wrote ended
IsInputRun (Some (of_capture name)) wanted files wrote ended =
    ((wrote ≡ []) × IsUndated name files ended) ⊎ IsRunAfter name wanted files wrote ended

-- what a run has written at its end, by what its words ask for
abbrev pub IsRun : Option Asked → Files → List ℕ → Outcome → Type 0
IsRun None files wrote ended = (wrote ≡ []) × IsRefused ended
IsRun (Some help) files wrote ended = (wrote ≡ []) × IsHelp ended
IsRun (Some (lines wanted)) files wrote ended = IsInputRun wanted.since wanted files wrote ended

-- what was written between two states of a sink, by all files that agree
pub record Writes (agrees : Files → Type 0) (old new : Option (List ℕ)) (Holds : Files → List ℕ → Type 0) : Type 0 where
  pub wrote : List ℕ
  pub told : new ≡ grown old wrote
  pub holds : (files : Files) → agrees files → Holds files wrote

-- a run, by all files that agree with what the host answered
abbrev pub Runs : Option Asked → (Files → Type 0) → Option (List ℕ) → Option (List ℕ) → Outcome → Type 0
Runs asked agrees old new ended = Writes agrees old new (λ files wrote. IsRun asked files wrote ended)

-- how a file ends whose copying ended so
abbrev pub outcome_of : Bor (List ℕ) → Result Ending CopyStop → Outcome
outcome_of name (Ok Done) = outcome.Done
outcome_of name (Ok (Bad at)) = outcome.Bad name at
outcome_of name (Ok (NoLine number)) = outcome.NoLine name number
outcome_of name (Err Unread) = outcome.Unread name
outcome_of name (Err Unwritten) = outcome.Unwritten
outcome_of name (Err TooLong) = outcome.TooLong name
outcome_of name (Err NoMemory) = outcome.NoMemory

-- how a run ends whose capture, of this name, doesn't tell its first record
abbrev pub undated : Bor (List ℕ) → CaptureStop → Outcome
undated name capture_stop.Empty = outcome.NoRecord
undated name (capture_stop.Fault (fault.Bad why)) = outcome.BadCapture why
undated name (capture_stop.Fault fault.Failed) = outcome.Unread name
undated name (capture_stop.Fault fault.NoMemory) = outcome.NoMemory

-- a file wasn't opened or read, and this holds of its name; else nothing is said
abbrev pub OnUnread : Outcome → (List ℕ → Type 0) → Type 0
OnUnread (outcome.NoConf name) Holds = Holds name
OnUnread (outcome.Unread name) Holds = Holds name.now
OnUnread other Holds = ⊤

-- this holds, unless a file wasn't opened or read
abbrev pub UnlessUnread : Outcome → Type 0 → Type 0
UnlessUnread (outcome.NoConf name) Holds = ⊤
UnlessUnread (outcome.Unread name) Holds = ⊤
UnlessUnread other Holds = Holds

-- the same, unless memory is lacking: that may come after a fault, while a configuration is read
abbrev pub UnlessShort : Outcome → Type 0 → Type 0
UnlessShort outcome.NoMemory Holds = ⊤
UnlessShort other Holds = UnlessUnread other Holds

-- the same of a run: it is so of one that names a configuration
abbrev pub IfNone : Option Words → Type 0 → Type 0
IfNone None Holds = Holds
IfNone (Some words) Holds = ⊤

abbrev pub WithoutConf : Option Asked → Type 0 → Type 0
WithoutConf None Holds = Holds
WithoutConf (Some help) Holds = Holds
WithoutConf (Some (lines wanted)) Holds = IfNone wanted.conf Holds

abbrev pub UnlessFault : Option Asked → Outcome → Type 0 → Type 0
UnlessFault asked outcome.NoMemory Holds = WithoutConf asked Holds
UnlessFault asked other Holds = UnlessUnread other Holds

-- no whole record begins at this byte of this file
abbrev pub bad_front : List ℕ → List ℕ
bad_front name = codes "ERROR: unified2 file " ++ name ++ codes " is bad at byte "

abbrev pub place_text : ℕ → List ℕ
place_text at = decimal at ++ codes "\n"

abbrev pub bad_text : List ℕ → ℕ → List ℕ
bad_text name at = bad_front name ++ place_text at

-- the line of this number of this file gives no record
abbrev pub no_line_text : List ℕ → ℕ → List ℕ
no_line_text name number = codes "ERROR: " ++ name ++ codes "(" ++ decimal number ++ codes ") no alert line\n"

-- the message of a run
unfoldable pub message_text : Outcome → List ℕ
message_text outcome.Done = []
message_text outcome.Help =
    codes "usage: snort_eve [-c CONF] [-S NAME=VALUE] [--year N|--capture FILE] [--lines|--unified2] "
    ++ codes "[--host NAME] [--pcap-filename NAME] [--community-id-seed N] [FILE..]\n"
message_text outcome.CommandLine = codes "ERROR: command line\n"
message_text (outcome.Refused message) = message
message_text (outcome.NoConf name) = codes "ERROR: cannot read " ++ name ++ codes "\n"
message_text (outcome.Bad name at) = bad_text name.now at
message_text (outcome.NoLine name number) = no_line_text name.now number
message_text outcome.NoRecord = codes "ERROR: capture has no record\n"
message_text (outcome.BadCapture why) = bad_capture_text why
message_text (outcome.Unread name) = codes "ERROR: cannot read " ++ name.now ++ codes "\n"
message_text outcome.Unwritten = codes "ERROR: cannot write\n"
message_text (outcome.TooLong name) = codes "ERROR: unified2 file " ++ name.now ++ codes " is too long\n"
message_text outcome.NoMemory = codes "ERROR: no memory\n"
