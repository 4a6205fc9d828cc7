-- How a run of a course ends, in parts: as stated, or cut short by a fault or by want of memory.
--
-- To try it on: where the alert sink fails at its second write, the alert bytes are a beginning of the
-- answer's, and the message is `ERROR: cannot write`.
use Rattle.std.specs.Prelude.{◌≡◌, ℕ, List, [], ◌++◌, Option, Some, None, ⊤, ◌⊎◌}
use Rattle.std.specs.FinMap.{get}
use Rattle.std.specs.List.{concat}
use mathlib.Core.List.{IsPrefix}
use Rattle.edge_io.specs.Told.{grown, Rose}
use Rattle.edge_io.specs.Files.{Files}
use Rattle.snort_engine.specs.declared.status.Status.{Status}
use Rattle.snort_engine.specs.declared.status.Status.TheVariants as status
use Rattle.command_words.specs.CommandLine.{Asked}
use Rattle.snort_engine.specs.Course.{Plan, Goes, Course, Given, IsCourse, Reads}
use Rattle.snort_engine.specs.Records.{records_of}
use Rattle.snort_engine.specs.Trace.{Open}
use Rattle.snort_engine.specs.Lines.{lines}
use Rattle.snort_engine.specs.Answer.{Answer, answer_of}
use Rattle.snort_engine.specs.Outside.{Work}
use Rattle.snort_engine.specs.ReadAhead.{IsUntouched, ReadsAhead}
use Rattle.snort_engine.specs.Messages.{cannot_read_text, cannot_write_text, no_memory_text}

-- the statuses of a run that is not cut short; a host fault is one where the count of faults didn't
-- rise, since then a file is lacking
abbrev pub IsStated : Status → Type 0 → Type 0
IsStated status.Done rose = ⊤
IsStated status.Refused rose = ⊤
IsStated status.BadCapture rose = ⊤
IsStated status.HostFault rose = ¬ rose
IsStated status.WriteFault rose = ⊥
IsStated status.NoMemory rose = ⊥

-- a status that tells neither a fault of the outside nor want of memory
abbrev pub IsUncut : Status → Type 0
IsUncut ended = (ended ≡ status.Done) ⊎ (ended ≡ status.Refused) ⊎ (ended ≡ status.BadCapture)

-- the status, the alert bytes and the message are the answer's
pub record IsAnswered (answer : Answer) (ended : Status) (alerts message : List ℕ) : Type 0 where
  pub status : ended ≡ answer.status
  pub alerts_are : alerts ≡ answer.alerts
  pub message_is : message ≡ answer.errors

-- the bytes that were taken of a capture, by what is left of it; none where nothing is open
abbrev pub IsTakenOf : Option (List ℕ) → List ℕ → Option (List ℕ) → Type 0
IsTakenOf held taken None = taken ≡ []
IsTakenOf held taken (Some rest) = held ≡ Some (taken ++ rest)

-- the lines of the records that are whole within these first bytes of a capture
unfoldable pub lines_within : Plan → List ℕ → List ℕ
lines_within plan taken = lines plan [] (records_of plan taken).records Open

-- the plan's capture couldn't be read on: the lines are those of the records that are whole within
-- the bytes taken, and the message tells all warnings and its name
pub record IsCutShort (files : Files) (course : Course) (before after : Work) (message : List ℕ) : Type 0 where
  pub plan : Plan
  pub goes : course.way ≡ Goes plan
  pub taken : List ℕ
  pub of : IsTakenOf (get files plan.source) taken after.left
  pub wrote : after.alerts ≡ grown before.alerts (lines_within plan taken)
  pub says : message ≡ concat course.warnings ++ cannot_read_text plan.source

-- the message of want of memory: the first warnings, each whole, and that memory is lacking
abbrev pub IsNoMemoryMessage : Course → List ℕ → Type 0
IsNoMemoryMessage course message =
    (first : List (List ℕ)) × IsPrefix first course.warnings × (message ≡ concat first ++ no_memory_text)

-- how a run of this course over these files ends, with this status and message
pub record Ends (files : Files) (course : Course) (before after : Work) (ended : Status) (message : List ℕ) : Type 0 where
  -- however it ends, it has written a beginning of the answer's alert bytes, and no other byte
  pub alerts : List ℕ
  pub wrote : after.alerts ≡ grown before.alerts alerts
  pub leaves_a_prefix : IsPrefix alerts (answer_of files course).alerts
  pub ended_as_stated : IsStated ended (Rose before.host_faults after.host_faults)
      → IsAnswered (answer_of files course) ended alerts message
  -- a read fault is the answer's, since a file is lacking, or leaves the lines of the records that are
  -- whole within the bytes taken of the capture
  pub read_fault : ended ≡ status.HostFault
      → IsAnswered (answer_of files course) ended alerts message ⊎ IsCutShort files course before after message
  -- a write fault leaves a prefix, all warnings and that writing failed
  pub write_fault : ended ≡ status.WriteFault → message ≡ concat course.warnings ++ cannot_write_text
  -- want of memory leaves a prefix
  pub no_memory : ended ≡ status.NoMemory → IsNoMemoryMessage course message
  -- one batch of records at most was read ahead of the lines
  pub read_ahead : ReadsAhead files course before after ended

-- ---- before the course is known

-- a file that is read before the capture couldn't be read: the message tells the warnings before it and
-- its name
pub record IsUnread (asked : Option Asked) (given : Given) (message : List ℕ) : Type 0 where
  pub name : List ℕ
  pub warnings : List (List ℕ)
  pub is : Reads asked given name warnings
  pub says : message ≡ concat warnings ++ cannot_read_text name

-- memory was lacking: the message tells no warning, or those before one of the files that are read
pub record IsLacking (asked : Option Asked) (given : Given) (message : List ℕ) : Type 0 where
  pub warnings : List (List ℕ)
  pub before_one : (warnings ≡ []) ⊎ ((name : List ℕ) × Reads asked given name warnings)
  pub says : message ≡ concat warnings ++ no_memory_text

-- why a run ends before its course is known: the host failed at a file, or memory was lacking
abbrev pub IsEarly : Option Asked → Given → Work → Work → Status → List ℕ → Type 0
IsEarly asked given before after ended message =
    ((ended ≡ status.HostFault) × Rose before.host_faults after.host_faults × IsUnread asked given message)
    ⊎ ((ended ≡ status.NoMemory) × IsLacking asked given message)

-- a run that ends early has opened nothing and written no line
pub record EndsEarly (asked : Option Asked) (given : Given) (before after : Work) (ended : Status) (message : List ℕ) :
    Type 0 where
  pub unopened : IsUntouched before after
  pub why : IsEarly asked given before after ended message

-- a run of these words ends on its course
pub record EndsOnCourse (asked : Option Asked) (given : Given) (before after : Work) (ended : Status) (message : List ℕ) :
    Type 0 where
  pub course : Course
  pub is : IsCourse asked given course
  pub ends : Ends given.files course before after ended message

-- how a run of these words ends: on its course, or before it is known
abbrev pub EndsRun : Option Asked → Given → Work → Work → Status → List ℕ → Type 0
EndsRun asked given before after ended message =
    EndsOnCourse asked given before after ended message ⊎ EndsEarly asked given before after ended message
