-- The theorem on a run, from the words, the files and the capture to the alert bytes, the error bytes
-- and the status.
--
-- Where no memory was refused and no count of faults rose, a run ends as its answer (`Answer`) says;
-- after a fault of reading or writing the alert bytes are a beginning of the answer's. Each part below
-- speaks of the status with which a run ends, of what was seen of the outside before and of what is
-- seen afterwards. A part about bytes claims nothing of a host that tells no files; the causes and
-- counts hold whatever is told.
-- To try it on: where the alert sink fails at its second write, the alert bytes are a beginning of the
-- answer's, and the message is `ERROR: cannot write`.
use Rattle.std.specs.Prelude.{◌≡◌, ℕ, ◌+◌, ◌≤◌, List, Option, Some, None, ◌⊎◌, length, drop, []}
use Rattle.edge_io.specs.Told.{one_more, Rose}
use Rattle.edge_io.specs.Files.{Files}
use Rattle.edge_io.specs.declared.pattern.Refusal.{Refusal}
use Rattle.option_eval.specs.Places.{Means}
use Rattle.command_words.specs.CommandLine.{Asked, command_line}
use Rattle.rule_eval.specs.Hits.{Test, Tells}
use Rattle.snort_engine.specs.declared.status.Status.{Status}
use Rattle.snort_engine.specs.declared.status.Status.TheVariants as status
use Rattle.snort_engine.specs.Course.{Course, Given, given, IsCourse, IsFileless, IsForMade, HasOneCourse, AreRefused}
use Rattle.snort_engine.specs.Records.{MadeIsWhole}
use Rattle.snort_engine.specs.Records.{BeginsOtherwise}
use Rattle.snort_engine.specs.Lines.{LinesJoin, PrefixLaw}
use Rattle.snort_engine.specs.Answer.{answer_of}
use Rattle.snort_engine.specs.Outside.{Outside, work_of, NoFault, NoCountFell}
use Rattle.snort_engine.specs.Outside.{TellsMessage}
use Rattle.snort_engine.specs.Ending.{EndsRun, IsUncut}

-- something holds of the files, where they are told
abbrev pub OfTold : Option Files → (Files → Type 0) → Type 0
OfTold told Holds = (files : Files) → told ≡ Some files → Holds files

-- what the maker refused in this run
abbrev pub refused_since : Outside → Outside → List Refusal
refused_since before after = drop (length before.refusals) after.refusals

-- a run of these words ends in one of the ways of `EndsRun`, with one message in the errors
pub record EndsSo (asked : Option Asked) (given : Given) (before after : Outside) (ended : Status) : Type 0 where
  pub message : List ℕ
  pub tells : TellsMessage message before.errors after.errors (Rose before.error_faults after.error_faults)
  pub ends : EndsRun asked given (work_of before) (work_of after) ended message

-- the status is that of the answer of the words' course
pub record HasAnswer (asked : Option Asked) (given : Given) (ended : Status) : Type 0 where
  pub course : Course
  pub is : IsCourse asked given course
  pub status : ended ≡ (answer_of given.files course).status

-- files are told, and the answer is that one of those that are read is lacking
abbrev pub LacksOne : Option Files → (Files → Given) → Option Asked → Type 0
LacksOne told given_of asked = (files : Files) × (told ≡ Some files) × HasAnswer asked (given_of files) status.HostFault

-- the capture of the words' course begins as no savefile does
pub record HasOther (asked : Option Asked) (given : Given) : Type 0 where
  pub course : Course
  pub is : IsCourse asked given course
  pub other : BeginsOtherwise (Some given.files) course.way

-- a fault of the host, or want of memory, may have cut a run short
abbrev pub MayBeCut : Outside → Outside → Status → Type 0
MayBeCut before after ended = Rose before.host_faults after.host_faults ⊎ (ended ≡ status.NoMemory)

-- how often a capture was opened: at most once, and a second time exactly where it begins as no savefile
-- does, unless the run was cut short
abbrev pub OpensBy : Option Asked → Given → Outside → Outside → Status → Type 0
OpensBy asked given before after ended =
    ((after.opens ≤ before.opens + 1) × (HasOther asked given → MayBeCut before after ended))
    ⊎ ((after.opens ≡ one_more (one_more before.opens)) × HasOther asked given)

-- how often a capture was opened, where the files are told; whatever is told, at most twice
pub record IsOpenedOnce (asked : Option Asked) (given_of : Files → Given) (before after : Outside) (ended : Status) : Type 0 where
  pub at_most : after.opens ≤ before.opens + 2
  pub exactly : OfTold before.files (λ files. OpensBy asked (given_of files) before after ended)

-- a run with these words and a maker that means this, by what is seen before and after it, and the
-- status with which it ends
pub record Headline (words : List (List ℕ)) (means : Means) (before after : Outside) (ended : Status) : Type 0 where
  -- the test that says which rules match an item, by what the maker means
  pub matches : Test
  pub tells : Tells means matches
  -- the rule lines whose pattern the maker refused: one set for all parts
  pub refused : List ℕ
  pub refused_patterns : OfTold before.files (λ files. AreRefused (command_line words) files refused (refused_since before after))
  -- the parts: as stated, or what a read fault, a write fault or want of memory leaves
  pub ends : OfTold before.files (λ files. EndsSo (command_line words) (given files matches refused) before after ended)
  -- complete: where no count rose, the status is the answer's, unless memory is lacking
  pub complete : OfTold before.files (λ files. NoFault before after
      → HasAnswer (command_line words) (given files matches refused) ended ⊎ (ended ≡ status.NoMemory))
  -- the capture is opened at most once, and a second time exactly where it begins as no savefile does; one that is
  -- made isn't, and what the host has open stays as it is
  pub opened_once : IsOpenedOnce (command_line words) (λ files. given files matches refused) before after ended
  pub made_unopened : IsForMade (command_line words) → (after.opens ≡ before.opens) × (after.left ≡ before.left)
  -- causes: a fault is answered only where its count rose, or a file is lacking; faulty words are
  -- refused, whatever the host tells
  pub write_fault : ended ≡ status.WriteFault → Rose before.alert_faults after.alert_faults
  pub host_fault : ended ≡ status.HostFault
      → Rose before.host_faults after.host_faults
      ⊎ LacksOne before.files (λ files. given files matches refused) (command_line words)
  -- and the other way: a run that isn't cut short has met no fault of the host and none of the alert sink; one that
  -- the host's fault ended none of the alert sink
  pub quiet : IsUncut ended → (after.host_faults ≡ before.host_faults) × (after.alert_faults ≡ before.alert_faults)
  pub quiet_alerts : ended ≡ status.HostFault → after.alert_faults ≡ before.alert_faults
  pub faulty_words : command_line words ≡ None → (ended ≡ status.Refused) ⊎ (ended ≡ status.NoMemory)
  -- words that read no file end as they do over any files, whatever the host tells
  pub fileless : IsFileless (command_line words) → (files : Files)
      → EndsSo (command_line words) (given files matches []) before after ended
  -- the files stay, no count falls, and the maker means the same
  pub same_files : after.files ≡ before.files
  pub counts : NoCountFell before after
  -- the laws of courses, of captures that are made, and of the lines
  pub one_course : HasOneCourse
  pub made_is_whole : MadeIsWhole
  pub lines_join : LinesJoin
  pub prefix_law : PrefixLaw
