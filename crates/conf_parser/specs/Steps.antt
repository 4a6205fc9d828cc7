-- One line of a reading: what goes on after it, and where its file is read from.
--
-- To try it on: after a rule line the reading goes on with one more rule; after `include b` the file `b` is
-- read first.
use Rattle.std.specs.Prelude.{◌≡◌, ℕ, ◌<◌, true, List, Result, Ok, Err, ⊤}
use Rattle.std.specs.Str.{is_utf8}
use Rattle.conf_parser.specs.declared.given.LineResult.{LineResult}
use Rattle.conf_parser.specs.declared.given.LineResult.TheVariants.{Include}
use Rattle.net_lists.specs.declared.stop.Stop.{Stop}
use Rattle.net_lists.specs.declared.stop.Stop.TheVariants.{Wrong, NoMemory}
use Rattle.conf_parser.specs.declared.line.ConfKind.{ConfKind}
use Rattle.net_lists.specs.declared.lines.NumberedLine.{NumberedLine}
use Rattle.conf_parser.specs.declared.reading.AfterLine.{AfterLine}
use Rattle.conf_parser.specs.declared.reading.AfterLine.TheVariants.{Onward, Included}
use Rattle.conf_parser.specs.declared.reading.Output.{Output}
use Rattle.conf_parser.specs.declared.reading.ReadSoFar.{ReadSoFar}
use Rattle.conf_parser.specs.declared.reading.Source.{Source}
use Rattle.conf_parser.specs.declared.reading.Stopped.{Stopped}
use Rattle.conf_parser.specs.declared.reading.Stopped.TheVariants as stopped
use Rattle.conf_parser.specs.Reading.{Including, Ended, Whole, Refused, fault_at, file_count, line_at, line_read}

-- the most files that a configuration may have
abbrev pub most_files : ℕ
most_files = 4096

-- how the reading goes on: with what was read, or with the file that the line includes
abbrev pub next_read : Including → Source → NumberedLine → AfterLine → Ended
next_read including source line (Onward read) = Whole read
next_read including source line (Included name read) = including name (line_at source line) read

-- how many files were read before it goes on
abbrev pub next_count : AfterLine → ℕ
next_count (Onward read) = file_count read
next_count (Included name read) = file_count read

-- a file may be read after `count` others: its name is UTF-8, and fewer than the most were read
pub record MayBeRead (count : ℕ) (name : List ℕ) : Type 0 where
  pub text : is_utf8 name ≡ true
  pub few : count < most_files

-- an included file may be read after `count` others
abbrev pub MayGive : ℕ → LineResult → Type 0
MayGive count (Include name) = MayBeRead count name
MayGive count given = ⊤

-- an included file may be read there
abbrev pub MayGoOn : AfterLine → Type 0
MayGoOn (Onward read) = ⊤
MayGoOn (Included name read) = MayBeRead (file_count read) name

-- why the reading stops at a line of this file
abbrev pub line_stop : Source → NumberedLine → Output → Stop ConfKind → Stopped
line_stop source line output (Wrong kind) = stopped.Refused (fault_at (line_at source line) kind) output
line_stop source line output NoMemory = stopped.NoMemory

-- the answer for a line is how the reading goes on, or its fault; want of memory is free
abbrev pub StepsTo : Source → NumberedLine → ReadSoFar → Result AfterLine Stopped → Type 0
StepsTo source line read (Ok next) =
    (including : Including) → line_read including source line read ≡ next_read including source line next
StepsTo source line read (Err (stopped.Refused fault output)) =
    (including : Including) → line_read including source line read ≡ Refused fault output
StepsTo source line read (Err stopped.NoMemory) = ⊤
StepsTo source line read (Err (stopped.Asks name output)) = ⊥
