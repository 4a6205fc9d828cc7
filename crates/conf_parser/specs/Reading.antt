-- Reading a configuration: the lines of its first file and of the files that it includes, in reading order.
--
-- An include is read where its line is, before the lines after it. Each line is read from what comes
-- before it, by `conf_line`, and the first that is refused ends the reading, as does the first file whose
-- contents lack. Contents are asked for by the number of the file among those read and by its name: where a
-- host tells its files, the number does not matter.
-- To try it on: where `a` has the lines `include b` and `pass ..` and `b` has `alert ..`, the rule lines are the
-- one of `b` and then that of `a`; where `b` lacks, the reading asks for `b`.
use Rattle.std.specs.Prelude.{ℕ, zero, suc, ◌-◌, Option, Some, None, Result, Ok, Err, List, [], ◌∷◌, ◌++◌, length, nat_le, if◌then◌else◌}
use Rattle.std.specs.FinMap as map
use Rattle.edge_io.specs.Files.{Files}
use Rattle.net_lists.specs.Variables.{Variables}
use Rattle.conf_parser.specs.declared.draft.Settings.{Settings}
use Rattle.conf_parser.specs.declared.given.LineResult.{LineResult}
use Rattle.conf_parser.specs.declared.given.LineResult.TheVariants.{Nothing, Rule, Skipped, Include}
use Rattle.conf_parser.specs.declared.given.Onward.{Onward}
use Rattle.conf_parser.specs.declared.line.Line.{Line}
use Rattle.conf_parser.specs.declared.line.Warning.{Warning}
use Rattle.conf_parser.specs.declared.line.ConfFault.{ConfFault}
use Rattle.conf_parser.specs.declared.line.ConfKind.{ConfKind}
use Rattle.conf_parser.specs.declared.line.ConfKind.TheVariants.{TooLarge}
use Rattle.conf_parser.specs.declared.reading.Output.{Output}
use Rattle.conf_parser.specs.declared.reading.ReadSoFar.{ReadSoFar}
use Rattle.conf_parser.specs.declared.reading.At.{At}
use Rattle.conf_parser.specs.declared.reading.Source.{Source}
use Rattle.conf_parser.specs.Settings.{first_draft}
use Rattle.net_lists.specs.declared.lines.NumberedLine.{NumberedLine}
use Rattle.conf_parser.specs.Lines.{content_lines}
use Rattle.conf_parser.specs.ConfLine.{conf_line}

-- how a reading ends
pub data Ended : Type 0 where
  -- all lines were read
  Whole : ReadSoFar → Ended
  -- a line is refused, or a file, at the line that includes it; what the lines before it hand on
  Refused : ConfFault → Output → Ended
  -- the contents lack this file; what the lines before it hand on
  Asks : List ℕ → Output → Ended

-- the bytes of the file that is read at this number, of this name, if they are there
abbrev pub Contents : Type 0
Contents = ℕ → List ℕ → Option (List ℕ)

-- the files that a host tells
abbrev pub told : Files → Contents
told files number name = map.get files name

-- what goes on after a reading that was not ended
abbrev pub onward : Ended → (ReadSoFar → Ended) → Ended
onward (Whole read) next = next read
onward (Refused fault output) next = Refused fault output
onward (Asks name output) next = Asks name output

-- the fault of this kind there
abbrev pub fault_at : At → ConfKind → ConfFault
fault_at at kind = record { file = at.file; line = at.line; kind = kind }

-- the place of a line
abbrev pub line_at : Source → NumberedLine → At
line_at source line = record { file = source.place; line = line.number }

-- how many files were read
abbrev pub file_count : ReadSoFar → ℕ
file_count read = length read.output.files

-- the output with one more file
abbrev pub with_file : Output → List ℕ → Output
with_file output name = record output { files = output.files ++ name ∷ [] }

-- the output with one more rule line
abbrev pub with_rule : Output → Source → NumberedLine → Output
with_rule output source line = record output {
  rules = output.rules
      ++ record { file = source.place; line = line.number; text = line.text } ∷ [];
}

-- the output with one more warning
abbrev pub with_warning : Output → Source → NumberedLine → List ℕ → List ℕ → Output
with_warning output source line directive name =
    record output {
      warnings = output.warnings ++ record {
        file = source.place;
        line = line.number;
        directive = directive;
        name = name;
      } ∷ [];
    }

-- these settings, and what was handed on
abbrev pub read_with : Settings → Output → ReadSoFar
read_with settings output = record { settings = settings; output = output }

-- how an included file is read: by its name, where the line is, and what was read before
abbrev pub Including : Type 0
Including = List ℕ → At → ReadSoFar → Ended

-- the reading after what a line hands on
abbrev pub given_read : Including → Source → NumberedLine → Settings → Output → LineResult → Ended
given_read including source line settings output Nothing = Whole (read_with settings output)
given_read including source line settings output Rule = Whole (read_with settings (with_rule output source line))
given_read including source line settings output (Skipped directive name) =
    Whole (read_with settings (with_warning output source line directive name))
given_read including source line settings output (Include name) = including name (line_at source line) (read_with settings output)

-- the reading after the meaning of a line
abbrev pub meaning_read : Including → Source → NumberedLine → Output → Result Onward ConfKind → Ended
meaning_read including source line output (Ok after) = given_read including source line after.settings output after.given
meaning_read including source line output (Err kind) = Refused (fault_at (line_at source line) kind) output

-- the reading after one line
unfoldable pub line_read : Including → Source → NumberedLine → ReadSoFar → Ended
line_read including source line read =
    meaning_read including source line read.output (conf_line
    (record { file = source.name; depth = source.depth; files = file_count read }) read.settings line.text)

-- the reading after all lines of a file
unfoldable pub lines_read : Including → Source → List NumberedLine → ReadSoFar → Ended
lines_read including source [] read = Whole read
lines_read including source (line ∷ rest) read = onward (line_read including source line read) (lines_read including source rest)

-- what was read where a file is too large: the first file's name is there, too, since the fault is its own
abbrev pub too_large : At → List ℕ → Output → Ended
too_large at name output = Refused (fault_at at TooLarge) (if nat_le 1 at.line then output else with_file output name)

-- the most bytes that a file may have
abbrev pub most_bytes : ℕ
most_bytes = 16777216

-- the reading after a file with these contents
unfoldable pub contents_read : Including → ℕ → List ℕ → At → ReadSoFar → Option (List ℕ) → Ended
contents_read including depth name at read None = Asks name read.output
contents_read including depth name at read (Some bytes) =
    if nat_le (length bytes) most_bytes
    then lines_read including (record { name = name; place = file_count read; depth = depth }) (content_lines bytes)
    (read_with read.settings (with_file read.output name))
    else too_large at name read.output

-- The reading after a file, where includes may nest this many times more. (Where none may, no line is an include.)
unfoldable pub file_read : Contents → ℕ → List ℕ → At → ReadSoFar → Ended
file_read contents zero name at read =
    contents_read (λ inner place before. Whole before) 16 name at read (contents (file_count read) name)
file_read contents (suc left) name at read =
    contents_read (file_read contents left) (15 - left) name at read (contents (file_count read) name)

-- what is read before the first file
abbrev pub nothing_read : Variables → ReadSoFar
nothing_read variables = record {
  settings = record { vars = variables; draft = first_draft };
  output = record { files = []; rules = []; warnings = [] };
}

-- the reading of a configuration, from its first file and the variables that come before it
unfoldable pub read_files : Contents → List ℕ → Variables → Ended
read_files contents name variables = file_read contents 16 name (record { file = 0; line = 0 }) (nothing_read variables)
