-- The lines of a file: cut at line feeds and joined where a backslash is at a line's end; which of them are
-- kept, and as what, is said by net_lists' specs/Lines.
--
-- A line whose last byte is a backslash is joined with the next one, without the backslash, and goes on
-- only if that one ends in a backslash too. A joined line has the number of its first line, counted from 1.
-- Joining comes before all else. (Snort Users Manual 2.9, section 2.1; the fine points are our own.)
-- To try it on: the lines `a \`, ` b` and `# c` are one line `a  b` with the number 1.
use Rattle.std.specs.Prelude.{ℕ, ◌+◌, ◌-◌, ◌==◌, Bool, List, [], ◌∷◌, ◌++◌, length, take, slice_index, if◌then◌else◌}
use Rattle.std.specs.Str.Lines.{lines}
use Rattle.edge_io.specs.Bytes.{trimmed}
use Rattle.net_lists.specs.declared.lines.NumberedLine.{NumberedLine}
use Rattle.net_lists.specs.Lines.{numbered, has_content, bare_line, kept}

-- the line ends in a backslash (92)
abbrev pub is_open : List ℕ → Bool
is_open line = slice_index line (length line - 1) == 92

-- the line without its last byte
abbrev pub without_last : List ℕ → List ℕ
without_last line = take (length line - 1) line

-- a front with this number before the first of the lines; alone, where there is none
abbrev pub joined_onto : ℕ → List ℕ → List NumberedLine → List NumberedLine
joined_onto number front [] = numbered number front ∷ []
joined_onto number front (next ∷ rest) = numbered number (front ++ next.text) ∷ rest

-- the joined lines; the first has this number
unfoldable pub joined_lines : ℕ → List (List ℕ) → List NumberedLine
joined_lines number [] = []
joined_lines number (line ∷ rest) =
    if is_open line then joined_onto number (without_last line) (joined_lines (number + 1) rest)
    else numbered number line ∷ joined_lines (number + 1) rest

-- what is kept of one line
abbrev pub kept_line : NumberedLine → List NumberedLine
kept_line line = if has_content (trimmed line.text) then bare_line line ∷ [] else []

-- the lines of a file that are read
unfoldable pub content_lines : List ℕ → List NumberedLine
content_lines bytes = kept (joined_lines 1 (lines bytes))
