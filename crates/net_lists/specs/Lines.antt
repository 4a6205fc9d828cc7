-- The lines of a text that are read: with their numbers and without the blanks at their ends; empty lines and
-- comments are skipped.
--
-- A text is cut at line feeds. A carriage return before one is dropped, and what follows the last line feed is
-- a line if it is not empty. (Snort Users Manual 2.9, section 2.1; the fine points are our own.)
-- To try it on: of the lines `# hosts`, none and ` 10.0.0.1 last - `, with the numbers 1 to 3, the third alone
-- is kept, as `10.0.0.1 last -`.
use Rattle.std.specs.Prelude.{ℕ, ◌==◌, not, Bool, false, List, [], ◌∷◌, filter, map}
use Rattle.edge_io.specs.Bytes.{trimmed}
use Rattle.net_lists.specs.declared.lines.NumberedLine.{NumberedLine}

-- a line with its number
abbrev pub numbered : ℕ → List ℕ → NumberedLine
numbered number text = record { number = number; text = text }

-- a line that is neither empty nor a comment, which begins with `#` (35)
abbrev pub has_content : List ℕ → Bool
has_content [] = false
has_content (first ∷ rest) = not (first == 35)

-- the line without the blanks at its ends
abbrev pub bare_line : NumberedLine → NumberedLine
bare_line line = numbered line.number (trimmed line.text)

-- the lines without the blanks at their ends that are neither empty nor comments
abbrev pub kept : List NumberedLine → List NumberedLine
kept lines = filter (λ line. has_content line.text) (map bare_line lines)
