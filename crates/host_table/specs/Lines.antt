-- The lines of a host table: cut at line feeds; which of them are kept, and as what, is said by net_lists'
-- specs/Lines.
--
-- Lines are counted from 1, those that are skipped too. No line is joined with the next.
-- (Snort Users Manual 2.9, section 2.1, whose lines these are; the fine points are our own.)
-- To try it on: of the lines `# hosts`, none and ` 10.0.0.1 last - `, the third alone is kept, as
-- `10.0.0.1 last -` with the number 3.
use Rattle.std.specs.Prelude.{ℕ, ◌+◌, List, [], ◌∷◌}
use Rattle.std.specs.Str.Lines.{lines}
use Rattle.net_lists.specs.declared.lines.NumberedLine.{NumberedLine}
use Rattle.net_lists.specs.Lines.{numbered, kept}

-- lines with their numbers, of which the first has this one
unfoldable pub numbered_lines : ℕ → List (List ℕ) → List NumberedLine
numbered_lines number [] = []
numbered_lines number (line ∷ rest) = numbered number line ∷ numbered_lines (number + 1) rest

-- the lines of a text that are read
abbrev pub content_lines : List ℕ → List NumberedLine
content_lines bytes = kept (numbered_lines 1 (lines bytes))
