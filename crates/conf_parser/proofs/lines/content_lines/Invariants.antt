-- The lines so far, and then those of what is left, are the lines of the file.
use Rattle.std.proofs.Common.{◌≡◌, ◌+◌, ◌≤◌, ◌++◌, length}
use Rattle.std.specs.Str.Lines.{lines}
use Rattle.net_lists.specs.Lines.{kept}
use Rattle.conf_parser.specs.Lines.{joined_lines}
use Rattle.conf_parser.proofs.lines.content_lines.Given as goal

abbrev pub invariant-lines : goal.invariant-lines
invariant-lines l = record {
  so_far : kept (joined_lines 1 (lines l.fn.bytes)) ≡ l.all ++ kept (joined_lines l.number (lines l.rest));
  few : l.number + length l.rest ≤ 1 + length l.fn.bytes;
}

abbrev pub decreases-lines : goal.decreases-lines
decreases-lines l = length l.rest
