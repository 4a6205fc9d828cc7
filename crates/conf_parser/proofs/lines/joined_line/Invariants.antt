-- What is joined so far, before the lines that are left, gives the lines of the text.
use Rattle.std.proofs.Common.{◌≡◌, ◌+◌, ◌≤◌, length}
use Rattle.std.specs.Str.Lines.{lines}
use Rattle.conf_parser.specs.Lines.{joined_onto, joined_lines}
use Rattle.conf_parser.proofs.lines.joined_line.Given as goal

abbrev pub invariant-joining : goal.invariant-joining
invariant-joining l = record {
  so_far : joined_lines l.fn.number (lines l.fn.text) ≡ joined_onto l.fn.number l.joined.items (joined_lines l.next (lines l.rest));
  few : l.next + length l.rest ≤ l.fn.number + length l.fn.text;
  shorter : length l.rest ≤ length l.fn.text;
}

abbrev pub decreases-joining : goal.decreases-joining
decreases-joining l = length l.rest
