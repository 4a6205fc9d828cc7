-- The parts so far, and then what is read of the rest, are the parts of the whole.
use Rattle.std.proofs.Common.{◌≡◌, ◌+◌, ◌≤◌, length}
use Rattle.net_lists.specs.Tokens.{symbols}
use Rattle.net_lists.specs.Machine.{run, before, start}
use Rattle.net_lists.proofs.read.group_parts.Given as goal

abbrev pub invariant-loop-token : goal.invariant-loop-token
invariant-loop-token g l = record {
  shallow : l.place.depth + length l.rest ≤ length l.inner;
  negated : l.place.negated ≤ l.place.depth + 1;
  so_far : run g.B.Spelled.bounds_of (start l.negated) (symbols l.inner) ≡ before l.parts.items (run g.B.Spelled.bounds_of l.place (symbols l.rest));
}

abbrev pub decreases-loop-token : goal.decreases-loop-token
decreases-loop-token g l = length l.rest
