-- The bytes are at none of the places so far.
use Rattle.std.proofs.Common.{◌≤◌, ◌-◌, true}
use Rattle.memchr.specs.Find.{Nowhere}
use Rattle.option_eval.specs.Sets.{Occurs}
use Rattle.option_eval.proofs.needle.first_folded.Given as goal

abbrev pub invariant-loop-next : goal.invariant-loop-next
invariant-loop-next l = record {
  low : l.low ≤ l.at;
  high : l.at ≤ l.end;
  before : Nowhere (Occurs true l.payload l.bytes) l.low l.at;
}

abbrev pub decreases-loop-next : goal.decreases-loop-next
decreases-loop-next l = l.end - l.at
