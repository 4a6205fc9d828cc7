-- `greatest` is the greatest end of the first `at` parts, or none where they are all empty.
use Rattle.ordered_merge.specs.Greatest.{GreatestUpTo}
use Rattle.ordered_merge.proofs.greatest.greatest_end.Given as goal

abbrev pub invariant-loop-at : goal.invariant-loop-at
invariant-loop-at g l = GreatestUpTo l.parts l.at l.greatest
