-- What was taken falls and no entry that is left is above it, together they are all entries, and the parts ascend; what is
-- left grows shorter.
use Rattle.std.proofs.Common.{◌++◌, All, length}
use Rattle.std.specs.List.Sorted.{IsPermutation}
use Rattle.ordered_merge.specs.Merging.{Ascends, joined}
use Rattle.ordered_merge.proofs.Falling.{FallsInto}
use Rattle.ordered_merge.proofs.merging.greatest_first.Given as goal

abbrev pub invariant-loop-entry : goal.invariant-loop-entry
invariant-loop-entry g l =
    All (λ part. Ascends part.items) l.parts.items × IsPermutation (joined l.fn.parts.items) (l.taken.items ++ joined l.parts.items) × FallsInto l.taken.items (joined l.parts.items)

abbrev pub decreases-loop-entry : goal.decreases-loop-entry
decreases-loop-entry g l = length (joined l.parts.items)
