-- Each turn takes the greatest entry of what is left to the end of what was taken, which so keeps falling
-- (`FallsInto-more`); what is left becomes one entry shorter.
use Rattle.std.proofs.Common.{arith}
use Rattle.std.proofs.lemmas.List.Sorted.{IsPermutation-pop_more, length_permutation}
use Rattle.ordered_merge.specs.Merging.{joined}
use Rattle.ordered_merge.proofs.Falling.{FallsInto-more}
use Rattle.ordered_merge.proofs.merging.greatest_first.Goals as goal

pub loop-entry-smaller : goal.loop-entry-smaller
loop-entry-smaller g c =
    let same = length_permutation _ _ c.in-Some.ensures.taken in
    omega (arith, same)

pub loop-entry-preserved : goal.loop-entry-preserved
loop-entry-preserved g c =
    let left = joined c.loop-entry.parts.items in
    let rest = joined c.pop_greatest.new.parts.items in
    let entry = c.in-Some.entry in (
      c.in-Some.ensures.ascending,
      rw c.in_ok-push.ensures.items (IsPermutation-pop_more (joined c.args.parts.items) c.loop-entry.taken.items left rest entry c.loop-entry.invariant.1 c.in-Some.ensures.taken),
      rw c.in_ok-push.ensures.items (FallsInto-more c.loop-entry.taken.items left rest entry c.loop-entry.invariant.2 c.in-Some.ensures.taken c.in-Some.ensures.greatest),
    )
