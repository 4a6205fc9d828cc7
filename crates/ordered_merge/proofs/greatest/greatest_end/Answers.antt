-- The end of one more part becomes the greatest where its number is greater or the first (`GreatestUpTo-takes`), else what
-- was greatest is (`GreatestUpTo-keeps`); an empty part has no end (`GreatestUpTo-empty`).
use Rattle.std.proofs.Common.{◌+◌, sym, subst, refl}
use Rattle.ordered_merge.specs.Greatest.{GreatestUpTo}
use Rattle.ordered_merge.specs.Merging.{Ascends}
use Rattle.ordered_merge.proofs.Ends.{GreatestUpTo-empty, GreatestUpTo-keeps, GreatestUpTo-takes}
use Rattle.ordered_merge.proofs.greatest.greatest_end.Goals as goal
use Rattle.ordered_merge.proofs.greatest.greatest_end.Goals.{in-Some+then-exceeds, in-Some+else-exceeds, in_default}

pub loop-at-preserved : goal.loop-at-preserved
loop-at-preserved g c =
    let at = c.loop-at.at in
    let part = c.index-parts-at.result in
    let is = c.index-parts-at.is in
    let so_far = c.loop-at.invariant in
    let up : Ascends part.items = subst (λ (part : _). Ascends part.items) (sym is) (c.requires at part c.loop-at-test.true) in
    elim c.match-last_number.branch [
      | in-Some+then-exceeds w ↦
          subst (GreatestUpTo c.args.parts.now (at + 1)) (sym w.greatest-is)
          (GreatestUpTo-takes c.args.parts.now at w.in-Some.number part c.loop-at.greatest so_far c.loop-at-test.true is up
          w.in-Some.ensures (w.if-exceeds.ensures.0 refl))
      | in-Some+else-exceeds w ↦
          subst (GreatestUpTo c.args.parts.now (at + 1)) (sym w.greatest-is)
          (GreatestUpTo-keeps c.args.parts.now at w.in-Some.number part c.loop-at.greatest so_far c.loop-at-test.true is up
          w.in-Some.ensures (λ above. let h = w.if-exceeds.ensures.1 above in cc))
      | in_default w ↦
          subst (GreatestUpTo c.args.parts.now (at + 1)) (sym w.greatest-is)
          (GreatestUpTo-empty c.args.parts.now at part c.loop-at.greatest so_far c.loop-at-test.true is w.in_default.ensures)
    ]
