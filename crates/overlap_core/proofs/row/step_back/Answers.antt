-- A piece that begins below the one sought is before it (`place_below`), so the walk back, which ends at such a piece or at
-- the first, ends no later.
use Rattle.std.proofs.Common.{ap, ◌∙◌, arith}
use Rattle.overlap_core.proofs.Rows.Places.{place_below}
use Rattle.overlap_core.proofs.row.step_back.Goals as goal

pub returns-then-not-prev-clause-place : goal.returns-then-not-prev-clause-place
returns-then-not-prev-clause-place c = λ front rest list from. let place = ap (λ p. p.place) c.prev.ensures.place in grind (arith, place, c.prev.ensures.moved, c.if-not-prev.true)

pub loop-pieces-preserved : goal.loop-pieces-preserved
loop-pieces-preserved c = record { list = ap (λ p. p.list) c.prev.ensures.place ∙ c.loop-pieces.invariant.list; spare = ap (λ p. p.spare) c.prev.ensures.place ∙ c.loop-pieces.invariant.spare }

pub returns-clause-place : goal.returns-clause-place
returns-clause-place c = λ front rest list from.
    let at_item = c.begins_below.ensures.yes_at c.loop-pieces-test.false in
    let before = place_below c.args.at c.loop-pieces.pieces front rest at_item.0 (c.loop-pieces.invariant.list ∙ list) from at_item.1 at_item.2 in
    omega (arith, before)
