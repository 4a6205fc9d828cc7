-- While the piece at hand begins below the one sought it is before it (`place_below`), so `next` doesn't pass too far; where
-- it doesn't, the place is found (`sought`).
use Rattle.std.proofs.Common.{length, ap, ◌∙◌}
use Rattle.std.proofs.lemmas.Option.{slice_get_within}
use Rattle.overlap_core.proofs.Rows.Places.{moved_to, place_below, smaller_next, sought}
use Rattle.overlap_core.proofs.row.step_on.Goals as goal

pub loop-pieces-smaller : goal.loop-pieces-smaller
loop-pieces-smaller c =
    let at_item = c.begins_below.ensures.yes_at c.loop-pieces-test.true in
    smaller_next c.loop-pieces.pieces c.next.new.self c.next.result
    (slice_get_within c.loop-pieces.pieces.list c.loop-pieces.pieces.place at_item.0 at_item.1)
    c.next.ensures.moved c.next.ensures.place

pub loop-pieces-preserved : goal.loop-pieces-preserved
loop-pieces-preserved c = record {
  list = ap (λ p. p.list) c.next.ensures.place ∙ c.loop-pieces.invariant.list;
  spare = ap (λ p. p.spare) c.next.ensures.place ∙ c.loop-pieces.invariant.spare;
  before = λ front rest list from _.
      let at_item = c.begins_below.ensures.yes_at c.loop-pieces-test.true in
      let before = place_below c.args.at c.loop-pieces.pieces front rest at_item.0 (c.loop-pieces.invariant.list ∙ list) from at_item.1 at_item.2 in
      moved_to c.loop-pieces.pieces c.next.new.self c.next.result (length front) before c.next.ensures.place;
}

pub returns-clause-place : goal.returns-clause-place
returns-clause-place c = λ front rest list below from within.
    sought c.args.at c.loop-pieces.pieces c.begins_below.result front rest
    (c.loop-pieces.invariant.before front rest list from within)
    (c.loop-pieces.invariant.list ∙ list) below c.begins_below.ensures.no_at c.loop-pieces-test.false
