-- A piece that doesn't have the place inside is its own and only part (`uncut`); of one that does, both parts come to be
-- where it was (`cut_last`).
use Rattle.std.proofs.Common.{refl}
use Rattle.overlap_core.proofs.Rows.Places.{cut_last, parts-before, parts-after, some_before, uncut}
use Rattle.overlap_core.proofs.row.cut_before.Goals as goal

pub returns-in_default-clause-ok : goal.returns-in_default-clause-ok
returns-in_default-clause-ok c = λ front rest last between.
    uncut c.args.at c.args.pieces.now c.prev.new.self front rest last c.in-Some.piece.now between c.prev.ensures.place
    c.in-Some.ensures.value (parts-before c.args.at c.in-Some.piece.now (rw c.end.ensures at c.if-at-end.false))

pub returns-in_default-2-clause-ok : goal.returns-in_default-2-clause-ok
returns-in_default-2-clause-ok c = λ front rest last between.
    uncut c.args.at c.args.pieces.now c.prev.new.self front rest last c.in-Some.piece.now between c.prev.ensures.place
    c.in-Some.ensures.value (parts-after c.args.at c.in-Some.piece.now (rw c.start.ensures at c.if-start-at.false))

pub returns-in_default-3-clause-ok : goal.returns-in_default-3-clause-ok
returns-in_default-3-clause-ok c = λ front rest last between.
    absurd (some_before c.args.pieces.now c.prev.new.self front rest last _ between c.prev.ensures.place
    (rw c.in_default.is at c.peek.ensures.value) refl)

pub returns-clause-ok : goal.returns-clause-ok
returns-clause-ok c = λ front rest last between.
    cut_last c.args.at c.args.pieces.now c.prev.new.self c.remove_here.new.self c.insert_here.new.self c.insert_here-2.new.self
    c.remove_here.result c.in-Some.piece.now c.in_ok-left-in-Some.field-0 c.in_ok-right-in-Some.field-0 front rest last _ _
    between c.prev.ensures.place c.in-Some.ensures.value c.remove_here.ensures.taken c.remove_here.ensures.left
    c.insert_here.ensures c.insert_here-2.ensures c.in_ok-left-in-Some.ensures c.in_ok-right-in-Some.ensures
    (rw c.start.ensures at c.if-start-at.true) (rw c.end.ensures at c.if-at-end.true)
