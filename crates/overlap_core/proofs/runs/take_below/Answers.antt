-- If the first piece is all that there is below the limit, it is the only run (`first-runs`), and raising the others is
-- raising the whole list (`first-raised`).
use Rattle.std.proofs.Common.{sym, ◌∙◌}
use Rattle.overlap_core.proofs.Joined.Single.{first-raised, first-runs}
use Rattle.overlap_core.proofs.runs.take_below.Goals as goal

pub returns-then-is_one_piece-clause-runs : goal.returns-then-is_one_piece-clause-runs
returns-then-is_one_piece-clause-runs c =
    let one = c.is_one_piece.ensures c.if-is_one_piece.true in
    first-runs c.args.pieces.now.list one.0 one.1 c.args.below c.args.out.now.items c.take_first.new.out.items one.2 one.3 one.4 (c.in_ok-take_first.ensures.ok one.0 one.1 one.2).1

pub returns-then-is_one_piece-clause-list : goal.returns-then-is_one_piece-clause-list
returns-then-is_one_piece-clause-list c =
    let one = c.is_one_piece.ensures c.if-is_one_piece.true in
    (c.in_ok-take_first.ensures.ok one.0 one.1 one.2).0 ∙ sym (first-raised c.args.below c.args.pieces.now.list one.0 one.1 one.2 one.3)
