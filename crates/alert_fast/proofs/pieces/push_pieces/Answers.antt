-- The text of one piece more comes after those of the pieces before it: the lemma `appended_more`.
use Rattle.alert_fast.proofs.PieceLists.{appended_more}
use Rattle.alert_fast.proofs.pieces.push_pieces.Goals as goal

pub loop-piece-preserved : goal.loop-piece-preserved
loop-piece-preserved c =
    appended_more c.args.out.now.items c.loop-piece.out.items c.push_piece.new.out.items c.args.pieces.now
    c.loop-piece.piece-index _ c.loop-piece-test.true c.loop-piece.invariant c.in-Ok.ensures.appended
