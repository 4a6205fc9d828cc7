-- Nothing is written before all lines of the piece are made, so that want of memory leaves none (`piece-unbegun`) and a
-- write that failed a beginning of them (`piece-broken`).
use Rattle.snort_eve.proofs.Copying.{all-written, on_err, piece-broken, piece-unbegun}
use Rattle.snort_eve.proofs.copy.pass_piece.Goals as goal

pub returns-in_err-more-clause-breaks : goal.returns-in_err-more-clause-breaks
returns-in_err-more-clause-breaks g c = on_err c.from_residual.result (piece-unbegun _ (g.F.InputForm.means c.args.form.now) _ _)

pub returns-in_err-write_all-clause-breaks : goal.returns-in_err-write_all-clause-breaks
returns-in_err-write_all-clause-breaks g c =
    on_err c.from_residual-in_err-write_all.result
    (piece-broken _ _ (g.F.InputForm.means c.args.form.now) _ _ _ c.deref.result.now _ _ _ c.new-lines.ensures.items
    c.in_ok-more.ensures.gives c.deref.ensures.value c.in_err-write_all.ensures.stopped)

pub returns-clause-passes : goal.returns-clause-passes
returns-clause-passes g c =
    all-written _ _ _ c.deref.result.now _ _ c.new-lines.ensures.items c.in_ok-more.ensures.gives c.deref.ensures.value c.in_ok-write_all.ensures.all
