-- Nothing is written before all of the last lines are made, so that want of memory leaves none (`last-unbegun`) and a write
-- that failed a beginning of them (`last-broken`).
use Rattle.snort_eve.proofs.Copying.{all-written, on_err, last-broken, last-unbegun}
use Rattle.snort_eve.proofs.copy.finish_copy.Goals as goal

pub returns-in_err-ending-clause-breaks : goal.returns-in_err-ending-clause-breaks
returns-in_err-ending-clause-breaks g c = on_err c.from_residual.result (last-unbegun _ _ (g.F.InputForm.means c.args.form.now) _)

pub returns-in_err-write_all-clause-breaks : goal.returns-in_err-write_all-clause-breaks
returns-in_err-write_all-clause-breaks g c =
    on_err c.from_residual-in_err-write_all.result
    (last-broken _ _ (g.F.InputForm.means c.args.form.now) _ _ _ _ c.deref.result.now _ _ _ c.new-lines.ensures.items c.in_ok-ending.ensures c.deref.ensures.value c.in_err-write_all.ensures.stopped)

pub returns-clause-ends : goal.returns-clause-ends
returns-clause-ends g c =
    all-written _ _ _ c.deref.result.now _ _ c.new-lines.ensures.items c.in_ok-ending.ensures c.deref.ensures.value c.in_ok-write_all.ensures.all
