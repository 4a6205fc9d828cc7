-- All pieces and then the last lines are the lines of the file (`copied-last`); where the last lines stop, a beginning of
-- the file's lines was written (`stop-last`), and without memory for the block none (`stop-start`).
use Rattle.std.proofs.Common.{refl, ◌∙◌}
use Rattle.std.proofs.lemmas.Result.{on_err_weaker}
use Rattle.snort_eve.proofs.Copying.{on_err, stop-start, stop-last, copied-last, other-stop}
use Rattle.snort_eve.proofs.copy.copy_records.Goals as goal

pub returns-in_err-block-clause-stops : goal.returns-in_err-block-clause-stops
returns-in_err-block-clause-stops g c = on_err c.from_residual.result (stop-start (g.F.InputForm.means c.args.form.now) _ _ _ (g.met.F.InputForm.nothing c.args.form.now))

pub returns-in-Ok-clause-copies : goal.returns-in-Ok-clause-copies
returns-in-Ok-clause-copies g c =
    copied-last (g.F.InputForm.means c.args.form.now) _ _ (g.H.Host.left_of c.args.host.now) _ _ c.finish_copy.result
    c.in-Ok.ensures.comes c.in-Ok.ensures.over c.finish_copy.ensures.ends

pub returns-in-Ok-clause-stops : goal.returns-in-Ok-clause-stops
returns-in-Ok-clause-stops g c =
    on_err_weaker c.finish_copy.result (λ breaks.
    stop-last (g.F.InputForm.means c.args.form.now) _ _ (g.H.Host.left_of c.args.host.now) _ _
    c.in-Ok.ensures.comes c.in-Ok.ensures.over breaks)
    c.finish_copy.ensures.breaks

pub returns-in-Ok-clause-quiet_alerts : goal.returns-in-Ok-clause-quiet_alerts
returns-in-Ok-clause-quiet_alerts g c other = c.finish_copy.ensures.quiet other ∙ c.in-Ok.ensures.counts.quiet_alerts (λ same. absurd cc)

pub returns-clause-quiet : goal.returns-clause-quiet
returns-clause-quiet g c other = c.in-Err.ensures.counts.quiet (λ same. other (other-stop _ _ c.in-Err.stop _ refl refl same))

pub returns-clause-quiet_alerts : goal.returns-clause-quiet_alerts
returns-clause-quiet_alerts g c other = c.in-Err.ensures.counts.quiet_alerts (λ same. other (other-stop _ _ c.in-Err.stop _ refl refl same))

pub returns-clause-long : goal.returns-clause-long
returns-clause-long g c named = c.in-Err.ensures.long (other-stop _ _ c.in-Err.stop _ refl refl named)
