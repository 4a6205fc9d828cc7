-- A text that was made waits after the others, and a full block is then offered with it: both steps, one after the other,
-- are the text on its way (`emits_both`).
use Rattle.std.proofs.Common.{refl, sym}
use Rattle.std.proofs.lemmas.List.{append-nil}
use Rattle.std.proofs.lemmas.Result.{err_from_is_err_and}
use Rattle.alert_lines.proofs.Emitting.{emits_both, emits_nothing, emits_waits}
use Rattle.alert_lines.proofs.lines.show_line.Goals as goal

pub returns-in_err-push_alert : goal.returns-in_err-push_alert
returns-in_err-push_alert g c =
    let p = err_from_is_err_and c.from_residual.result c.from_residual.ensures.1 in
    rw (p.1, p.2) (emits_nothing _ _ _ refl refl)

pub returns : goal.returns
returns g c = emits_both (emits_waits _ _ _ c.in_ok-push_alert.ensures refl refl) c.offer_full.ensures.emits (sym (append-nil _))
