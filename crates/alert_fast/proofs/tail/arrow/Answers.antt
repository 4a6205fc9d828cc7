-- The source has no blank and the target no line feed, so that the words up to these are the only ones; after the
-- line feed nothing may follow.
use Rattle.alert_fast.proofs.ReadBack.Tails.{arrow_none, arrow_no, arrow_nowhere, arrow_more, arrow_whole}
use Rattle.std.proofs.Common.{◌≡◌, List, length, sym, ap, ◌∙◌, true≢false}
use Rattle.std.proofs.lemmas.Bool.{eq-eqb}
use Rattle.alert_fast.proofs.tail.arrow.Goals as goal

pub returns-in_err-from : goal.returns-in_err-from
returns-in_err-from c = rw c.from_residual.ensures (arrow_none c.args.text.now c.in_err-from.ensures)

pub returns-in_err-back : goal.returns-in_err-back
returns-in_err-back c = rw c.from_residual-in_err-back.ensures (arrow_no c.args.text.now c.in_ok-from.from.now c.in_ok-from.following.now c.in_ok-from.ensures c.in_err-back.ensures)

pub returns-in_err-to : goal.returns-in_err-to
returns-in_err-to c =
    rw c.from_residual-in_err-to.ensures
    (arrow_nowhere c.args.text.now c.in_ok-from.from.now c.in_ok-from.following.now c.in_ok-from.ensures c.in_ok-back.back.now
    c.in_ok-back.ensures c.in_err-to.ensures)

pub returns-else-is_empty : goal.returns-else-is_empty
returns-else-is_empty c =
    arrow_more c.args.text.now c.in_ok-from.from.now c.in_ok-from.following.now c.in_ok-from.ensures c.in_ok-back.back.now
    c.in_ok-back.ensures c.in_ok-to.to.now c.in_ok-to.left.now c.in_ok-to.ensures
    (λ e. true≢false (sym (eq-eqb (length c.in_ok-to.left.now) 0 (ap length e)) ∙ sym c.is_empty.ensures ∙ c.if-is_empty.false))
