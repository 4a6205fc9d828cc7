-- A month and a day are two fronts, one after the other: as the text begins with no other month, there is no date
-- where no day comes after it.
use Rattle.std.specs.Prelude.{decimal, codes}
use Rattle.alert_fast.specs.Fronts.{ended, followed, BothFit, both}
use Rattle.alert_fast.specs.Pieces.{digits}
use Rattle.alert_fast.specs.Words.{IsNumber, IsTwo, IsMicros}
use Rattle.alert_fast.proofs.ReadBack.Fronts.{both_front, both_none, both_no}
use Rattle.alert_fast.proofs.head.date.Goals as goal

pub returns-in_err-month : goal.returns-in_err-month
returns-in_err-month c = rw c.from_residual.ensures (both_none IsTwo (ended (digits 2) 47) IsTwo (ended (digits 2) 45) c.args.text.now c.in_err-month.ensures)

pub returns-in_err-day : goal.returns-in_err-day
returns-in_err-day c =
    rw c.from_residual-in_err-day.ensures
    (both_no IsTwo (ended (digits 2) 47) IsTwo (ended (digits 2) 45) c.args.text.now c.in_ok-month.following.now
    c.in_ok-month.month c.in_ok-month.ensures c.in_err-day.ensures)

pub returns : goal.returns
returns c =
    both_front IsTwo (ended (digits 2) 47) IsTwo (ended (digits 2) 45) c.args.text.now c.in_ok-month.following.now
    c.in_ok-day.rest.now c.in_ok-month.month c.in_ok-day.day c.in_ok-month.ensures c.in_ok-day.ensures
