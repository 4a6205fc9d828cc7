-- An hour and a minute, each in two digits with a colon, are read one after the other (`both_front`), or the text
-- begins with no such pair.
use Rattle.std.specs.Prelude.{decimal, codes}
use Rattle.alert_fast.specs.Fronts.{ended, followed, BothFit, both}
use Rattle.alert_fast.specs.Pieces.{digits}
use Rattle.alert_fast.specs.Words.{IsNumber, IsTwo, IsMicros}
use Rattle.alert_fast.proofs.ReadBack.Fronts.{both_front, both_none, both_no}
use Rattle.alert_fast.proofs.head.hour.Goals as goal

pub returns-in_err-first : goal.returns-in_err-first
returns-in_err-first c = rw c.from_residual.ensures (both_none IsTwo (ended (digits 2) 58) IsTwo (ended (digits 2) 58) c.args.text.now c.in_err-first.ensures)

pub returns-in_err-minute : goal.returns-in_err-minute
returns-in_err-minute c =
    rw c.from_residual-in_err-minute.ensures
    (both_no IsTwo (ended (digits 2) 58) IsTwo (ended (digits 2) 58) c.args.text.now c.in_ok-first.following.now
    c.in_ok-first.first c.in_ok-first.ensures c.in_err-minute.ensures)

pub returns : goal.returns
returns c =
    both_front IsTwo (ended (digits 2) 58) IsTwo (ended (digits 2) 58) c.args.text.now c.in_ok-first.following.now
    c.in_ok-minute.rest.now c.in_ok-first.first c.in_ok-minute.minute c.in_ok-first.ensures c.in_ok-minute.ensures
