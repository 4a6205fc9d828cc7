-- A second up to its full stop and six digits up to a blank are two fronts, one after the other: where either is missing,
-- the text begins with no seconds.
use Rattle.std.specs.Prelude.{decimal, codes}
use Rattle.alert_fast.specs.Fronts.{ended, followed, BothFit, both}
use Rattle.alert_fast.specs.Pieces.{digits}
use Rattle.alert_fast.specs.Words.{IsNumber, IsTwo, IsMicros}
use Rattle.alert_fast.proofs.ReadBack.Fronts.{both_front, both_none, both_no}
use Rattle.alert_fast.proofs.head.second.Goals as goal

pub returns-in_err-first : goal.returns-in_err-first
returns-in_err-first c = rw c.from_residual.ensures (both_none IsTwo (ended (digits 2) 46) IsMicros (ended (digits 6) 32) c.args.text.now c.in_err-first.ensures)

pub returns-in_err-micros : goal.returns-in_err-micros
returns-in_err-micros c =
    rw c.from_residual-in_err-micros.ensures
    (both_no IsTwo (ended (digits 2) 46) IsMicros (ended (digits 6) 32) c.args.text.now c.in_ok-first.following.now
    c.in_ok-first.first c.in_ok-first.ensures c.in_err-micros.ensures)

pub returns : goal.returns
returns c =
    both_front IsTwo (ended (digits 2) 46) IsMicros (ended (digits 6) 32) c.args.text.now c.in_ok-first.following.now
    c.in_ok-micros.rest.now c.in_ok-first.first c.in_ok-micros.micros c.in_ok-first.ensures c.in_ok-micros.ensures
