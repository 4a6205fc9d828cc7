-- A date, then an hour with its minute, then the seconds: fronts one after another, of which the text begins
-- with these and no others.
use Rattle.std.specs.Prelude.{decimal, codes}
use Rattle.alert_fast.specs.Fronts.{ended, followed, BothFit, both}
use Rattle.alert_fast.specs.Pieces.{digits}
use Rattle.alert_fast.specs.Words.{IsNumber, IsTwo, IsMicros}
use Rattle.alert_fast.specs.Heads.{ArePair, date_text, hour_text, AreSeconds, second_text, AreNumbers, numbers_text, time_text}
use Rattle.alert_fast.specs.Told.{IsLineTime}
use Rattle.alert_fast.proofs.ReadBack.Fronts.{both_front, both_none, both_no}
use Rattle.alert_fast.proofs.head.stamp.Goals as goal

pub returns-in_err-day : goal.returns-in_err-day
returns-in_err-day c = rw c.from_residual.ensures (both_none ArePair date_text (BothFit ArePair AreSeconds) (both hour_text second_text) c.args.text.now c.in_err-day.ensures)

pub returns-in_err-clock : goal.returns-in_err-clock
returns-in_err-clock c =
    rw c.from_residual-in_err-clock.ensures
    (both_no ArePair date_text (BothFit ArePair AreSeconds) (both hour_text second_text) c.args.text.now c.in_ok-day.following.now
    c.in_ok-day.day c.in_ok-day.ensures
    (both_none ArePair hour_text AreSeconds second_text c.in_ok-day.following.now c.in_err-clock.ensures))

pub returns-in_err-parts : goal.returns-in_err-parts
returns-in_err-parts c =
    rw c.from_residual-in_err-parts.ensures
    (both_no ArePair date_text (BothFit ArePair AreSeconds) (both hour_text second_text) c.args.text.now c.in_ok-day.following.now
    c.in_ok-day.day c.in_ok-day.ensures
    (both_no ArePair hour_text AreSeconds second_text c.in_ok-day.following.now c.in_ok-clock.later.now c.in_ok-clock.clock
    c.in_ok-clock.ensures c.in_err-parts.ensures))

pub returns : goal.returns
returns c =
    both_front ArePair date_text (BothFit ArePair AreSeconds) (both hour_text second_text) c.args.text.now
    c.in_ok-day.following.now c.in_ok-parts.rest.now c.in_ok-day.day (c.in_ok-clock.clock, c.in_ok-parts.parts)
    c.in_ok-day.ensures
    (both_front ArePair hour_text AreSeconds second_text c.in_ok-day.following.now c.in_ok-clock.later.now c.in_ok-parts.rest.now
    c.in_ok-clock.clock c.in_ok-parts.parts c.in_ok-clock.ensures c.in_ok-parts.ensures)
