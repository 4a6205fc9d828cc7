-- The front of a line is a time with its mark and the numbers with a blank: each is the only one that the text may begin
-- with, so that a step that fails leaves no front.
use Rattle.std.specs.Prelude.{decimal, codes}
use Rattle.alert_fast.specs.Fronts.{ended, followed, BothFit, both}
use Rattle.alert_fast.specs.Pieces.{digits}
use Rattle.alert_fast.specs.Words.{IsNumber, IsTwo, IsMicros}
use Rattle.alert_fast.specs.Heads.{ArePair, date_text, hour_text, AreSeconds, second_text, AreNumbers, numbers_text, time_text}
use Rattle.alert_fast.specs.Told.{IsLineTime}
use Rattle.alert_fast.proofs.ReadBack.Fronts.{both_front, both_none, both_no, followed_front, followed_none, followed_no}
use Rattle.alert_fast.proofs.head.head.Goals as goal

pub returns-in_err-when : goal.returns-in_err-when
returns-in_err-when c =
    rw c.from_residual.ensures
    (both_none IsLineTime (followed time_text (codes " [**] [")) AreNumbers (followed numbers_text (codes " ")) c.args.text.now
    (followed_none IsLineTime time_text (codes " [**] [") c.args.text.now c.in_err-when.ensures))

pub returns-in_err-after : goal.returns-in_err-after
returns-in_err-after c =
    rw c.from_residual-in_err-after.ensures
    (both_none IsLineTime (followed time_text (codes " [**] [")) AreNumbers (followed numbers_text (codes " ")) c.args.text.now
    (followed_no IsLineTime time_text (codes " [**] [") c.args.text.now c.in_ok-when.following.now c.in_ok-when.when
    c.in_ok-when.ensures c.in_err-after.ensures))

pub returns-in_err-marks : goal.returns-in_err-marks
returns-in_err-marks c =
    rw c.from_residual-in_err-marks.ensures
    (both_no IsLineTime (followed time_text (codes " [**] [")) AreNumbers (followed numbers_text (codes " ")) c.args.text.now
    c.in_ok-after.after.now c.in_ok-when.when
    (followed_front IsLineTime time_text (codes " [**] [") c.args.text.now c.in_ok-when.following.now c.in_ok-after.after.now
    c.in_ok-when.when c.in_ok-when.ensures c.in_ok-after.ensures)
    (followed_none AreNumbers numbers_text (codes " ") c.in_ok-after.after.now c.in_err-marks.ensures))

pub returns-in_err-rest : goal.returns-in_err-rest
returns-in_err-rest c =
    rw c.from_residual-in_err-rest.ensures
    (both_no IsLineTime (followed time_text (codes " [**] [")) AreNumbers (followed numbers_text (codes " ")) c.args.text.now
    c.in_ok-after.after.now c.in_ok-when.when
    (followed_front IsLineTime time_text (codes " [**] [") c.args.text.now c.in_ok-when.following.now c.in_ok-after.after.now
    c.in_ok-when.when c.in_ok-when.ensures c.in_ok-after.ensures)
    (followed_no AreNumbers numbers_text (codes " ") c.in_ok-after.after.now c.in_ok-marks.later.now c.in_ok-marks.marks
    c.in_ok-marks.ensures c.in_err-rest.ensures))

pub returns : goal.returns
returns c =
    both_front IsLineTime (followed time_text (codes " [**] [")) AreNumbers (followed numbers_text (codes " ")) c.args.text.now
    c.in_ok-after.after.now c.in_ok-rest.rest.now c.in_ok-when.when c.in_ok-marks.marks
    (followed_front IsLineTime time_text (codes " [**] [") c.args.text.now c.in_ok-when.following.now c.in_ok-after.after.now
    c.in_ok-when.when c.in_ok-when.ensures c.in_ok-after.ensures)
    (followed_front AreNumbers numbers_text (codes " ") c.in_ok-after.after.now c.in_ok-marks.later.now c.in_ok-rest.rest.now
    c.in_ok-marks.marks c.in_ok-marks.ensures c.in_ok-rest.ensures)
