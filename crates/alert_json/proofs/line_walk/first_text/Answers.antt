-- The place that `memchr` finds is that of the first line feed, so that the bytes before it have none (`first_place`); where
-- it finds none, all bytes lack it (`no_place`).
use Rattle.std.proofs.Common.{◌+◌, ◌-◌, length, drop, arith, take_all}
use Rattle.std.proofs.lemmas.List.{length-drop}
use Rattle.std.proofs.lemmas.Bool.{eqb-true}
use Rattle.alert_fast.proofs.ReadBack.Places.{no_place, first_place}
use Rattle.alert_json.proofs.line_walk.first_text.Goals as goal

pub returns-in_err-place : goal.returns-in_err-place
returns-in_err-place c = rw c.from_residual.ensures (no_place 10 c.args.bytes.now c.in_err-place.ensures)

pub returns : goal.returns
returns c =
    let place = c.in_ok-place.place in
    let text = c.args.bytes.now in
    let all = take_all (length text - (place + 1)) (drop (place + 1) text) (omega (arith, length-drop (place + 1) text)) in
    rw all (first_place 10 text place c.in_ok-place.ensures.0 (eqb-true _ _ c.in_ok-place.ensures.1))
