-- At the last place that `memrchr` finds there is such a byte and after it none, so that the word after it lacks the byte;
-- where it finds none, the text does.
use Rattle.std.proofs.Common.{◌≡◌, ℕ, ◌+◌, ◌-◌, ◌*◌, ◌%◌, ◌^◌, ◌<◌, ◌≤◌, List, ◌++◌, length, take, drop, fold, sym, ap, ◌∙◌, arith, take_all}
use Rattle.std.proofs.lemmas.List.{length-drop}
use Rattle.std.proofs.lemmas.Bool.{eqb-true}
use Rattle.alert_fast.proofs.ReadBack.Places.{no_place, last_place}
use Rattle.alert_fast.proofs.cuts.back_word.Goals as goal

pub returns-in_err-place : goal.returns-in_err-place
returns-in_err-place c = rw c.from_residual.ensures (no_place c.args.start c.args.text.now c.in_err-place.ensures)

pub returns : goal.returns
returns c =
    let place = c.in_ok-place.place in
    let text = c.args.text.now in
    let all = take_all (length text - (place + 1)) (drop (place + 1) text) (omega (arith, length-drop (place + 1) text)) in
    rw all (last_place c.args.start text place c.in_ok-place.ensures.0 (eqb-true _ _ c.in_ok-place.ensures.1))
