-- The place that `rfind` finds is the last one of the needle, so that no other cut leaves more before it (`cut_last`); where
-- it finds none there is no cut.
use Rattle.std.proofs.Common.{◌≡◌, ℕ, ◌+◌, ◌-◌, ◌*◌, ◌%◌, ◌^◌, ◌<◌, ◌≤◌, List, ◌++◌, length, take, drop, fold, sym, ap, ◌∙◌, arith, take_all}
use Rattle.std.proofs.lemmas.List.{length-drop}
use Rattle.alert_fast.proofs.ReadBack.Places.{cut_nowhere, cut_last}
use Rattle.alert_fast.proofs.cuts.last_cut.Goals as goal

pub returns-in_err-place : goal.returns-in_err-place
returns-in_err-place c = rw c.from_residual.ensures (cut_nowhere c.args.needle.now c.args.text.now c.in_err-place.ensures)

pub returns : goal.returns
returns c =
    let place = c.in_ok-place.place in
    let text = c.args.text.now in
    let back = place + length c.args.needle.now in
    let all = take_all (length text - back) (drop back text) (omega (arith, length-drop back text)) in
    rw all (cut_last c.args.needle.now text place c.in_ok-place.ensures.0 c.in_ok-place.ensures.1)
