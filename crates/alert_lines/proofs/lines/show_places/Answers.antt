-- The lines of the places so far are on their way, and the next place's line has the number after theirs; a fault at it
-- leaves a part (`places_part`).
use Rattle.std.proofs.Common.{◌≡◌, take, arith}
use Rattle.std.proofs.lemmas.List.{take_all}
use Rattle.std.proofs.lemmas.Result.{err_from_is_err_and}
use Rattle.alert_lines.specs.Showing.{subject_of}
use Rattle.alert_lines.proofs.Showing.{places_none, places_nothing, places_step, places_part}
use Rattle.alert_lines.proofs.lines.show_places.Goals as goal

pub loop-place-init : goal.loop-place-init
loop-place-init g c = record { shown = places_none (subject_of c.args.subject.now) c.args.before _; few = omega arith }

pub returns-in_err-number : goal.returns-in_err-number
returns-in_err-number g c =
    let p = err_from_is_err_and c.from_residual.result c.from_residual.ensures.1 in
    rw (p.1, p.2) (places_nothing (subject_of c.args.subject.now) c.args.before c.args.places.now c.loop-place.place-index c.loop-place.count _ _ c.loop-place.invariant.shown)

pub returns-in_err-count : goal.returns-in_err-count
returns-in_err-count g c =
    let p = err_from_is_err_and c.from_residual-in_err-count.result c.from_residual-in_err-count.ensures.1 in
    rw (p.1, p.2)
    (places_part (subject_of c.args.subject.now) c.args.before c.args.places.now c.loop-place.place-index c.loop-place.count
    c.in_ok-number.number _ _ _ _ c.loop-place-test.true c.in_ok-number.ensures c.loop-place.invariant.shown
    c.in_err-count.ensures.shown)

pub loop-place-preserved : goal.loop-place-preserved
loop-place-preserved g c = record {
  shown =
      places_step (subject_of c.args.subject.now) c.args.before c.args.places.now c.loop-place.place-index c.loop-place.count
      c.in_ok-count.field-0 c.in_ok-number.number _ _ _ c.loop-place-test.true c.in_ok-number.ensures c.loop-place.invariant.shown
      c.in_ok-count.ensures.shown;
  few = omega (arith, c.in_ok-count.ensures.few, c.loop-place.invariant.few);
}

pub returns : goal.returns
returns g c =
    let all : take c.loop-place.place-index c.args.places.now ≡ c.args.places.now = take_all c.loop-place.place-index c.args.places.now (omega arith) in
    rw all at c.loop-place.invariant.shown
