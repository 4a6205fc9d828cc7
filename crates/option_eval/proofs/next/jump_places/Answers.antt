-- The places before `rest` have led where they lead; each turn adds the
-- one place that the next leads to, if any, which is within the payload.
-- A jump that isn't relative leads alike from each place, so the first is enough.
use Rattle.std.proofs.Common.{◌+◌, length, arith, get_or, sym, ◌∙◌}
use Rattle.option_eval.specs.Sets.{LeadsFrom}
use Rattle.option_eval.proofs.Sets.Asking.{led_none, led_next, led_all, contains_head, contains_later, length_later, with_if_within}
use Rattle.option_eval.proofs.Sets.Asking.{asked_is, length-asked}
use Rattle.option_eval.proofs.Sets.Rising.{rising_most, rising_length}
use Rattle.option_eval.proofs.Walks.Staying.{jump_free}
use Rattle.option_eval.proofs.next.jump_places.Goals as goal

pub loop-rest-init : goal.loop-rest-init
loop-rest-init g c =
    let at = c.args.at.now in
    let asked = c.asked_of-rest.result.now in
    rw c.new-led.ensures.items (record {
      led = λ means made. led_none (LeadsFrom means at.payload.now at.values.now c.args.option.now) asked;
      rest_within = λ p has.
          let in_places = asked_is c.is_relative.result at.places.now asked c.asked_of-rest.ensures p has in
          omega (arith, rising_most at.places.now 0 (length at.payload.now + 1) p at.rising in_places);
      within = λ q has. absurd (omega (arith, has.1));
      counted =
          omega (
            arith,
            length-asked c.is_relative.result at.places.now asked c.asked_of-rest.ensures,
            rising_length at.places.now 0 (length at.payload.now + 1) at.rising,
          );
    })

pub place_after_jump-requires-clause-inside : goal.place_after_jump-requires-clause-inside
place_after_jump-requires-clause-inside g c κs within = c.loop-rest.invariant.rest_within (get_or c.loop-rest.rest.now 0 0) (contains_head c.loop-rest.rest.now c.in-len1-up.len_at_least)

pub loop-rest-preserved : goal.loop-rest-preserved
loop-rest-preserved g c =
    let at = c.args.at.now in
    let old = c.loop-rest.invariant in
    let rest = c.loop-rest.rest.now in
    let some = c.in-len1-up.len_at_least in
    let counted = old.counted in
    let ticked = c.tick.ensures in
    record {
      led = λ means made.
          led_next (LeadsFrom means at.payload.now at.values.now c.args.option.now)
          c.asked_of-rest.result.now rest c.loop-rest.led.items c.in_ok-led.led.items c.in_ok-next.next some (old.led means made)
          (c.in_ok-next.ensures.only means made) c.in_ok-led.ensures;
      rest_within = λ p has. old.rest_within p (contains_later rest p some has);
      within = λ q has.
          with_if_within c.loop-rest.led.items c.in_ok-led.led.items c.in_ok-next.next (length at.payload.now) q
          c.in_ok-led.ensures c.in_ok-next.ensures.inside old.within has;
      counted = omega (arith, length_later rest some);
    }

pub returns-clause-found : goal.returns-clause-found
returns-clause-found g c = λ means made.
    let at = c.args.at.now in
    led_all c.is_relative.result (LeadsFrom means at.payload.now at.values.now c.args.option.now)
    at.places.now c.asked_of-rest.result.now c.loop-rest.rest.now c.loop-rest.led.items at.some c.asked_of-rest.ensures
    (λ free. jump_free means at.payload.now at.values.now c.args.option.now c.requires.jumps (sym c.is_relative.ensures ∙ free))
    c.in_default.len_below (c.loop-rest.invariant.led means made)
