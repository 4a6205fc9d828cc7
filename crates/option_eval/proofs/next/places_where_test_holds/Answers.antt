-- Of the places before `rest` those are kept at which the test holds, still
-- rising; a test leads nowhere but to its own place, so these are all.
use Rattle.std.proofs.Common.{◌+◌, length, arith, sym, ◌∙◌}
use Rattle.std.proofs.lemmas.Bool.{false≢true}
use Rattle.option_eval.specs.Sets.{LeadsFrom}
use Rattle.option_eval.proofs.Sets.Asking.{kept_next, kept_all, rising_with, length_later, first_below}
use Rattle.option_eval.proofs.Walks.Staying.{test_stays}
use Rattle.option_eval.proofs.Sets.Rising.{rising_high, rising_length}
use Rattle.option_eval.proofs.next.places_where_test_holds.Goals as goal

pub test_holds-requires-clause-inside : goal.test_holds-requires-clause-inside
test_holds-requires-clause-inside g c κs within =
    let below = first_below c.loop-rest.rest.now c.loop-rest.done (length c.args.at.now.payload.now + 1) c.in-len1-up.len_at_least c.loop-rest.invariant.rest_rising in
    omega arith

pub overflow_add-done : goal.overflow_add-done
overflow_add-done g c =
    let below = first_below c.loop-rest.rest.now c.loop-rest.done (length c.args.at.now.payload.now + 1) c.in-len1-up.len_at_least c.loop-rest.invariant.rest_rising in
    omega arith

pub loop-rest-preserved : goal.loop-rest-preserved
loop-rest-preserved g c =
    let old = c.loop-rest.invariant in
    let rest = c.loop-rest.rest.now in
    let some = c.in-len1-up.len_at_least in
    let risen =
    rising_with rest c.loop-rest.next.items c.in_ok-next.next.items c.loop-rest.done (length c.args.at.now.payload.now + 1)
    c.in_ok-holds.holds some old.rest_rising old.rising c.in_ok-next.ensures in
    let counted = old.counted in
    let ticked = c.tick.ensures in
    record {
      kept = λ means made.
          kept_next (λ p. LeadsFrom means c.args.at.now.payload.now c.args.at.now.values.now c.args.option.now p p)
          c.args.at.now.places.now rest c.loop-rest.next.items c.in_ok-next.next.items c.in_ok-holds.holds some (old.kept means made)
          (c.in_ok-holds.ensures means made) c.in_ok-next.ensures;
      rest_rising = risen.1;
      rising = risen.0;
      counted = omega (arith, length_later rest some);
    }

pub returns-clause-after : goal.returns-clause-after
returns-clause-after g c = λ every.
    let at = c.args.at.now in
    let left = rising_length c.loop-rest.rest.now c.loop-rest.done (length at.payload.now + 1) c.loop-rest.invariant.rest_rising in
    record {
      found = λ means made.
          kept_all every (LeadsFrom means at.payload.now at.values.now c.args.option.now)
          at.places.now c.loop-rest.rest.now c.loop-rest.next.items
          (test_stays means at.payload.now at.values.now c.args.option.now c.requires.test)
          c.in_default.len_below (c.loop-rest.invariant.kept means made);
      rising = rising_high c.loop-rest.next.items 0 c.loop-rest.done (length at.payload.now + 1) (omega arith) c.loop-rest.invariant.rising;
      apart = λ free. absurd (false≢true (sym free ∙ c.requires.relative));
    }
