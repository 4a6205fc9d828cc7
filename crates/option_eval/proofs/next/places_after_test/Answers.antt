-- A test that isn't relative holds at all places or at none, so it
-- is asked at the first alone; a relative one is asked at each.
use Rattle.std.proofs.Common.{◌+◌, length, arith, sym, ap, ◌∙◌}
use Rattle.std.proofs.lemmas.Bool.{false≢true}
use Rattle.option_eval.specs.Sets.{LeadsFrom}
use Rattle.option_eval.proofs.Sets.Asking.{first_below, first_holds, first_fails}
use Rattle.option_eval.proofs.Sets.Rising.{rising_length}
use Rattle.option_eval.proofs.Walks.Staying.{test_stays, test_free}
use Rattle.option_eval.proofs.next.places_after_test.Goals as goal

pub returns-in_err-places_after_relative_test-clause-bounded : goal.returns-in_err-places_after_relative_test-clause-bounded
returns-in_err-places_after_relative_test-clause-bounded g c =
    omega (arith, c.places_after_relative_test.ensures.bounded, rising_length c.args.at.now.places.now 0 (length c.args.at.now.payload.now + 1) c.args.at.now.rising)

pub returns-then-is_relative-clause-bounded : goal.returns-then-is_relative-clause-bounded
returns-then-is_relative-clause-bounded g c =
    omega (arith, c.places_after_relative_test.ensures.bounded, rising_length c.args.at.now.places.now 0 (length c.args.at.now.payload.now + 1) c.args.at.now.rising)

pub test_holds-requires-clause-inside : goal.test_holds-requires-clause-inside
test_holds-requires-clause-inside g c κs within =
    omega (arith, first_below c.args.at.now.places.now 0 (length c.args.at.now.payload.now + 1) (omega (arith, c.args.at.now.some)) c.args.at.now.rising)

pub returns-then-branch-clause-after : goal.returns-then-branch-clause-after
returns-then-branch-clause-after g c = λ every.
    let at = c.args.at.now in
    let free = sym c.is_relative.ensures ∙ c.if-is_relative.false in
    record {
      found = λ means made.
          first_holds every (LeadsFrom means at.payload.now at.values.now c.args.option.now) at.places.now
          (test_stays means at.payload.now at.values.now c.args.option.now c.requires.test)
          (test_free means at.payload.now at.values.now c.args.option.now c.requires.test free)
          at.some ((c.in_ok-test_holds.ensures means made).0 c.if-branch.true);
      rising = tt;
      apart = λ free. c.requires.test;
    }

pub returns-else-branch-clause-after : goal.returns-else-branch-clause-after
returns-else-branch-clause-after g c = λ every.
    let at = c.args.at.now in
    let free = sym c.is_relative.ensures ∙ c.if-is_relative.false in
    record {
      found = λ means made.
          rw c.new.ensures.items (first_fails every (LeadsFrom means at.payload.now at.values.now c.args.option.now) at.places.now
          (test_stays means at.payload.now at.values.now c.args.option.now c.requires.test)
          (test_free means at.payload.now at.values.now c.args.option.now c.requires.test free)
          (λ here. false≢true (sym c.if-branch.false ∙ (c.in_ok-test_holds.ensures means made).1 here)));
      rising = rw c.new.ensures.items (omega arith);
      apart = λ free test. ap length c.new.ensures.items;
    }
