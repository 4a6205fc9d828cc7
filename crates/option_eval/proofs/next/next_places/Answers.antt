-- An option that asks nothing of the payload is a test that holds at each place, so it leaves all places.
use Rattle.std.proofs.Common.{sym}
use Rattle.option_eval.specs.Sets.{LeadsFrom}
use Rattle.option_eval.proofs.Sets.Asking.{all_stay}
use Rattle.option_eval.proofs.Walks.Staying.{test_stays, other_test, other_stays}
use Rattle.option_eval.proofs.next.next_places.Goals as goal

pub returns-then-not-is_payload_option-clause-after : goal.returns-then-not-is_payload_option-clause-after
returns-then-not-is_payload_option-clause-after g c =
    let other = sym c.if-not-is_payload_option.ensures in
    let test = other_test c.args.option.now other in
    record {
      found = λ means made.
          all_stay c.args.every (LeadsFrom means c.args.at.now.payload.now c.args.at.now.values.now c.args.option.now)
          c.args.at.now.places.now
          (test_stays means c.args.at.now.payload.now c.args.at.now.values.now c.args.option.now test)
          (other_stays means c.args.at.now.payload.now c.args.at.now.values.now c.args.option.now other);
      rising = tt;
      apart = λ free. test;
    }
