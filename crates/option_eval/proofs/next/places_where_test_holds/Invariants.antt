-- The places before the rest were asked.
use Rattle.std.proofs.Common.{◌+◌, ◌≤◌, length}
use Rattle.option_eval.specs.Ready.{pattern_of}
use Rattle.option_eval.specs.RuleSet.{IsMade}
use Rattle.option_eval.specs.Places.{Means}
use Rattle.option_eval.specs.Sets.{IsRising, LeadsFrom}
use Rattle.option_eval.proofs.Sets.Asking.{Kept}
use Rattle.option_eval.proofs.next.places_where_test_holds.Given as goal

abbrev pub invariant-loop-rest : goal.invariant-loop-rest
invariant-loop-rest g l = record {
  kept : (means : Means) → IsMade g.P.Pattern.finds means l.option (pattern_of l.made) → Kept (λ p. LeadsFrom means l.at.payload.now l.at.values.now l.option p p) l.at.places.now l.rest l.next.items;
  rest_rising : IsRising l.done l.rest (length l.at.payload.now + 1);
  rising : IsRising 0 l.next.items l.done;
  counted : l.visits + length l.rest ≤ l.fn.visits + length l.at.places.now;
}

abbrev pub decreases-loop-rest : goal.decreases-loop-rest
decreases-loop-rest g l = length l.rest
