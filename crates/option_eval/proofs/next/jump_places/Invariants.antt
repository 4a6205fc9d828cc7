-- The places before the rest were asked.
use Rattle.std.proofs.Common.{◌+◌, ◌≤◌, ℕ, length, Contains}
use Rattle.option_eval.specs.Ready.{pattern_of}
use Rattle.option_eval.specs.RuleSet.{IsMade}
use Rattle.option_eval.specs.Places.{Means}
use Rattle.option_eval.specs.Sets.{LeadsFrom}
use Rattle.option_eval.proofs.Sets.Asking.{Led}
use Rattle.option_eval.proofs.next.jump_places.Given as goal

abbrev pub invariant-loop-rest : goal.invariant-loop-rest
invariant-loop-rest g l = record {
  led : (means : Means)
      → IsMade g.P.Pattern.finds means l.option (pattern_of l.made)
      → Led (LeadsFrom means l.at.payload.now l.at.values.now l.option) l.initial.rest l.rest l.led.items;
  rest_within : (p : ℕ) → Contains l.rest p → p ≤ length l.at.payload.now;
  within : (q : ℕ) → Contains l.led.items q → q ≤ length l.at.payload.now;
  counted : l.visits + length l.rest ≤ l.fn.visits + (length l.at.payload.now + 1);
}

abbrev pub decreases-loop-rest : goal.decreases-loop-rest
decreases-loop-rest g l = length l.rest
