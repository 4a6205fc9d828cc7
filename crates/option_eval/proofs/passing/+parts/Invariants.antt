-- An extraction fewer is left after each; the states that were taken out were gone on from.
use Rattle.std.proofs.Common.{◌≡◌, ℕ, ◌+◌, ◌*◌, ◌≤◌, List, Some, None, length, map}
use Rattle.std.specs.List.{AllZip}
use Rattle.option_eval.specs.Known.{AreKnown, AreRising}
use Rattle.option_eval.specs.Numbers.{Point}
use Rattle.option_eval.specs.Places.{Means}
use Rattle.option_eval.specs.Ready.{pattern_of}
use Rattle.option_eval.specs.RuleSet.{IsMade}
use Rattle.option_eval.specs.States.{places_at, AreWithin, HaveValues, state_count}
use Rattle.option_eval.specs.Walks.{ExtractsNothing, visits_of, visits_apart, part_points, upto_extraction, after_extraction}
use Rattle.option_eval.proofs.Extractions.Parting.{Owing}
use Rattle.option_eval.proofs.Extractions.Stepping.{GoneOnFrom, IsLeft, Counted}
use Rattle.option_eval.proofs.passing.+parts.Given as goal

abbrev pub decreases-is_passed_after : goal.decreases-is_passed_after
decreases-is_passed_after g l = 3 * length l.options.now

abbrev pub decreases-is_part_passed : goal.decreases-is_part_passed
decreases-is_part_passed g l = 3 * length l.options.now + 1

abbrev pub decreases-is_passed_from : goal.decreases-is_passed_from
decreases-is_passed_from g l = 3 * length l.options.now + 2

abbrev pub invariant-is_passed_from-loop-state : goal.invariant-is_passed_from-loop-state
invariant-is_passed_from-loop-state g l = record {
  gone : (means : Means)
      → AllZip (IsMade g.P.Pattern.finds means) l.options (map pattern_of l.made)
      → GoneOnFrom means l.payload l.options l.fn.states l.left l.after.states;
  left_was : IsLeft l.fn.states l.left;
  within : AreWithin (length l.payload) l.after.states;
  nowhere : ExtractsNothing l.options → (values : List ℕ) → places_at l.after.states values ≡ None;
  known : (means : Means)
      → AllZip (IsMade g.P.Pattern.finds means) l.options (map pattern_of l.made)
      → AreKnown means l.payload l.options l.after.known;
  known_rising : AreRising (length l.payload + 1) l.after.known;
  together : (means : Means)
      → AllZip (IsMade g.P.Pattern.finds means) l.options (map pattern_of l.made)
      → (lists : List (List ℕ)) (listed : List Point)
      → HaveValues means l.payload lists (Some listed) l.options l.fn.states
      → length listed ≤ part_points
      → Counted (visits_of (upto_extraction l.options) (length l.payload)) lists l.left l.fn.visits l.visits;
  owing : (means : Means)
      → AllZip (IsMade g.P.Pattern.finds means) l.options (map pattern_of l.made)
      → (lists : List (List ℕ))
      → HaveValues means l.payload lists None l.options l.fn.states
      → Owing (visits_apart (length lists) l.options (length l.payload))
      (length lists * visits_apart (length lists) (after_extraction l.options) (length l.payload)) lists
      l.left l.after.states l.fn.visits l.visits;
}

abbrev pub decreases-is_passed_from-loop-state : goal.decreases-is_passed_from-loop-state
decreases-is_passed_from-loop-state g l = state_count l.left
