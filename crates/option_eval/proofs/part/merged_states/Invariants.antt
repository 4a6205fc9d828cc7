-- The states that were taken out are among those that are done.
use Rattle.std.proofs.Common.{ℕ, List, Contains}
use Rattle.std.specs.Prelude.{⊤}
use Rattle.option_eval.specs.Numbers.{Point}
use Rattle.option_eval.specs.Sets.{point}
use Rattle.option_eval.specs.States.{EachState, state_count}
use Rattle.option_eval.proofs.Extractions.Parting.{MergedFrom, Listed}
use Rattle.option_eval.proofs.Extractions.Stepping.{IsLeft}
use Rattle.option_eval.proofs.part.merged_states.Given as goal

abbrev pub invariant-loop-state : goal.invariant-loop-state
invariant-loop-state l = record {
  merged : MergedFrom l.fn.states l.left l.done;
  left_was : IsLeft l.fn.states l.left;
  few : (listed : List Point) → EachState (λ values. ⊤) (λ values p. Contains listed (point values p)) l.fn.states → Listed listed l.left l.done.place_count;
}

abbrev pub decreases-loop-state : goal.decreases-loop-state
decreases-loop-state l = state_count l.left
