-- The choice among the options that are left, where `best` is the best so far, is the choice among all.
use Rattle.std.proofs.Common.{◌≡◌, drop}
use Rattle.fast_pattern.specs.FastPattern.{chosen}
use Rattle.fast_pattern.proofs.Candidates.Choosing.{chosen_after}
use Rattle.fast_pattern.proofs.choice.chosen.Given as goal

abbrev pub invariant-loop-place : goal.invariant-loop-place
invariant-loop-place l = chosen_after l.best l.place (drop l.place l.options) ≡ chosen l.options
