-- At the state `at` the same words end with the letter as at the first one; `at` falls.
use Rattle.pattern_search.specs.Moves.{IsReaching}
use Rattle.pattern_search.proofs.moves.reach.Given as goal

abbrev pub invariant-loop-at : goal.invariant-loop-at
invariant-loop-at l = IsReaching l.trie l.fails l.state l.letter l.at

abbrev pub decreases-loop-at : goal.decreases-loop-at
decreases-loop-at l = l.at
