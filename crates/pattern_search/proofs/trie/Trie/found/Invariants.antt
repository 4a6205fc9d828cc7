-- A child by the letter, if there is one, is a state no later than `at`; `at` falls.
use Rattle.pattern_search.specs.Words.{IsSeeking}
use Rattle.pattern_search.proofs.trie.Trie.found.Given as goal

abbrev pub invariant-loop-at : goal.invariant-loop-at
invariant-loop-at l = IsSeeking l.self l.state l.letter l.at

abbrev pub decreases-loop-at : goal.decreases-loop-at
decreases-loop-at l = l.at
