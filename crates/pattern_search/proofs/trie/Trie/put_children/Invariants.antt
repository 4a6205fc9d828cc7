-- Each letter has its child, or none yet and its child, if there is one, is a state no later than `at`; `at` falls.
use Rattle.pattern_search.specs.Words.{IsFilling}
use Rattle.pattern_search.proofs.trie.Trie.put_children.Given as goal

abbrev pub invariant-loop-at : goal.invariant-loop-at
invariant-loop-at l = IsFilling l.self l.state l.at l.children

abbrev pub decreases-loop-at : goal.decreases-loop-at
decreases-loop-at l = l.at
