-- The loop of `follow` has marked and listed the chain as far as it isn't left from `at` on; each turn marks a pattern, so
-- the unmarked ones grow fewer.
use Rattle.std.proofs.Common.{length}
use Rattle.pattern_search.specs.Finding.{IsFollowing}
use Rattle.pattern_search.proofs.Finding.Hitting.{unseen}
use Rattle.pattern_search.proofs.automaton.follow.Given as goal

abbrev pub invariant-loop-at : goal.invariant-loop-at
invariant-loop-at l = IsFollowing l.nexts l.head l.fn.seen l.fn.hits.items l.at l.seen l.hits.items

abbrev pub decreases-loop-at : goal.decreases-loop-at
decreases-loop-at l = unseen (length l.nexts) l.seen
