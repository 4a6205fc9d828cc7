-- The words of the states up to `count` have few letters; how far `count` is from `most` falls.
use Rattle.std.proofs.Common.{◌+◌, ◌-◌}
use Rattle.pattern_search.specs.Rows.{AreShallow}
use Rattle.pattern_search.proofs.rows.shallow_count.Given as goal

abbrev pub invariant-loop-count : goal.invariant-loop-count
invariant-loop-count l = AreShallow l.trie (l.count + 1)

abbrev pub decreases-loop-count : goal.decreases-loop-count
decreases-loop-count l = l.most - l.count
