-- `firsts` has the last of the first `place` patterns at each state, and `sames` the one before each of them.
use Rattle.pattern_search.specs.Owned.{AreOwned}
use Rattle.pattern_search.proofs.owned.Owned.of.Given as goal

abbrev pub invariant-loop-place : goal.invariant-loop-place
invariant-loop-place l = AreOwned l.keys l.key_count l.firsts.items l.sames.items l.place
