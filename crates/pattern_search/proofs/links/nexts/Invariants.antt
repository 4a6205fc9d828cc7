-- Each of the first `place` patterns leads to the one before it of its state, or else to the chain of the state that this
-- one fails to.
use Rattle.pattern_search.specs.Outputs.{AreNexts}
use Rattle.pattern_search.proofs.links.nexts.Given as goal

abbrev pub invariant-loop-place : goal.invariant-loop-place
invariant-loop-place l = AreNexts l.ends l.sames l.links.fails.items l.links.heads.items l.nexts.items l.place
