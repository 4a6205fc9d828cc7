-- The states below `state` have their fails and the heads of their chains.
use Rattle.pattern_search.specs.Outputs.{IsLinking}
use Rattle.pattern_search.proofs.links.Links.of.Given as goal

abbrev pub invariant-loop-state : goal.invariant-loop-state
invariant-loop-state l = IsLinking l.trie l.firsts l.fails.items l.heads.items l.state
