-- Each pattern's first `depth` letters end at its state, in a trie as wide as there are letters.
use Rattle.std.proofs.Common.{◌≡◌}
use Rattle.pattern_search.specs.Words.{IsTrie, words_of}
use Rattle.pattern_search.specs.Growing.{AreAt}
use Rattle.pattern_search.proofs.ends.Grown.of.Given as goal

abbrev pub invariant-loop-depth : goal.invariant-loop-depth
invariant-loop-depth l = record {
  trie : IsTrie l.trie l.depth;
  width : l.trie.width ≡ l.letters.count;
  ends : AreAt (words_of l.trie.steps.items) l.letters.of l.patterns l.ends.items l.depth;
}
