-- The first `place` patterns end a letter deeper than the others, and no word of the trie has more than `depth + 1` letters.
use Rattle.std.proofs.Common.{◌≡◌, ◌+◌}
use Rattle.pattern_search.specs.Words.{IsTrie, words_of}
use Rattle.pattern_search.specs.Growing.{AreBetween}
use Rattle.pattern_search.proofs.ends.Grown.deepen.Given as goal

abbrev pub invariant-loop-place : goal.invariant-loop-place
invariant-loop-place l = record {
  trie : IsTrie l.trie (l.depth + 1);
  width : l.trie.width ≡ l.fn.trie.width;
  ends : AreBetween (words_of l.trie.steps.items) l.letters l.patterns l.ends l.depth l.place;
}
