-- At first all patterns end at the empty word (`at-none`); grown as deep as the longest one, the trie has each of them whole
-- (`grown-all`).
use Rattle.std.proofs.Common.{◌≡◌, ℕ, ◌+◌, List, length, replicate, subst, sym, arith}
use Rattle.pattern_search.specs.Words.{words_of}
use Rattle.pattern_search.specs.Growing.{AreAt}
use Rattle.pattern_search.proofs.States.Growing.{at-none, deeper, grown-all}
use Rattle.pattern_search.proofs.ends.Grown.of.Goals as goal

pub loop-depth-init : goal.loop-depth-init
loop-depth-init c =
    let trie = c.in_ok-trie.trie in
    let letters = c.args.letters.now.of in
    let patterns = c.args.patterns.now in
    let zeros : c.in_ok-ends.ends.items ≡ replicate (length patterns) 0 = c.in_ok-ends.ensures.items_if_clones_equal (λ y e. e) in
    let P : List ℕ → Type 0 = λ ends. AreAt (words_of trie.steps.items) letters patterns ends 0 in
    record {
      trie = c.in_ok-trie.ensures.trie;
      width = c.in_ok-trie.ensures.width;
      ends = subst P (sym zeros) (at-none letters patterns trie c.in_ok-trie.ensures.trie);
    }

pub deepen-requires-clause-trie : goal.deepen-requires-clause-trie
deepen-requires-clause-trie c = deeper (words_of c.loop-depth.trie.steps.items) c.loop-depth.trie c.loop-depth.depth (c.loop-depth.depth + 1) (omega arith) c.loop-depth.invariant.trie

pub returns-clause-grown : goal.returns-clause-grown
returns-clause-grown c =
    grown-all c.args.letters.now.of c.args.patterns.now (record { trie = c.loop-depth.trie; ends = c.loop-depth.ends })
    c.loop-depth.depth c.longest-depth-end.result c.loop-depth.invariant.trie c.loop-depth-test.false c.longest-depth-end.ensures
    c.loop-depth.invariant.ends
