-- The word at the pattern's end so far has `depth` letters (`end-depth`), so `child` may add one that is a letter longer,
-- which is the pattern's next end.
use Rattle.std.proofs.Common.{slice_index, get_or, refl}
use Rattle.pattern_search.proofs.States.Growing.{advance-some, trie-at}
use Rattle.pattern_search.proofs.ends.Grown.next_end.Goals as goal

pub child-requires-clause-trie : goal.child-requires-clause-trie
child-requires-clause-trie c =
    trie-at c.args.trie.now c.args.letters.now c.args.pattern.now c.args.depth c.args.end c.requires.trie c.requires.end c.if-pattern-depth.false

pub returns : goal.returns
returns c =
    advance-some c.args.trie.now c.child.new.self c.args.letters.now c.args.pattern.now c.args.depth c.args.end
    (slice_index c.args.letters.now (get_or c.args.pattern.now c.args.depth 0))
    c.in_ok-next.next c.requires.end c.if-pattern-depth.false refl c.in_ok-next.ensures
