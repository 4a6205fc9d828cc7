-- A trie that grows keeps the numbers of its words, so one pattern's next end leaves all others right (`between-more`).
use Rattle.std.proofs.Common.{ℕ, ◌+◌, List, [], sym, refl, subst, ◌∙◌}
use Rattle.std.proofs.lemmas.List.{get_or_read}
use Rattle.pattern_search.specs.Growing.{AreBetween}
use Rattle.pattern_search.specs.Words.{words_of}
use Rattle.pattern_search.proofs.States.Growing.{between-none, between-more}
use Rattle.pattern_search.proofs.ends.Grown.deepen.Goals as goal

pub loop-place-init : goal.loop-place-init
loop-place-init c = record {
  trie = c.requires.trie;
  width = refl;
  ends = between-none c.args.letters.now c.args.patterns.now (words_of c.args.trie.now.steps.items) c.args.ends.now c.args.depth c.requires.ends;
}

pub loop-place-preserved : goal.loop-place-preserved
loop-place-preserved c =
    let goes = c.in_ok-next.ensures in
    let letters = c.args.letters.now in
    let patterns = c.args.patterns.now in
    let place = c.loop-place.place in
    let more = words_of c.next_end.new.trie.steps.items in
    let P : List ℕ → Type 0 = λ ends. AreBetween more letters patterns ends c.args.depth (place + 1) in
    record {
      trie = goes.trie;
      width = goes.width ∙ c.loop-place.invariant.width;
      ends =
          subst P (sym c.write.ensures)
          (between-more letters patterns c.loop-place.trie c.next_end.new.trie c.loop-place.ends c.args.depth place
          c.in_ok-next.next c.bytes.result.now c.loop-place.invariant.ends c.loop-place-test.true
          (c.bytes.ensures ∙
          get_or_read patterns place c.index-patterns-place.result c.loop-place-test.true c.index-patterns-place.is [])
          goes);
    }
