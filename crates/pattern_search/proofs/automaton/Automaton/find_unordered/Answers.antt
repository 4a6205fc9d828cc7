-- Nothing begins before the first place, so no marks cover it (`covers-none`); once all bytes are covered, what is marked
-- has ended (`covers-all`), and these are the patterns that occur (`ended-occurring`).
use Rattle.std.proofs.Common.{List, ℕ, length, sym, subst, arith}
use Rattle.std.specs.List.Sorted.{IsPermutation}
use Rattle.std.proofs.lemmas.List.{get_or_default}
use Rattle.pattern_search.specs.Finding.{Covers}
use Rattle.pattern_search.proofs.Finding.Covering.{covers-none, covers-all}
use Rattle.pattern_search.proofs.Finding.Telling.{ended-occurring}
use Rattle.pattern_search.proofs.automaton.Automaton.find_unordered.Goals as goal

pub returns : goal.returns
returns c = record {
  found = λ patterns finds.
      let automaton = c.args.self.now in
      let text = c.args.text.now in
      let hits = c.mark_all.new.hits.items in
      let Q : List ℕ → Type 0 = λ hs. Covers automaton text 0 c.new-seen.result hs in
      let none = subst Q (sym c.new-hits.ensures.items) (covers-none automaton text c.new-seen.result c.new-seen.ensures) in
      let all = covers-all automaton text (length text) c.mark_all.new.seen hits (omega arith) (c.in_ok-mark_all.ensures.on none) patterns finds in
      let P : List ℕ → Type 0 = λ ns. IsPermutation ns hits in
      subst P (ended-occurring automaton.letters patterns text finds.told (λ k d h. omega (arith, c.type_inv.text k, get_or_default text k d 0 h))) all;
}
