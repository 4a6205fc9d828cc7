-- `finds-made` puts together what the calls answer, since each was given the very lists that the automaton keeps.
use Rattle.std.proofs.Common.{◌≡◌, ℕ, ◌+◌, List, length, subst, arith}
use Rattle.pattern_search.specs.declared.automaton.Automaton.{Automaton}
use Rattle.pattern_search.specs.Owned.{AreOwned}
use Rattle.pattern_search.specs.Outputs.{IsLinking, AreNexts}
use Rattle.pattern_search.specs.Rows.{IsLayout}
use Rattle.pattern_search.proofs.Finding.Making.{finds-made}
use Rattle.pattern_search.proofs.automaton.Automaton.of.Goals as goal

pub returns : goal.returns
returns c =
    let grown = c.in_ok-grown.grown in
    let trie = grown.trie in
    let ends = grown.ends.items in
    let laid = c.in_ok-rows.rows in
    let firsts = c.in_ok-owned.owned.firsts.items in
    let sames = c.in_ok-owned.owned.sames.items in
    let fails = c.in_ok-links.links.fails.items in
    let heads = c.in_ok-links.links.heads.items in
    let nexts = c.in_ok-nexts.nexts.items in
    let automaton : Automaton = record {
      letters = c.letters_of-letters.result.of;
      trie = trie;
      dense = laid.dense;
      table = laid.table;
      entries = laid.entries;
      fails = c.in_ok-links.links.fails;
      heads = c.in_ok-links.links.heads;
      nexts = c.in_ok-nexts.nexts;
      shallow = c.shallow_bound-shallow.result;
      sieve = c.in_ok-sieve.sieve;
    } in
    let states : c.len.result + 1 ≡ length trie.steps.items + 1 = omega (arith, c.len.ensures, trie.steps.ok.0) in
    let A : List ℕ → Type 0 = λ es. AreOwned es (length trie.steps.items + 1) firsts sames (length es) in
    let B : ℕ → Type 0 = λ n. AreOwned c.deref.result.now n firsts sames (length c.deref.result.now) in
    let owned = subst A c.deref.ensures.value (subst B states c.in_ok-owned.ensures) in
    let C : List ℕ → Type 0 = λ fs. IsLinking trie fs fails heads (length trie.steps.items + 1) in
    let links = subst C c.deref-2.ensures.value c.in_ok-links.ensures in
    let D : List ℕ → Type 0 = λ es. AreNexts es c.deref-4.result.now fails heads nexts (length es) in
    let E : List ℕ → Type 0 = λ ss. AreNexts ends ss fails heads nexts (length ends) in
    let chained = subst E c.deref-4.ensures.value (subst D c.deref-3.ensures.value c.in_ok-nexts.ensures) in
    let F : List ℕ → Type 0 = λ fs. IsLayout trie fs c.deref-6.result.now laid in
    let G : List ℕ → Type 0 = λ hs. IsLayout trie fails hs laid in
    let layout = subst G c.deref-6.ensures.value (subst F c.deref-5.ensures.value c.in_ok-rows.ensures) in
    finds-made automaton c.args.patterns.now grown firsts sames c.letters_of-letters.ensures.told
    (λ byte. omega (arith, c.letters_of-letters.ensures.below byte, c.in_ok-grown.ensures.width))
    c.in_ok-grown.ensures.grown owned links chained layout c.shallow_bound-shallow.ensures c.in_ok-sieve.ensures
