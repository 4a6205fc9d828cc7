-- The states whose words have at most three letters.
use Rattle.std.proofs.Common.{◌≡◌, ℕ, ◌+◌, ◌-◌, ◌*◌, ◌<◌, ◌≤◌, length, ap, arith, ⊎_elim}
use Rattle.std.proofs.lemmas.Bool.{cases_lt}
use Rattle.std.proofs.Math.Nat.{mul-le-mul_right}
use Rattle.pattern_search.specs.declared.trie.Trie.{Trie}
use Rattle.pattern_search.specs.Words.{word_at, step_at}
use Rattle.pattern_search.specs.Rows.{sparse, place_of, IsParent, AreShallow, IsShallow}
use Rattle.pattern_search.proofs.States.Stepping.{place-row, place-sparse}

pub parent-root : (trie : Trie) (state : ℕ) → state ≡ 0 → IsParent trie state 0
parent-root trie state none = record {
  within = λ words deep is h. omega arith;
  longer = λ words deep is h. omega (arith, ap (λ s. length (word_at words s)) none, ap length is.root);
  root = λ e. omega arith;
}

pub parent-step : (trie : Trie) (state up : ℕ) → (state ≡ 0 → ⊥) → up ≡ (step_at trie.steps.items (state - 1)).up → IsParent trie state up
parent-step trie state up some known =
    let e : state - 1 + 1 ≡ state = omega arith in
    record {
      within = λ words deep is h. omega (arith, known, is.ups (state - 1) (omega (arith, is.count)));
      longer = λ words deep is h. omega (arith, ap (λ s. length (word_at words s)) known, ap (λ s. length (word_at words s)) e, ap length (is.told (state - 1) (omega (arith, is.count))));
      root = λ none. absurd (some none);
    }

pub shallow-none : (trie : Trie) → AreShallow trie (0 + 1)
shallow-none trie = record {
  short = λ words deep is state low h. let e : state ≡ 0 = omega arith in omega (arith, ap (λ s. length (word_at words s)) e, ap length is.root);
}

pub shallow-more : (trie : Trie) (count one two three : ℕ)
    → AreShallow trie (count + 1)
    → IsParent trie (count + 1) one
    → IsParent trie one two
    → IsParent trie two three
    → three ≡ 0
    → AreShallow trie (count + 1 + 1)
shallow-more trie count one two three were first second third none = record {
  short = λ words deep is state low h. ⊎_elim
      (λ before. were.short words deep is state before h)
      (λ last.
      let e : state ≡ count + 1 = omega arith in
      let k : count + 1 < length words = omega (arith, e) in
      let k1 = first.within words deep is k in
      let k2 = second.within words deep is k1 in
      omega (
        arith,
        ap (λ s. length (word_at words s)) e,
        first.longer words deep is k,
        second.longer words deep is k1,
        third.longer words deep is k2,
        ap (λ s. length (word_at words s)) none,
        ap length is.root,
      ))
      (cases_lt state (count + 1));
}

pub shallow-less : (trie : Trie) (count less : ℕ) → AreShallow trie count → less ≤ count → AreShallow trie less
shallow-less trie count less were h = record { short = λ words deep is state low k. were.short words deep is state (omega arith) k }

pub shallow-place : (trie : Trie) (dense count bound : ℕ) → AreShallow trie count → bound ≤ place_of trie.width dense count → IsShallow trie dense bound
shallow-place trie dense count bound were h = record {
  short = λ words deep is fits state k low. were.short words deep is state (before deep words fits state low) k;
}
  where
    before : {A : Type 0} (deep : ℕ) (words : A) → dense * trie.width ≤ sparse → (state : ℕ) → place_of trie.width dense state < bound → state < count
    before deep words fits state low = ⊎_elim
        (λ less. less)
        (λ more. absurd (⊎_elim
        (λ own. omega (arith, low, h, place-row trie.width dense state own, place-row trie.width dense count (omega arith), times count state trie.width more))
        (λ own. ⊎_elim
        (λ other. omega (arith, low, h, place-sparse trie.width dense state own, place-row trie.width dense count other, fits, times count dense trie.width (omega arith)))
        (λ other. omega (arith, low, h, place-sparse trie.width dense state own, place-sparse trie.width dense count other))
        (cases_lt count dense))
        (cases_lt state dense)))
        (cases_lt state count)
      where
        times : (a b w : ℕ) → a ≤ b → a * w ≤ b * w
        times a b w k = mul-le-mul_right w k
