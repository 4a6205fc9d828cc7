-- Rows and moves to all states, one at a time.
use Rattle.std.proofs.Common.{◌≡◌, ℕ, ◌+◌, ◌*◌, ◌<◌, List, [], ◌∷◌, ◌++◌, length, slice_index, sym, refl, ap, subst, ◌∙◌, arith, ⊎_elim}
use Rattle.std.proofs.lemmas.List.{get_or_append_left, get_or_push, length_push}
use Rattle.std.proofs.lemmas.Nat.{same_from_place, row_fits}
use Rattle.std.proofs.lemmas.Bool.{cases_lt, cases_eq}
use Rattle.pattern_search.specs.declared.trie.Trie.{Trie}
use Rattle.pattern_search.specs.Words.{begins, word_at, FindsChild}
use Rattle.pattern_search.specs.Rows.{entry_of, AreEntries, HasEntry, IsNextEntry, HasRows}
use Rattle.pattern_search.proofs.States.Words.{fail-step}
use Rattle.pattern_search.proofs.States.Linking.{trie-closed}
use Rattle.pattern_search.proofs.States.Moving.{root-move}

-- the moves to all states
pub entries-none : (width dense : ℕ) (heads : List ℕ) → AreEntries width dense heads [] 0
entries-none width dense heads = record { count = refl; each = λ state h. absurd (omega arith) }

pub entries-more : (width dense : ℕ) (heads entries : List ℕ) (state entry : ℕ)
    → AreEntries width dense heads entries state
    → entry ≡ entry_of width dense heads state
    → AreEntries width dense heads (entries ++ entry ∷ []) (state + 1)
entries-more width dense heads entries state entry are is = record {
  count = length_push entries entry ∙ ap (λ n. n + 1) are.count;
  each = λ other h. ⊎_elim
      (λ e. let P : ℕ → Type 0 = λ o. slice_index (entries ++ entry ∷ []) o ≡ entry_of width dense heads o in subst P (sym e) (get_or_push entries entry 0 state are.count ∙ is))
      (λ ne. get_or_append_left entries (entry ∷ []) 0 other (omega (arith, are.count)) ∙ are.each other (omega arith))
      (cases_eq other state);
}

-- the next move of a table
pub entry-child : (trie : Trie) (fails entries table : List ℕ) (state letter child entry : ℕ)
    → FindsChild trie state letter child
    → (child ≡ 0 → ⊥)
    → entry ≡ slice_index entries child
    → IsNextEntry trie fails entries table state letter entry
entry-child trie fails entries table state letter child entry finds some known = record {
  holds = λ words deep is failing h k long rows.
      let found = finds.found words deep is h in
      record { next = child; within = found.within; at = λ other j. ap (begins (word_at words other)) (sym (found.grown (omega arith))); is = known };
}

pub entry-root : (trie : Trie) (fails entries table : List ℕ) (state letter child entry : ℕ)
    → FindsChild trie state letter child
    → child ≡ 0
    → state ≡ 0
    → entry ≡ slice_index entries 0
    → IsNextEntry trie fails entries table state letter entry
entry-root trie fails entries table state letter child entry finds none root known = record {
  holds = λ words deep is failing h k long rows.
      let P : ℕ → Type 0 = λ s. FindsChild trie s letter child in
      let Q : ℕ → Type 0 = λ s. HasEntry words entries s letter entry in
      let move = root-move words trie deep letter child is (subst P root finds) in
      subst Q (sym root) (record { next = child; within = move.within; at = move.at; is = known ∙ ap (slice_index entries) (sym none) });
}

pub entry-back : (trie : Trie) (fails entries table : List ℕ) (state letter child entry : ℕ)
    → FindsChild trie state letter child
    → child ≡ 0
    → (state ≡ 0 → ⊥)
    → entry ≡ slice_index table (slice_index fails state * trie.width + letter)
    → IsNextEntry trie fails entries table state letter entry
entry-back trie fails entries table state letter child entry finds none other known = record {
  holds = λ words deep is failing h k long rows.
      let fail = slice_index fails state in
      let some : 0 < state = omega arith in
      let lower = failing.lower state some h in
      let bound : fail * trie.width + letter < length table =
      omega (arith, long, row_fits fail trie.width state trie.width lower (omega arith)) in
      let has = rows.each fail letter (omega (arith, lower)) k bound in
      record {
        next = has.next;
        within = has.within;
        at =
            fail-step words (trie-closed words trie deep is) (word_at words state) (word_at words fail) (word_at words has.next)
            letter (failing.failing state some h) ((finds.found words deep is h).lacks none)
            has.at;
        is = known ∙ has.is;
      };
}

-- rows
pub rows-none : (trie : Trie) (fails entries : List ℕ) → HasRows trie fails entries 0 0 []
rows-none trie fails entries = record {
  long = omega arith;
  rows = λ words deep is failing h some. record { each = λ state letter j k below. absurd (omega arith) };
}

pub rows-more : (trie : Trie) (fails entries : List ℕ) (state letter : ℕ) (table : List ℕ) (entry : ℕ)
    → HasRows trie fails entries state letter table
    → letter < trie.width
    → IsNextEntry trie fails entries table state letter entry
    → HasRows trie fails entries state (letter + 1) (table ++ entry ∷ [])
rows-more trie fails entries state letter table entry was wide next = record {
  long = omega (arith, length_push table entry, was.long);
  rows = λ words deep is failing h some.
      let within = some (omega arith) in
      let before = was.rows words deep is failing h (λ more. within) in
      let here : HasEntry words entries state letter entry = next.holds words deep is failing within wide was.long before in
      record {
        each = λ other column j k below. ⊎_elim
            (λ old.
            let P : ℕ → Type 0 = λ e. HasEntry words entries other column e in
            subst P (sym (get_or_append_left table (entry ∷ []) 0 (other * trie.width + column) old)) (before.each other column j k old))
            (λ new.
            let e : other * trie.width + column ≡ state * trie.width + letter = omega (arith, length_push table entry, was.long) in
            let both = same_from_place other column state letter trie.width k wide e in
            let P : ℕ → Type 0 = λ x. HasEntry words entries other column x in
            let Q : ℕ → Type 0 = λ s. HasEntry words entries s column entry in
            let R : ℕ → Type 0 = λ l. HasEntry words entries state l entry in
            subst P (sym (get_or_push table entry 0 (other * trie.width + column) (was.long ∙ sym e))) (subst Q (sym both.0) (subst R (sym both.1) here)))
            (cases_lt (other * trie.width + column) (length table));
      };
}

pub row-done : (trie : Trie) (fails entries : List ℕ) (state letter : ℕ) (table : List ℕ)
    → letter ≡ trie.width
    → HasRows trie fails entries state letter table
    → HasRows trie fails entries (state + 1) 0 table
row-done trie fails entries state letter table all was = record {
  long = was.long ∙ ap (λ l. state * trie.width + l) all ∙ more state trie.width;
  rows = λ words deep is failing h some. was.rows words deep is failing (omega arith) (λ more. omega arith);
}
  where
    more : (s w : ℕ) → s * w + w ≡ (s + 1) * w + 0
    more s w = omega arith
