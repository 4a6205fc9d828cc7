-- The states whose word is another's with a letter after it, one by one.
use Rattle.std.proofs.Common.{◌≡◌, ℕ, ◌+◌, ◌-◌, ◌<◌, ◌≤◌, inl, inr, min, List, ◌∷◌, length, replicate, set, slice_index, sym, ap, subst, ◌∙◌, arith, ⊎_elim}
use Rattle.std.proofs.lemmas.Bool.{cases_eq}
use Rattle.std.proofs.lemmas.List.{length-set, get_or-set_same, get_or-set_other, length-replicate, get_or-replicate}
use Rattle.pattern_search.specs.declared.trie.Trie.{Trie}
use Rattle.pattern_search.specs.Words.{word_at, step_at, IsSought, IsSeeking, FindsChild, AreChildren, IsFilling}

pub seek-start : (trie : Trie) (state letter at : ℕ) → at ≡ slice_index trie.firsts.items state → IsSeeking trie state letter at
seek-start trie state letter at e = record {
  sought = λ words deep is h.
      let P : ℕ → Type 0 = λ a. IsSought trie.steps.items state letter a in
      let first = is.first state h in
      subst P (sym e) (record { within = first.within; own = first.own; rest = λ number k up by. first.greatest number k up });
}

pub seek-more : (trie : Trie) (state letter at next : ℕ)
    → 0 < at
    → IsSeeking trie state letter at
    → ((step_at trie.steps.items (at - 1)).by ≡ letter → ⊥)
    → next ≡ min (step_at trie.steps.items (at - 1)).same (at - 1)
    → IsSeeking trie state letter next
seek-more trie state letter at next some is other known = record {
  sought = λ words deep trie_is h.
      let was = is.sought words deep trie_is h in
      let own = was.own some in
      let same = trie_is.same (at - 1) (omega (arith, was.within)) in
      let next_is : next ≡ (step_at trie.steps.items (at - 1)).same = omega (arith, known, same.within) in
      let P : ℕ → Type 0 = λ a. IsSought trie.steps.items state letter a in
      subst P (sym next_is) (record {
        within = omega (arith, same.within, was.within);
        own = λ more. same.own more ∙ own;
        rest = λ number k up by. ⊎_elim
            (λ e. absurd (other (ap (λ (n : ℕ). (step_at trie.steps.items n).by) (sym e) ∙ by)))
            (λ ne. same.greatest number (omega (arith, was.rest number k up by)) (up ∙ sym own))
            (cases_eq number (at - 1));
      });
}

pub seek-found : (trie : Trie) (state letter at : ℕ) → 0 < at → IsSeeking trie state letter at → (step_at trie.steps.items (at - 1)).by ≡ letter → FindsChild trie state letter at
seek-found trie state letter at some is here = record {
  found = λ words deep trie_is h.
      let was = is.sought words deep trie_is h in
      let k : at - 1 < length trie.steps.items = omega (arith, was.within) in
      let e : at ≡ at - 1 + 1 = omega arith in
      record {
        lacks = λ none. absurd (omega arith);
        within = omega (arith, was.within, trie_is.count);
        grown = λ more.
            ap (word_at words) e
            ∙ trie_is.told (at - 1) k
            ∙ ap (λ (b : ℕ). b ∷ word_at words (step_at trie.steps.items (at - 1)).up) here
            ∙ ap (λ (u : ℕ). letter ∷ word_at words u) (was.own some);
      };
}

-- what a letter and a word are
first-letter : (a b : ℕ) (one other : List ℕ) → a ∷ one ≡ b ∷ other → a ≡ b
first-letter a b one other e = cc

earlier-word : (a b : ℕ) (one other : List ℕ) → a ∷ one ≡ b ∷ other → one ≡ other
earlier-word a b one other e = cc

pub seek-end : (trie : Trie) (state letter at : ℕ) → IsSeeking trie state letter at → at ≡ 0 → FindsChild trie state letter 0
seek-end trie state letter at is end = record {
  found = λ words deep trie_is h.
      let was = is.sought words deep trie_is h in
      record {
        lacks = λ none other k e. ⊎_elim
            (λ root. omega (arith, ap length (sym e ∙ ap (word_at words) root ∙ trie_is.root)))
            (λ ne.
            let number = other - 1 in
            let j : other - 1 < length trie.steps.items = omega (arith, trie_is.count) in
            let step = step_at trie.steps.items (other - 1) in
            let back : other ≡ other - 1 + 1 = omega arith in
            let both : step.by ∷ word_at words step.up ≡ letter ∷ word_at words state =
            sym (trie_is.told (other - 1) j) ∙ ap (word_at words) (sym back) ∙ e in
            let up : step.up ≡ state =
            trie_is.apart step.up state (omega (arith, trie_is.ups (other - 1) j, trie_is.count)) h
            (earlier-word step.by letter (word_at words step.up) (word_at words state) both) in
            omega (
              arith,
              was.rest (other - 1) j up (first-letter step.by letter (word_at words step.up) (word_at words state) both),
            ))
            (cases_eq other 0);
        within = omega (arith, trie_is.count);
        grown = λ more. absurd (omega arith);
      };
}

-- all children of a state, by their letters
pub filling-start : (trie : Trie) (state at : ℕ) (children : List ℕ) → at ≡ slice_index trie.firsts.items state → children ≡ replicate trie.width 0 → IsFilling trie state at children
filling-start trie state at children e zeros = record {
  count = ap length zeros ∙ length-replicate {A = ℕ} trie.width 0;
  own = λ words deep is h.
      let first = is.first state h in
      let P : ℕ → Type 0 = λ a. (a ≤ length trie.steps.items) × (0 < a → (step_at trie.steps.items (a - 1)).up ≡ state) in
      subst P (sym e) (first.within, first.own);
  each = λ letter h. inl (ap (λ (c : List ℕ). slice_index c letter) zeros ∙ get_or-replicate {A = ℕ} trie.width letter 0 0 h, seek-start trie state letter at e);
}

pub filling-more : (trie : Trie) (state at next : ℕ) (children news : List ℕ) → 0 < at → IsFilling trie state at children
    → next ≡ min (step_at trie.steps.items (at - 1)).same (at - 1)
    → news ≡ set children (step_at trie.steps.items (at - 1)).by at → IsFilling trie state next news
filling-more trie state at next children news some is known e = record {
  count = ap length e ∙ length-set children by at ∙ is.count;
  own = λ words deep trie_is h.
      let was = is.own words deep trie_is h in
      let same = trie_is.same (at - 1) (omega (arith, was.0)) in
      let next_is : next ≡ (step_at trie.steps.items (at - 1)).same = omega (arith, known, same.within) in
      let P : ℕ → Type 0 = λ a. (a ≤ length trie.steps.items) × (0 < a → (step_at trie.steps.items (a - 1)).up ≡ state) in
      subst P (sym next_is) (omega (arith, same.within, was.0), λ more. same.own more ∙ was.1 some);
  each = λ letter h. ⊎_elim
      (λ here. inr (let P : ℕ → Type 0 = λ c. FindsChild trie state letter c in subst P (sym (written letter h here)) (child letter (sym here))))
      (λ ne.
      let kept = ap (λ (c : List ℕ). slice_index c letter) e ∙ get_or-set_other children by letter at 0 ne in
      ⊎_elim
      (λ left. inl (kept ∙ left.0, seek-more trie state letter at next some left.1 (λ same. ne (sym same)) known))
      (λ right. inr (let P : ℕ → Type 0 = λ c. FindsChild trie state letter c in subst P (sym kept) right))
      (is.each letter h))
      (cases_eq letter by);
}
  where
    by : ℕ
    by = (step_at trie.steps.items (at - 1)).by

    written : (letter : ℕ) → letter < trie.width → letter ≡ (step_at trie.steps.items (at - 1)).by → slice_index news letter ≡ at
    written letter h here =
        let P : ℕ → Type 0 = λ l. slice_index (set children l at) letter ≡ at in
        ap (λ (c : List ℕ). slice_index c letter) e ∙ subst P here (get_or-set_same children letter at 0 (omega (arith, is.count)))

    child : (letter : ℕ) → (step_at trie.steps.items (at - 1)).by ≡ letter → FindsChild trie state letter at
    child letter here = record {
      found = λ words deep trie_is h.
          let was = is.own words deep trie_is h in
          let k : at - 1 < length trie.steps.items = omega (arith, was.0) in
          let back : at ≡ at - 1 + 1 = omega arith in
          record {
            lacks = λ none. absurd (omega arith);
            within = omega (arith, was.0, trie_is.count);
            grown = λ more. ap (word_at words) back ∙ trie_is.told (at - 1) k
                ∙ ap (λ (b : ℕ). b ∷ word_at words (step_at trie.steps.items (at - 1)).up) here
                ∙ ap (λ (u : ℕ). letter ∷ word_at words u) (was.1 some);
          };
    }

pub filling-end : (trie : Trie) (state at : ℕ) (children : List ℕ) → IsFilling trie state at children → at ≡ 0 → AreChildren trie state children
filling-end trie state at children is end = record {
  count = is.count;
  each = λ letter h. ⊎_elim
      (λ left. let P : ℕ → Type 0 = λ c. FindsChild trie state letter c in subst P (sym left.0) (seek-end trie state letter at left.1 end))
      (λ right. right)
      (is.each letter h);
}
