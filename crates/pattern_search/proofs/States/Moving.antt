-- Moves: back along the fails, and on by a letter.
use Rattle.std.proofs.Common.{◌≡◌, ℕ, ◌+◌, ◌-◌, ◌<◌, min, List, [], ◌∷◌, length, slice_index, sym, refl, ap, subst, ◌∙◌, arith, ⊎_elim}
use Rattle.std.proofs.lemmas.Bool.{cases_eq, cases_lt}
use Rattle.pattern_search.specs.declared.trie.TrieState.{TrieState}
use Rattle.pattern_search.specs.declared.trie.Trie.{Trie}
use Rattle.pattern_search.specs.declared.moves.Reached.{Reached}
use Rattle.pattern_search.specs.Words.{begins, word_at, step_at, IsAt, IsFail, IsTrieOf, FindsChild}
use Rattle.pattern_search.specs.Moves.{IsMove, IsBack, IsReached, Reaches, IsReaching, Moves, FailsTo}
use Rattle.pattern_search.proofs.States.Words.{fail-step, root-step, fail-child, fail-first}
use Rattle.pattern_search.proofs.States.Linking.{trie-closed}

pub reaching-none : (trie : Trie) (fails : List ℕ) (state letter : ℕ) → IsReaching trie fails state letter state
reaching-none trie fails state letter = record { back = λ words deep done is failing few h. record { within = omega arith; same = λ other k. refl } }

pub reaching-more : (trie : Trie) (fails : List ℕ) (state letter at child next : ℕ)
    → 0 < at
    → IsReaching trie fails state letter at
    → FindsChild trie at letter child
    → child ≡ 0
    → next ≡ min (slice_index fails at) (at - 1)
    → IsReaching trie fails state letter next
reaching-more trie fails state letter at child next some was finds none known = record {
  back = λ words deep done is failing few h.
      let before = was.back words deep done is failing few h in
      let lower = failing.lower at some (omega (arith, before.within)) in
      let next_is : next ≡ slice_index fails at = omega (arith, known, lower) in
      let P : ℕ → Type 0 = λ n. IsBack words state letter n in
      let found = finds.found words deep is (omega (arith, before.within)) in
      let word = word_at words at in
      let fail = word_at words (slice_index fails at) in
      let here : IsAt words (letter ∷ fail) (letter ∷ fail) = λ other k. refl in
      let more : IsAt words (letter ∷ word) (letter ∷ fail) =
      fail-step words (trie-closed words trie deep is) word fail (letter ∷ fail) letter
      (failing.failing at some (omega (arith, before.within)))
      (found.lacks none) here in
      subst P (sym next_is) (record {
        within = omega (arith, lower, before.within);
        same = λ other k. before.same other k ∙ more other k;
      });
}

pub reached-some : (trie : Trie) (fails : List ℕ) (below state letter at child : ℕ)
    → IsReaching trie fails state letter at
    → FindsChild trie at letter child
    → (child ≡ 0 → ⊥)
    → Reaches trie fails below state letter (record { state = at; child = child })
reached-some trie fails below state letter at child was finds some = record {
  comes = λ words deep done is failing few h.
      let before = was.back words deep done is failing few h in
      let found = finds.found words deep is (omega (arith, before.within)) in
      record {
        back = before;
        none = λ low none. absurd (some none);
        some = λ more. (found.within, found.grown more);
      };
}

pub reached-none : (trie : Trie) (fails : List ℕ) (below state letter at : ℕ)
    → IsReaching trie fails state letter at
    → (0 < below → at < below)
    → Reaches trie fails below state letter (record { state = at; child = 0 })
reached-none trie fails below state letter at was low = record {
  comes = λ words deep done is failing few h. record {
    back = was.back words deep done is failing few h;
    none = λ some none. low some;
    some = λ more. absurd (omega arith);
  };
}

-- a state that was reached, and one letter on from it
pub reached-move : (words : List (List ℕ)) (below state letter : ℕ) (reached : Reached) → IsReached words below state letter reached → 0 < reached.child → IsMove words state letter reached.child
reached-move words below state letter reached is some =
    let child = is.some some in
    record {
      within = child.0;
      at = λ other k. is.back.same other k ∙ ap (begins (word_at words other)) (sym child.1);
    }

pub root-move : (words : List (List ℕ)) (trie : Trie) (deep letter child : ℕ) → IsTrieOf words trie deep → FindsChild trie 0 letter child → IsMove words 0 letter child
root-move words trie deep letter child is finds =
    let some : 0 < length words = omega (arith, is.count) in
    let found = finds.found words deep is some in
    ⊎_elim
    (λ none.
    let P : List ℕ → Type 0 = λ w. IsAt words (letter ∷ w) (word_at words child) in
    let Q : List ℕ → Type 0 = λ w. IsAt words (letter ∷ []) w in
    let empty : word_at words child ≡ [] = ap (word_at words) none ∙ is.root in
    record {
      within = found.within;
      at = subst P (sym is.root) (subst Q (sym empty) (root-step words (trie-closed words trie deep is) letter (λ other k e. found.lacks none other k (e ∙ ap (λ w. letter ∷ w) (sym is.root)))));
    })
    (λ ne. record {
      within = found.within;
      at = λ other k. ap (begins (word_at words other)) (sym (found.grown (omega arith)));
    })
    (cases_eq child 0)

pub back-move : (words : List (List ℕ)) (state letter at next : ℕ) → IsBack words state letter at → IsMove words at letter next → IsMove words state letter next
back-move words state letter at next back move = record { within = move.within; at = λ other k. back.same other k ∙ move.at other k }

pub moves-child : (trie : Trie) (fails : List ℕ) (state letter : ℕ) (reached : Reached)
    → Reaches trie fails 1 state letter reached
    → (reached.child ≡ 0 → ⊥)
    → Moves trie fails state letter reached.child
moves-child trie fails state letter reached is some = record {
  moved = λ words deep done trie_is failing few h. reached-move words 1 state letter reached (is.comes words deep done trie_is failing few h) (omega arith);
}

pub moves-root : (trie : Trie) (fails : List ℕ) (state letter : ℕ) (reached : Reached) (child : ℕ)
    → Reaches trie fails 1 state letter reached
    → reached.child ≡ 0
    → FindsChild trie 0 letter child
    → Moves trie fails state letter child
moves-root trie fails state letter reached child is none finds = record {
  moved = λ words deep done trie_is failing few h.
      let comes = is.comes words deep done trie_is failing few h in
      let low = comes.none (omega arith) none in
      let root : reached.state ≡ 0 = omega arith in
      let P : ℕ → Type 0 = λ s. IsBack words state letter s in
      back-move words state letter 0 child (subst P root comes.back) (root-move words trie deep letter child trie_is finds);
}

-- where a state fails to
pub fails-root : (trie : Trie) (fails : List ℕ) (state : ℕ) → state ≡ 0 → FailsTo trie fails state 0
fails-root trie fails state e = record { root = λ z. refl; is = λ words deep trie_is failing h some. absurd (omega arith) }

word-is : (words : List (List ℕ)) (trie : Trie) (deep state : ℕ)
    → IsTrieOf words trie deep
    → 0 < state
    → state < length words
    → word_at words state ≡ (step_at trie.steps.items (state - 1)).by ∷ word_at words (step_at trie.steps.items (state - 1)).up
word-is words trie deep state is some h = let e : state ≡ state - 1 + 1 = omega arith in ap (word_at words) e ∙ is.told (state - 1) (omega (arith, is.count))

pub fails-first : (trie : Trie) (fails : List ℕ) (state : ℕ) → (state ≡ 0 → ⊥) → (step_at trie.steps.items (state - 1)).up ≡ 0 → FailsTo trie fails state 0
fails-first trie fails state ne up_is = record {
  root = λ z. refl;
  is = λ words deep is failing h some.
      let up = (step_at trie.steps.items (state - 1)).up in
      let by = (step_at trie.steps.items (state - 1)).by in
      let P : List ℕ → Type 0 = λ w. IsFail words w (word_at words 0) in
      let Q : List ℕ → Type 0 = λ w. IsFail words (by ∷ w) (word_at words 0) in
      let R : List ℕ → Type 0 = λ w. IsFail words (by ∷ []) w in
      let empty : word_at words up ≡ [] = ap (word_at words) up_is ∙ is.root in
      (omega arith, subst P (sym (word-is words trie deep state is some h)) (subst Q (sym empty) (subst R (sym is.root) (fail-first words by))));
}

pub fails-move : (trie : Trie) (fails : List ℕ) (state shallow next : ℕ)
    → (state ≡ 0 → ⊥)
    → ((step_at trie.steps.items (state - 1)).up ≡ 0 → ⊥)
    → shallow ≡ slice_index fails (step_at trie.steps.items (state - 1)).up
    → Moves trie fails shallow (step_at trie.steps.items (state - 1)).by next
    → FailsTo trie fails state next
fails-move trie fails state shallow next ne other known moves = record {
  root = λ z. absurd (ne z);
  is = λ words deep is failing h some.
      let up = (step_at trie.steps.items (state - 1)).up in
      let by = (step_at trie.steps.items (state - 1)).by in
      let low : up < state = omega (arith, is.ups (state - 1) (omega (arith, is.count))) in
      let up_some : 0 < up = omega arith in
      let lower = failing.lower up up_some low in
      let move = moves.moved words deep state is failing (omega arith) (omega (arith, known, lower)) in
      let P : List ℕ → Type 0 = λ w. IsFail words w (word_at words next) in
      let Q : ℕ → Type 0 = λ s. IsFail words (word_at words up) (word_at words s) in
      let whole =
      subst P (sym (word-is words trie deep state is some h))
      (fail-child words (trie-closed words trie deep is) (word_at words up) (word_at words shallow) by next
      (subst Q (sym known) (failing.failing up up_some low))
      move.within move.at) in (
        ⊎_elim (λ below. below) (λ above. omega (arith, is.levels state next above move.within, whole.shorter))
            (cases_lt next state),
        whole,
      );
}

-- where a state fails to whose step is this one
pub fails-first-by : (trie : Trie) (fails : List ℕ) (state : ℕ) (step : TrieState) → step ≡ step_at trie.steps.items (state - 1) → (state ≡ 0 → ⊥) → step.up ≡ 0 → FailsTo trie fails state 0
fails-first-by trie fails state step known ne up = fails-first trie fails state ne (ap (λ (s : TrieState). s.up) (sym known) ∙ up)

pub fails-move-by : (trie : Trie) (fails : List ℕ) (state shallow next : ℕ) (step : TrieState)
    → step ≡ step_at trie.steps.items (state - 1)
    → (state ≡ 0 → ⊥)
    → (step.up ≡ 0 → ⊥)
    → shallow ≡ slice_index fails step.up
    → Moves trie fails shallow step.by next
    → FailsTo trie fails state next
fails-move-by trie fails state shallow next step known ne =
    let P : TrieState → Type 0 = λ s. (s.up ≡ 0 → ⊥) → shallow ≡ slice_index fails s.up → Moves trie fails shallow s.by next → FailsTo trie fails state next in
    subst P (sym known) (fails-move trie fails state shallow next ne)
