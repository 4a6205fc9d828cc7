-- A trie that grows by a state.
use Rattle.std.proofs.Common.{◌≡◌, ℕ, zero, suc, ◌+◌, ◌-◌, ◌<◌, ◌≤◌, List, [], ◌∷◌, ◌++◌, length, set, slice_index, sym, refl, ap}
use Rattle.std.proofs.Common.{subst, ◌∙◌, arith, ⊎_elim, length-set, get_or-set_same, get_or-set_other}
use Rattle.std.proofs.lemmas.List.{get_or_append_left, get_or_push, length_push}
use Rattle.std.proofs.lemmas.Bool.{cases_lt, cases_eq}
use Rattle.pattern_search.specs.declared.trie.TrieState.{TrieState}
use Rattle.pattern_search.specs.declared.trie.Trie.{Trie}
use Rattle.pattern_search.specs.Words.{word_at, words_from, words_of, step_at, IsLastChild, IsTrieOf, IsTrie, HasChild, FindsChild}

pub words-push : (words : List (List ℕ)) (steps : List TrieState) (step : TrieState)
    → words_from words (steps ++ step ∷ []) ≡ words_from words steps ++ (step.by ∷ word_at (words_from words steps) step.up) ∷ []
unfolding words_from
words-push words [] step = refl
words-push words (first ∷ steps) step = words-push (words ++ (first.by ∷ word_at words first.up) ∷ []) steps step

pub words-none : words_of [] ≡ [] ∷ []
unfolding words_from
words-none = refl

-- the empty word alone
pub empty-trie : (trie : Trie) → trie.steps.items ≡ [] → trie.firsts.items ≡ 0 ∷ [] → IsTrieOf ([] ∷ []) trie 0
empty-trie trie steps firsts = record {
  count = omega (arith, ap length steps);
  first_count = ap length firsts;
  root = refl;
  steps = λ state h within. absurd (omega arith);
  told = λ number h. absurd (omega (arith, ap length steps));
  ups = λ number h. absurd (omega (arith, ap length steps));
  bys = λ number h. absurd (omega (arith, ap length steps));
  first = λ state h.
      let P : ℕ → Type 0 = λ c. IsLastChild trie.steps.items (length trie.steps.items) state c in
      let zero_first : slice_index trie.firsts.items state ≡ 0 = ap (λ (c : List ℕ). slice_index c state) firsts ∙ first-zero state h in
      subst P (sym zero_first) (record { within = omega arith; own = λ some. absurd (omega arith); greatest = λ number k up. absurd (omega (arith, ap length steps)) });
  same = λ number h. absurd (omega (arith, ap length steps));
  apart = λ one other h k e. omega arith;
  levels = λ one other h k. omega (arith, only one (omega arith), only other k);
  deepest = λ state h. omega (arith, only state h);
  few = omega (arith, ap length steps);
}
  where
    only : (state : ℕ) → state < 1 → length (word_at ([] ∷ []) state) ≡ 0
    only zero h = refl
    only (suc state) h = absurd (omega arith)

    first-zero : (state : ℕ) → state < 1 → slice_index (0 ∷ []) state ≡ 0
    first-zero zero h = refl
    first-zero (suc state) h = absurd (omega arith)

-- a state more
module _ (words : List (List ℕ)) (old new : Trie) (deep state letter : ℕ) (is : IsTrieOf words old deep)
    (here : state < length words)
    (wide : letter < old.width)
    (lacks : (other : ℕ) → other < length words → word_at words other ≡ letter ∷ word_at words state → ⊥)
    (long : length (word_at words state) + 1 ≡ deep)
    (steps : new.steps.items ≡
    old.steps.items ++ record { up = state; by = letter; same = slice_index old.firsts.items state } ∷ [])
    (width : new.width ≡ old.width)
    (firsts : new.firsts.items ≡ set (old.firsts.items ++ 0 ∷ []) state (length words))
    (few : length new.steps.items < 1073741824) where
  abbrev added : TrieState
  added = record { up = state; by = letter; same = slice_index old.firsts.items state }

  abbrev more : List (List ℕ)
  more = words ++ (letter ∷ word_at words state) ∷ []

  more-length : length more ≡ length words + 1
  more-length = length_push words (letter ∷ word_at words state)

  more-kept : (other : ℕ) → other < length words → word_at more other ≡ word_at words other
  more-kept other h = get_or_append_left words ((letter ∷ word_at words state) ∷ []) [] other h

  more-last : word_at more (length words) ≡ letter ∷ word_at words state
  more-last = get_or_push words (letter ∷ word_at words state) [] (length words) refl

  -- each state is an old one or the new one
  each : (P : ℕ → Type 0) → ((other : ℕ) → other < length words → P other) → P (length words) → (other : ℕ) → other < length more → P other
  each P old_ones new_one other h =
      ⊎_elim (λ k. old_ones other k) (λ k. let e : length words ≡ other = omega (arith, more-length) in subst P e new_one) (cases_lt other (length words))

  none-before : (other : ℕ) → other < length words → word_at words other ≡ letter ∷ word_at words state → ⊥
  none-before other h e = lacks other h e

  more-steps : (other : ℕ) → 0 < other → other < length more → (up : ℕ) × (by : ℕ) × (up < other) × (by < new.width) × (word_at more other ≡ by ∷ word_at more up)
  more-steps other some h =
      ⊎_elim
      (λ k.
      let step = is.steps other some k in
      (step.0, step.1, step.2, omega (arith, step.3), more-kept other k ∙ step.4 ∙ ap (λ w. step.1 ∷ w) (sym (more-kept step.0 (omega (arith, step.2))))))
      (λ k.
      let e : other ≡ length words = omega (arith, more-length) in
      (state, letter, omega arith, omega arith, ap (word_at more) e ∙ more-last ∙ ap (λ w. letter ∷ w) (sym (more-kept state here))))
      (cases_lt other (length words))

  more-apart : (one other : ℕ) → one < length more → other < length more → word_at more one ≡ word_at more other → one ≡ other
  more-apart one other h k e =
      ⊎_elim
      (λ one_old. ⊎_elim
      (λ other_old. is.apart one other one_old other_old (sym (more-kept one one_old) ∙ e ∙ more-kept other other_old))
      (λ other_new. let last : other ≡ length words = omega (arith, more-length) in absurd (none-before one one_old (sym (more-kept one one_old) ∙ e ∙ ap (word_at more) last ∙ more-last)))
      (cases_lt other (length words)))
      (λ one_new. ⊎_elim
      (λ other_old. let last : one ≡ length words = omega (arith, more-length) in absurd (none-before other other_old (sym (more-kept other other_old) ∙ sym e ∙ ap (word_at more) last ∙ more-last)))
      (λ other_new. omega (arith, more-length))
      (cases_lt other (length words)))
      (cases_lt one (length words))

  more-deepest : (other : ℕ) → other < length more → length (word_at more other) ≤ deep
  more-deepest other h =
      ⊎_elim
      (λ k. omega (arith, is.deepest other k, ap length (more-kept other k)))
      (λ k. let last : other ≡ length words = omega (arith, more-length) in omega (arith, ap (λ o. length (word_at more o)) last, ap length more-last))
      (cases_lt other (length words))

  more-levels : (one other : ℕ) → one ≤ other → other < length more → length (word_at more one) ≤ length (word_at more other)
  more-levels one other le h =
      ⊎_elim
      (λ k. omega (arith, is.levels one other le k, ap length (more-kept one (omega arith)), ap length (more-kept other k)))
      (λ k. let last : other ≡ length words = omega (arith, more-length) in omega (arith, ap (λ o. length (word_at more o)) last, ap length more-last, more-deepest one (omega arith)))
      (cases_lt other (length words))

  last : (number : ℕ) → length old.steps.items ≤ number → number < length new.steps.items → number ≡ length old.steps.items
  last number h k = omega (arith, ap length steps, length_push old.steps.items added)

  step-kept : (number : ℕ) → number < length old.steps.items → step_at new.steps.items number ≡ step_at old.steps.items number
  step-kept number h = ap (λ (ss : List TrieState). step_at ss number) steps ∙ get_or_append_left old.steps.items (added ∷ []) (record { up = 0; by = 0; same = 0 }) number h

  step-last : (number : ℕ) → number ≡ length old.steps.items → step_at new.steps.items number ≡ record { up = state; by = letter; same = slice_index old.firsts.items state }
  step-last number e = ap (λ (ss : List TrieState). step_at ss number) steps ∙ get_or_push old.steps.items added (record { up = 0; by = 0; same = 0 }) number (sym e)

  -- the last child up to a number that there was stays
  last-kept : (upto other child : ℕ) → upto ≤ length old.steps.items → IsLastChild old.steps.items upto other child → IsLastChild new.steps.items upto other child
  last-kept upto other child h was = record {
    within = was.within;
    own = λ some. ap (λ (s : TrieState). s.up) (step-kept (child - 1) (omega (arith, was.within))) ∙ was.own some;
    greatest = λ number k up. was.greatest number k (sym (ap (λ (s : TrieState). s.up) (step-kept number (omega arith))) ∙ up);
  }

  -- the last child of another state, up to the new one, stays
  last-other : (other child : ℕ) → (other ≡ state → ⊥) → IsLastChild old.steps.items (length old.steps.items) other child → IsLastChild new.steps.items (length new.steps.items) other child
  last-other other child ne was =
      let kept = last-kept (length old.steps.items) other child (omega arith) was in
      record {
        within = omega (arith, was.within, ap length steps, length_push old.steps.items added);
        own = kept.own;
        greatest = λ number k up. ⊎_elim
            (λ below. kept.greatest number below up)
            (λ above. absurd (ne (sym up ∙ ap (λ (s : TrieState). s.up) (step-last number (last number above k)))))
            (cases_lt number (length old.steps.items));
      }

  -- the state has a child more
  last-here : IsLastChild new.steps.items (length new.steps.items) state (length words)
  last-here =
      let e : length words - 1 ≡ length old.steps.items = omega (arith, is.count) in
      record {
        within = omega (arith, is.count, ap length steps, length_push old.steps.items added);
        own = λ some. ap (λ (s : TrieState). s.up) (step-last (length words - 1) e);
        greatest = λ number k up. omega (arith, is.count, ap length steps, length_push old.steps.items added);
      }

  -- the new state has none
  last-new : IsLastChild new.steps.items (length new.steps.items) (length words) 0
  last-new = record {
    within = omega arith;
    own = λ some. absurd (omega arith);
    greatest = λ number k up. ⊎_elim
        (λ below. absurd (omega (arith, is.count, is.ups number below, up, ap (λ (s : TrieState). s.up) (step-kept number below))))
        (λ above. absurd (omega (arith, up, ap (λ (s : TrieState). s.up) (step-last number (last number above k)))))
        (cases_lt number (length old.steps.items));
  }

  first-each : (other : ℕ) → other < length more → IsLastChild new.steps.items (length new.steps.items) other (slice_index new.firsts.items other)
  first-each other h =
      let P : ℕ → ℕ → Type 0 = λ s c. IsLastChild new.steps.items (length new.steps.items) s c in
      let Q : List ℕ → Type 0 = λ fs. P other (slice_index fs other) in
      let long_enough : state < length (old.firsts.items ++ 0 ∷ []) = omega (arith, length_push old.firsts.items 0, is.first_count) in
      subst Q (sym firsts) (⊎_elim
      (λ e.
      let S : ℕ → Type 0 = λ s. P s (slice_index (set (old.firsts.items ++ 0 ∷ []) state (length words)) s) in
      let R : ℕ → Type 0 = λ c. P state c in
      subst S (sym e) (subst R (sym (get_or-set_same (old.firsts.items ++ 0 ∷ []) state (length words) 0 long_enough)) last-here))
      (λ ne.
      let R : ℕ → Type 0 = λ c. P other c in
      subst R (sym (get_or-set_other (old.firsts.items ++ 0 ∷ []) state other (length words) 0 ne)) (⊎_elim
      (λ below. subst R (sym (get_or_append_left old.firsts.items (0 ∷ []) 0 other (omega (arith, is.first_count)))) (last-other other (slice_index old.firsts.items other) ne (is.first other below)))
      (λ above.
      let end : other ≡ length words = omega (arith, more-length) in
      let T : ℕ → Type 0 = λ s. P s 0 in
      subst R (sym (get_or_push old.firsts.items 0 0 other (is.first_count ∙ sym end))) (subst T (sym end) last-new))
      (cases_lt other (length words))))
      (cases_eq other state))

  same-each : (number : ℕ) → number < length new.steps.items → IsLastChild new.steps.items number (step_at new.steps.items number).up (step_at new.steps.items number).same
  same-each number h =
      let P : TrieState → Type 0 = λ s. IsLastChild new.steps.items number s.up s.same in
      ⊎_elim
      (λ below. subst P (sym (step-kept number below)) (last-kept number (step_at old.steps.items number).up (step_at old.steps.items number).same (omega arith) (is.same number below)))
      (λ above.
      let e = last number above h in
      let Q : ℕ → Type 0 = λ n. IsLastChild new.steps.items n state (slice_index old.firsts.items state) in
      subst P (sym (step-last number e)) (subst Q (sym e) (last-kept (length old.steps.items) state (slice_index old.firsts.items state) (omega arith) (is.first state here))))
      (cases_lt number (length old.steps.items))

  pub more-trie : IsTrieOf more new deep
  more-trie = record {
    count = omega (arith, more-length, is.count, ap length steps, length_push old.steps.items added);
    first_count = omega (
      arith,
      more-length,
      is.first_count,
      ap length firsts,
      length-set (old.firsts.items ++ 0 ∷ []) state (length words),
      length_push old.firsts.items 0,
    );
    root = more-kept 0 (omega (arith, is.count)) ∙ is.root;
    steps = more-steps;
    told = λ number h. ⊎_elim
        (λ k. more-kept (number + 1) (omega (arith, is.count)) ∙ is.told number k ∙
        ap (λ w. (step_at old.steps.items number).by ∷ w)
        (sym (more-kept (step_at old.steps.items number).up (omega (arith, is.ups number k, is.count)))) ∙
        ap (λ (s : TrieState). s.by ∷ word_at more s.up) (sym (step-kept number k)))
        (λ k. ap (word_at more) (omega (arith, last number k h, is.count)) ∙ more-last ∙
        ap (λ w. letter ∷ w) (sym (more-kept state here)) ∙
        ap (λ (s : TrieState). s.by ∷ word_at more s.up) (sym (step-last number (last number k h))))
        (cases_lt number (length old.steps.items));
    ups = λ number h. ⊎_elim
        (λ k. omega (arith, is.ups number k, ap (λ (s : TrieState). s.up) (step-kept number k)))
        (λ k. omega (arith, last number k h, is.count, ap (λ (s : TrieState). s.up) (step-last number (last number k h))))
        (cases_lt number (length old.steps.items));
    bys = λ number h. ⊎_elim
        (λ k. omega (arith, is.bys number k, ap (λ (s : TrieState). s.by) (step-kept number k)))
        (λ k. omega (arith, ap (λ (s : TrieState). s.by) (step-last number (last number k h))))
        (cases_lt number (length old.steps.items));
    first = first-each;
    same = same-each;
    apart = more-apart;
    levels = more-levels;
    deepest = more-deepest;
    few = few;
  }

-- what `child` says, where the state is there already and where it is added
pub has-child : (trie : Trie) (state letter child : ℕ)
    → IsTrie trie (length (word_at (words_of trie.steps.items) state) + 1)
    → state < length (words_of trie.steps.items)
    → FindsChild trie state letter child
    → 0 < child
    → HasChild trie state letter child trie
has-child trie state letter child is here finds some =
    let found = finds.found (words_of trie.steps.items) (length (word_at (words_of trie.steps.items) state) + 1) is here in
    record {
      trie = is;
      width = refl;
      extends = record { longer = omega arith; kept = λ other h. refl };
      within = found.within;
      grown = found.grown some;
    }

pub adds-child : (old new : Trie) (state letter lacking child : ℕ)
    → IsTrie old (length (word_at (words_of old.steps.items) state) + 1)
    → state < length (words_of old.steps.items)
    → letter < old.width
    → FindsChild old state letter lacking
    → lacking ≡ 0
    → child ≡ length old.steps.items + 1
    → new.steps.items ≡ old.steps.items ++ record { up = state; by = letter; same = slice_index old.firsts.items state } ∷ []
    → new.firsts.items ≡ set (old.firsts.items ++ 0 ∷ []) state child
    → new.width ≡ old.width
    → length new.steps.items < 1073741824
    → HasChild old state letter child new
adds-child old new state letter lacking child is here wide finds none number steps firsts width few =
    let words = words_of old.steps.items in
    let last : child ≡ length words = omega (arith, is.count) in
    let firsts_now = firsts ∙ ap (set (old.firsts.items ++ 0 ∷ []) state) last in
    let added : TrieState = record { up = state; by = letter; same = slice_index old.firsts.items state } in
    let grown : words_of new.steps.items ≡ words ++ (letter ∷ word_at words state) ∷ [] = ap words_of steps ∙ words-push ([] ∷ []) old.steps.items added in
    let lacks = (finds.found words (length (word_at words state) + 1) is here).lacks none in
    let all = more-trie words old new (length (word_at words state) + 1) state letter is here wide lacks refl steps width firsts_now few in
    let P : List (List ℕ) → Type 0 = λ ws. IsTrieOf ws new (length (word_at words state) + 1) in
    record {
      trie = subst P (sym grown) all;
      width = width;
      extends = record {
        longer = omega (arith, ap length grown, length_push words (letter ∷ word_at words state));
        kept = λ other h. ap (λ ws. word_at ws other) grown ∙ get_or_append_left words ((letter ∷ word_at words state) ∷ []) [] other h;
      };
      within = omega (arith, last, ap length grown, length_push words (letter ∷ word_at words state));
      grown = ap (λ ws. word_at ws child) grown ∙ get_or_push words (letter ∷ word_at words state) [] child (sym last);
    }
