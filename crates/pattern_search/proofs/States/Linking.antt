-- The states of a trie, linked one by one.
use Rattle.std.proofs.Common.{◌≡◌, ℕ, ◌+◌, ◌-◌, ◌<◌, ◌≤◌, ◌==◌, ◌⊎◌, inl, inr, true, false, ◌&&◌, ◌||◌, eqb, ltb, List, [], ◌∷◌, ◌++◌, length, slice_index, sym, ap, subst, ◌∙◌, arith, ⊎_elim}
use Rattle.std.proofs.lemmas.List.{get_or_append_left, get_or_push, length_push, get_or_past}
use Rattle.std.proofs.lemmas.Bool.{false≢true, cases_lt, cases_eq, eqb-true, eq-eqb, ne_eqb, ltb-true, lt-ltb, and_parts}
use Rattle.std.proofs.lemmas.Bool.{and_from, or_cases, or_left, or_right, false_from_ne_true, cond-true, cond-false}
use Rattle.pattern_search.specs.declared.trie.Trie.{Trie}
use Rattle.pattern_search.specs.Words.{begins, word_at, IsClosed, IsFail, IsTrieOf}
use Rattle.pattern_search.specs.Owned.{IsLastOf, AreOwned}
use Rattle.pattern_search.specs.Outputs.{ends_word, is_left, AreWords, either, IsHead, IsNext, AreLinked}
use Rattle.pattern_search.proofs.States.Words.{same_bools, begins-self, begins-length, begins-same, begins-none}

pub either-some : (one other : ℕ) → 0 < one → either one other ≡ one
either-some one other h = cond-false (eqb one 0) other one (ne_eqb one 0 (λ e. omega arith))

pub either-none : (one other : ℕ) → one ≡ 0 → either one other ≡ other
either-none one other e = cond-true (eqb one 0) other one (eq-eqb one 0 e)

-- what the tests tell
pub ends_word-tells : (patterns : List (List ℕ)) (word : List ℕ) (place : ℕ)
    → ends_word patterns word place ≡ true
    → (0 < length (word_at patterns place)) × (begins (word_at patterns place) word ≡ true)
unfolding ends_word
ends_word-tells patterns word place h =
    let parts = and_parts (ltb 0 (length (word_at patterns place))) (begins (word_at patterns place) word) h in
    (ltb-true 0 (length (word_at patterns place)) parts.0, parts.1)

pub ends_word-from : (patterns : List (List ℕ)) (word : List ℕ) (place : ℕ) → 0 < length (word_at patterns place) → begins (word_at patterns place) word ≡ true → ends_word patterns word place ≡ true
unfolding ends_word
ends_word-from patterns word place h b = and_from (ltb 0 (length (word_at patterns place))) (begins (word_at patterns place) word) (lt-ltb 0 (length (word_at patterns place)) h) b

abbrev IsLater : List (List ℕ) → ℕ → ℕ → Type 0
IsLater patterns at place = (length (word_at patterns place) < length (word_at patterns (at - 1))) ⊎ (place < at)

pub left-tells : (patterns : List (List ℕ)) (at place : ℕ) → is_left patterns at place ≡ true → (0 < at) × (ends_word patterns (word_at patterns (at - 1)) place ≡ true) × IsLater patterns at place
unfolding is_left
left-tells patterns at place h =
    let own = word_at patterns (at - 1) in
    let later = ltb (length (word_at patterns place)) (length own) || ltb place at in
    let outer = and_parts (ltb 0 at) (ends_word patterns own place && later) h in
    let inner = and_parts (ends_word patterns own place) later outer.1 in (
      ltb-true 0 at outer.0,
      inner.0,
      ⊎_elim (λ a. inl (ltb-true (length (word_at patterns place)) (length own) a))
          (λ b. inr (ltb-true place at b))
          (or_cases (ltb (length (word_at patterns place)) (length own)) (ltb place at) inner.1),
    )

pub left-from : (patterns : List (List ℕ)) (at place : ℕ) → 0 < at → ends_word patterns (word_at patterns (at - 1)) place ≡ true → IsLater patterns at place → is_left patterns at place ≡ true
unfolding is_left
left-from patterns at place some ends later =
    let own = word_at patterns (at - 1) in
    let is =
    ⊎_elim (λ a. or_left (ltb (length (word_at patterns place)) (length own))
    (ltb place at)
    (lt-ltb (length (word_at patterns place)) (length own) a))
    (λ b. or_right (ltb (length (word_at patterns place)) (length own)) (ltb place at) (lt-ltb place at b)) later in
    and_from (ltb 0 at) (ends_word patterns own place && (ltb (length (word_at patterns place)) (length own) || ltb place at))
    (lt-ltb 0 at some)
    (and_from (ends_word patterns own place) (ltb (length (word_at patterns place)) (length own) || ltb place at) ends is)

abbrev IsLaterThan : List (List ℕ) → ℕ → ℕ → Type 0
IsLaterThan patterns place other = (length (word_at patterns other) < length (word_at patterns place)) ⊎ (other < place + 1)

pub left-tells-next : (patterns : List (List ℕ)) (place other : ℕ)
    → is_left patterns (place + 1) other ≡ true
    → (0 < place + 1) × (ends_word patterns (word_at patterns place) other ≡ true) × IsLaterThan patterns place other
left-tells-next patterns place other l =
    let e : place + 1 - 1 ≡ place = omega arith in
    let P : ℕ → Type 0 = λ own.
    (0 < place + 1)
    × (ends_word patterns (word_at patterns own) other ≡ true)
    × ((length (word_at patterns other) < length (word_at patterns own)) ⊎ (other < place + 1)) in
    subst P e (left-tells patterns (place + 1) other l)

pub left-from-next : (patterns : List (List ℕ)) (place other : ℕ)
    → 0 < place + 1
    → ends_word patterns (word_at patterns place) other ≡ true
    → IsLaterThan patterns place other
    → is_left patterns (place + 1) other ≡ true
left-from-next patterns place other some ends later =
    let e : place ≡ place + 1 - 1 = omega arith in
    let P : ℕ → Type 0 = λ own. ends_word patterns (word_at patterns own) other ≡ true in
    let Q : ℕ → Type 0 = λ own. (length (word_at patterns other) < length (word_at patterns own)) ⊎ (other < place + 1) in
    left-from patterns (place + 1) other some (subst P e ends) (subst Q e later)

pub left-none : (patterns : List (List ℕ)) (place : ℕ) → is_left patterns 0 place ≡ false
left-none patterns place = false_from_ne_true (is_left patterns 0 place) (λ h. omega (arith, (left-tells patterns 0 place h).0))

-- all in one list of words
module _ (words patterns : List (List ℕ)) (ends : List ℕ) (are : AreWords words patterns ends)
    (apart : (one other : ℕ) → one < length words → other < length words → word_at words one ≡ word_at words other →
    one ≡ other) where
  -- a pattern that is a state's word ends there
  own-state : (state place : ℕ) → state < length words → place < length patterns → word_at patterns place ≡ word_at words state → slice_index ends place ≡ state
  own-state state place h k e = apart (slice_index ends place) state (are.within place k) h (are.word place k ∙ e)

  -- a pattern that is as long as the word which it ends is the word
  same-word : (state place : ℕ)
      → state < length words
      → place < length patterns
      → begins (word_at patterns place) (word_at words state) ≡ true
      → length (word_at words state) ≤ length (word_at patterns place)
      → slice_index ends place ≡ state
  same-word state place h k b long = own-state state place h k (begins-same (word_at patterns place) (word_at words state) b long)

  -- the chain of a state that patterns end at
  pub head-own : (state owner : ℕ) → 0 < length (word_at words state) → state < length words → IsLastOf ends (length patterns) state owner → 0 < owner → IsHead patterns (word_at words state) owner
  head-own state owner low h is some =
      let own : word_at patterns (owner - 1) ≡ word_at words state = sym (are.word (owner - 1) (omega (arith, is.within))) ∙ ap (word_at words) (is.own some) in
      record {
        within = is.within;
        some = λ _. omega (arith, ap length own);
        left = λ place k. same_bools (is_left patterns owner place) (ends_word patterns (word_at words state) place)
            (λ l. sym (ap (λ w. ends_word patterns w place) own) ∙ (left-tells patterns owner place l).1)
            (λ e.
            let tells = ends_word-tells patterns (word_at words state) place e in
            left-from patterns owner place some (ap (λ w. ends_word patterns w place) own ∙ e)
            (⊎_elim
            (λ short. inl (omega (arith, ap length own)))
            (λ long. inr (is.greatest place k (same-word state place h k tells.1 long)))
            (cases_lt (length (word_at patterns place)) (length (word_at words state)))));
      }

  -- patterns that end a state's word without being it end its fail
  fail-ends : (state : ℕ) (fail : List ℕ) (place : ℕ)
      → state < length words
      → place < length patterns
      → IsFail words (word_at words state) fail
      → ends_word patterns (word_at words state) place ≡ true
      → (slice_index ends place ≡ state → ⊥)
      → ends_word patterns fail place ≡ true
  fail-ends state fail place h k is e ne =
      let tells = ends_word-tells patterns (word_at words state) place e in
      let word = are.word place k in
      ⊎_elim
      (λ short. ends_word-from patterns fail place tells.0
      (ap (λ w. begins w fail) (sym word) ∙
      sym (is.same (slice_index ends place) (are.within place k) (omega (arith, ap length word))) ∙
      ap (λ w. begins w (word_at words state)) word ∙ tells.1))
      (λ long. absurd (ne (same-word state place h k tells.1 long)))
      (cases_lt (length (word_at patterns place)) (length (word_at words state)))

  -- patterns that end a state's fail end its word
  ends-fail : (state : ℕ) (fail : List ℕ) (place : ℕ)
      → place < length patterns
      → IsFail words (word_at words state) fail
      → ends_word patterns fail place ≡ true
      → ends_word patterns (word_at words state) place ≡ true
  ends-fail state fail place k is e =
      let tells = ends_word-tells patterns fail place e in
      let word = are.word place k in
      ends_word-from patterns (word_at words state) place tells.0
      (ap (λ w. begins w (word_at words state)) (sym word) ∙
      is.same (slice_index ends place) (are.within place k)
      (omega (arith, ap length word, begins-length (word_at patterns place) fail tells.1, is.shorter)) ∙
      ap (λ w. begins w fail) word ∙ tells.1)

  pub head-fail : (state : ℕ) (fail : List ℕ) (head : ℕ)
      → state < length words
      → IsFail words (word_at words state) fail
      → IsLastOf ends (length patterns) state 0
      → IsHead patterns fail head
      → IsHead patterns (word_at words state) head
  head-fail state fail head h is none chain = record {
    within = chain.within;
    some = chain.some;
    left = λ place k.
        chain.left place k
        ∙ same_bools (ends_word patterns fail place) (ends_word patterns (word_at words state) place)
        (ends-fail state fail place k is)
        (λ e. fail-ends state fail place h k is e (λ same. omega (arith, none.greatest place k same)));
  }

  pub head-root : (root : ℕ) → word_at words root ≡ [] → IsHead patterns (word_at words root) 0
  head-root root empty = record {
    within = omega arith;
    some = λ h. absurd (omega arith);
    left = λ place k. left-none patterns place ∙ sym (false_from_ne_true (ends_word patterns (word_at words root) place) (λ e.
        let tells = ends_word-tells patterns (word_at words root) place e in
        false≢true (sym (begins-none (word_at patterns place) tells.0) ∙ ap (begins (word_at patterns place)) (sym empty) ∙ tells.1)));
  }

  -- the chain after a pattern: the one before it of its state, else that of the fail
  pub next-same : (place owner : ℕ) → place < length patterns → 0 < length (word_at patterns place) → IsLastOf ends place (slice_index ends place) owner → 0 < owner → IsNext patterns place owner
  next-same place owner k nonempty is some =
      let state = slice_index ends place in
      let h = are.within place k in
      let own : word_at patterns (owner - 1) ≡ word_at patterns place =
      sym (are.word (owner - 1) (omega (arith, is.within))) ∙ ap (word_at words) (is.own some) ∙ are.word place k in
      record {
        within = omega (arith, is.within);
        some = λ _. omega (arith, ap length own);
        left = λ other j. same_bools (is_left patterns (place + 1) other) ((other == place) || is_left patterns owner other)
            (λ l. let tells = left-tells-next patterns place other l in
            ⊎_elim
            (λ e. or_left (other == place) (is_left patterns owner other) (eq-eqb other place e))
            (λ ne. or_right (other == place) (is_left patterns owner other)
            (left-from patterns owner other some (ap (λ w. ends_word patterns w other) own ∙ tells.1)
            (⊎_elim
            (λ short. inl (omega (arith, ap length own)))
            (λ long.
            let below : other < place = ⊎_elim (λ a. omega arith) (λ b. omega arith) tells.2 in
            let b = (ends_word-tells patterns (word_at patterns place) other tells.1).1 in
            let b_state = ap (begins (word_at patterns other)) (are.word place k) ∙ b in
            inr (is.greatest other below (same-word state other h j b_state (omega (arith, ap length (are.word place k))))))
            (cases_lt (length (word_at patterns other)) (length (word_at patterns place))))))
            (cases_eq other place))
            (λ l. ⊎_elim
            (λ e. let same = eqb-true other place e in
            let P : ℕ → Type 0 = λ o. is_left patterns (place + 1) o ≡ true in
            subst P (sym same)
            (left-from-next patterns place place (omega arith)
            (ends_word-from patterns (word_at patterns place) place nonempty (begins-self (word_at patterns place)))
            (inr (omega arith))))
            (λ rest. let tells = left-tells patterns owner other rest in
            left-from-next patterns place other (omega arith) (ap (λ w. ends_word patterns w other) (sym own) ∙ tells.1)
            (⊎_elim (λ a. inl (omega (arith, ap length own))) (λ b. inr (omega (arith, is.within))) tells.2))
            (or_cases (other == place) (is_left patterns owner other) l));
        past =
            false_from_ne_true (is_left patterns owner place)
            (λ l.
            let tells = left-tells patterns owner place l in
            ⊎_elim (λ a. omega (arith, ap length own)) (λ b. omega (arith, is.within)) tells.2);
      }

  pub next-fail : (place : ℕ) (fail : List ℕ) (head : ℕ)
      → place < length patterns
      → 0 < length (word_at patterns place)
      → IsFail words (word_at words (slice_index ends place)) fail
      → IsLastOf ends place (slice_index ends place) 0
      → IsHead patterns fail head
      → IsNext patterns place head
  next-fail place fail head k nonempty is none chain =
      let state = slice_index ends place in
      let h = are.within place k in
      let own : word_at words state ≡ word_at patterns place = are.word place k in
      record {
        within = chain.within;
        some = chain.some;
        left = λ other j. same_bools (is_left patterns (place + 1) other) ((other == place) || is_left patterns head other)
            (λ l. let tells = left-tells-next patterns place other l in
            ⊎_elim
            (λ e. or_left (other == place) (is_left patterns head other) (eq-eqb other place e))
            (λ ne. or_right (other == place) (is_left patterns head other)
            (chain.left other j ∙ fail-ends state fail other h j is (ap (λ w. ends_word patterns w other) own ∙ tells.1)
            (λ same. ⊎_elim
            (λ a. omega (arith, ap length (sym (are.word other j) ∙ ap (word_at words) same ∙ own)))
            (λ b. omega (arith, none.greatest other (omega arith) same))
            tells.2)))
            (cases_eq other place))
            (λ l. ⊎_elim
            (λ e. let same = eqb-true other place e in
            let P : ℕ → Type 0 = λ o. is_left patterns (place + 1) o ≡ true in
            subst P (sym same)
            (left-from-next patterns place place (omega arith)
            (ends_word-from patterns (word_at patterns place) place nonempty (begins-self (word_at patterns place)))
            (inr (omega arith))))
            (λ rest.
            let e = sym (chain.left other j) ∙ rest in
            let tells = ends_word-tells patterns fail other e in
            left-from-next patterns place other (omega arith)
            (ap (λ w. ends_word patterns w other) (sym own) ∙ ends-fail state fail other j is e)
            (inl (omega (arith, begins-length (word_at patterns other) fail tells.1, is.shorter, ap length own))))
            (or_cases (other == place) (is_left patterns head other) l));
        past = false_from_ne_true (is_left patterns head place) (λ l.
            let tells = ends_word-tells patterns fail place (sym (chain.left place k) ∙ l) in
            omega (arith, begins-length (word_at patterns place) fail tells.1, is.shorter, ap length own));
      }

-- the trie's words are closed
pub trie-closed : (words : List (List ℕ)) (trie : Trie) (deep : ℕ) → IsTrieOf words trie deep → IsClosed words
trie-closed words trie deep is state h some =
    ⊎_elim
    (λ e. absurd (omega (arith, ap (λ s. length (word_at words s)) e, ap length is.root)))
    (λ ne. let step = is.steps state (omega arith) h in (step.0, step.1, omega (arith, step.2), step.4))
    (cases_eq state 0)

-- one state more is linked
module _ (words patterns : List (List ℕ)) (ends : List ℕ) (trie : Trie) (deep : ℕ) (is : IsTrieOf words trie deep)
    (are : AreWords words patterns ends) (fails heads : List ℕ) (state fail : ℕ)
    (h : state < length words)
    (linked : AreLinked words patterns fails heads state)
    (is_fail : 0 < state → (fail < state) × IsFail words (word_at words state) (word_at words fail))
    (root_fail : state ≡ 0 → fail ≡ 0) where
  some-word : 0 < state → 0 < length (word_at words state)
  some-word some = let step = is.steps state some h in omega (arith, ap length step.4)

  -- the chain of a state: that of its own patterns, else that of its fail
  new-head : (firsts sames : List ℕ) → AreOwned ends (length words) firsts sames (length patterns) → IsHead patterns (word_at words state) (either (slice_index firsts state) (slice_index heads fail))
  new-head firsts sames owned =
      let first = slice_index firsts state in
      let P : ℕ → Type 0 = λ hd. IsHead patterns (word_at words state) hd in
      ⊎_elim
      (λ none. ⊎_elim
      (λ root.
      let nothing : slice_index heads fail ≡ 0 = get_or_past heads fail 0 (omega (arith, linked.head_count)) in
      subst P (sym (either-none first (slice_index heads fail) none ∙ nothing))
      (head-root words patterns ends are is.apart state (ap (word_at words) root ∙ is.root)))
      (λ low.
      let fails_to = is_fail (omega arith) in
      let last = owned.first state (omega arith) h in
      let Q : ℕ → Type 0 = λ o. IsLastOf ends (length patterns) state o in
      subst P (sym (either-none first (slice_index heads fail) none))
      (head-fail words patterns ends are is.apart state (word_at words fail) (slice_index heads fail) h fails_to.1
      (subst Q none last) (linked.chains fail fails_to.0)))
      (cases_eq state 0))
      (λ some.
      let low : 0 < state =
      ⊎_elim (λ root. omega (arith, ap (slice_index firsts) root, owned.root)) (λ ne. omega arith) (cases_eq state 0) in
      subst P (sym (either-some first (slice_index heads fail) (omega arith)))
      (head-own words patterns ends are is.apart state first (some-word low) h (owned.first state low h) (omega arith)))
      (cases_eq first 0)

  pub linked-more : (firsts sames : List ℕ)
      → AreOwned ends (length words) firsts sames (length patterns)
      → AreLinked words patterns (fails ++ fail ∷ []) (heads ++ either (slice_index firsts state) (slice_index heads fail) ∷ [])
      (state + 1)
  linked-more firsts sames owned =
      let head = either (slice_index firsts state) (slice_index heads fail) in
      let fail_kept : (other : ℕ) → other < state → slice_index (fails ++ fail ∷ []) other ≡ slice_index fails other =
      λ other k. get_or_append_left fails (fail ∷ []) 0 other (omega (arith, linked.fail_count)) in
      let fail_last : slice_index (fails ++ fail ∷ []) state ≡ fail = get_or_push fails fail 0 state linked.fail_count in
      let head_kept : (other : ℕ) → other < state → slice_index (heads ++ head ∷ []) other ≡ slice_index heads other =
      λ other k. get_or_append_left heads (head ∷ []) 0 other (omega (arith, linked.head_count)) in
      let head_last : slice_index (heads ++ head ∷ []) state ≡ head = get_or_push heads head 0 state linked.head_count in
      record {
        fail_count = length_push fails fail ∙ ap (λ n. n + 1) linked.fail_count;
        head_count = length_push heads head ∙ ap (λ n. n + 1) linked.head_count;
        failing = record {
          lower = λ other some k. ⊎_elim
              (λ e. omega (arith, ap (slice_index (fails ++ fail ∷ [])) e, fail_last, (is_fail (omega arith)).0))
              (λ ne. omega (arith, fail_kept other (omega arith), linked.failing.lower other some (omega arith)))
              (cases_eq other state);
          failing = λ other some k. ⊎_elim
              (λ e.
              let P : ℕ → Type 0 = λ o. IsFail words (word_at words o) (word_at words (slice_index (fails ++ fail ∷ []) o)) in
              let Q : ℕ → Type 0 = λ f. IsFail words (word_at words state) (word_at words f) in
              subst P (sym e) (subst Q (sym fail_last) (is_fail (omega arith)).1))
              (λ ne.
              let Q : ℕ → Type 0 = λ f. IsFail words (word_at words other) (word_at words f) in
              subst Q (sym (fail_kept other (omega arith))) (linked.failing.failing other some (omega arith)))
              (cases_eq other state);
        };
        chains = λ other k. ⊎_elim
            (λ e.
            let P : ℕ → Type 0 = λ o. IsHead patterns (word_at words o) (slice_index (heads ++ head ∷ []) o) in
            let Q : ℕ → Type 0 = λ hd. IsHead patterns (word_at words state) hd in
            subst P (sym e) (subst Q (sym head_last) (new-head firsts sames owned)))
            (λ ne.
            let Q : ℕ → Type 0 = λ hd. IsHead patterns (word_at words other) hd in
            subst Q (sym (head_kept other (omega arith))) (linked.chains other (omega arith)))
            (cases_eq other state);
      }
