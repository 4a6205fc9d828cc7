-- Marks, lists and chains, one pattern at a time.
use Rattle.std.proofs.Common.{◌≡◌, ℕ, zero, suc, ◌+◌, ◌-◌, ◌/◌, ◌%◌, ◌<◌, ◌≤◌, ◌==◌, inr, Bool, true, false, not, ◌&&◌, ◌||◌}
use Rattle.std.proofs.Common.{cond, ltb, List, [], ◌∷◌, ◌++◌, length, slice_index, Option, Some, None, SomeIff, unwrap_or, sym}
use Rattle.std.proofs.Common.{refl, ap, subst, ◌∙◌, arith, ⊎_elim}
use Rattle.std.specs.List.Sorted.{IsPermutation}
use Rattle.std.proofs.lemmas.List.Sorted.{length_permutation, IsPermutation-refl, IsPermutation-sym, IsPermutation-cons, IsPermutation-trans, IsPermutation-middle, IsPermutation-push_more}
use Rattle.std.proofs.lemmas.Bool.{false≢true, true≢false, cases_eq, cases_Bool, eq-eqb, ne_eqb, lt-ltb, or_left, or_right, cond-true, cond-false}
use Rattle.pattern_search.specs.Words.{word_at}
use Rattle.pattern_search.specs.Outputs.{is_left, IsNext}
use Rattle.pattern_search.specs.declared.automaton.Automaton.{Automaton}
use Rattle.pattern_search.specs.declared.seen.MarkSet.{MarkSet}
use Rattle.pattern_search.specs.Marking.{is_marked}
use Rattle.pattern_search.specs.Rows.{state_of}
use Rattle.pattern_search.specs.Occurring.{numbers}
use Rattle.pattern_search.specs.Finding.{Marks, Notes, AreChained, MayBegin, Follows, IsFollowing}
use Rattle.pattern_search.proofs.States.Words.{begins-self}
use Rattle.pattern_search.proofs.States.Linking.{left-none, left-tells, left-from, ends_word-tells, ends_word-from}

-- numbers that pass a test
pub numbers-same : (one other : ℕ → Bool) (from count : ℕ) → ((place : ℕ) → from ≤ place → place < from + count → one place ≡ other place) → numbers one from count ≡ numbers other from count
unfolding numbers
numbers-same one other from zero same = refl
numbers-same one other from (suc count) same =
    let rest = numbers-same one other (from + 1) count (λ place h k. same place (omega arith) (omega arith)) in
    ap (λ b. cond b (from ∷ numbers one (from + 1) count) (numbers one (from + 1) count)) (same from (omega arith) (omega arith))
    ∙ ap (λ ns. cond (other from) (from ∷ ns) ns) rest

pub numbers-none : (test : ℕ → Bool) (from count : ℕ) → ((place : ℕ) → test place ≡ false) → numbers test from count ≡ []
unfolding numbers
numbers-none test from zero none = refl
numbers-none test from (suc count) none = cond-false (test from) (from ∷ numbers test (from + 1) count) (numbers test (from + 1) count) (none from) ∙ numbers-none test (from + 1) count none

-- one number more passes
pub numbers-mark : (test more : ℕ → Bool) (at from count : ℕ)
    → test at ≡ false
    → more at ≡ true
    → ((place : ℕ) → (place ≡ at → ⊥) → more place ≡ test place)
    → from ≤ at
    → at < from + count
    → IsPermutation (at ∷ numbers test from count) (numbers more from count)
unfolding numbers
numbers-mark test more at from zero off on others low high = absurd (omega arith)
numbers-mark test more at from (suc count) off on others low high =
    let P : List ℕ → Type 0 =
    λ ns. IsPermutation (at ∷ cond (test from) (from ∷ numbers test (from + 1) count) (numbers test (from + 1) count)) ns in
    let Q : List ℕ → Type 0 = λ ns. IsPermutation (at ∷ ns) (from ∷ numbers more (from + 1) count) in
    ⊎_elim
    (λ e.
    let tail : numbers more (from + 1) count ≡ numbers test (from + 1) count =
    numbers-same more test (from + 1) count (λ place h k. others place (λ same. omega arith)) in
    let new : cond (more from) (from ∷ numbers more (from + 1) count) (numbers more (from + 1) count) ≡
    from ∷ numbers more (from + 1) count =
    cond-true (more from) (from ∷ numbers more (from + 1) count) (numbers more (from + 1) count) (ap more e ∙ on) in
    let old : cond (test from) (from ∷ numbers test (from + 1) count) (numbers test (from + 1) count) ≡
    numbers test (from + 1) count =
    cond-false (test from) (from ∷ numbers test (from + 1) count) (numbers test (from + 1) count) (ap test e ∙ off) in
    let R : List ℕ → Type 0 = λ ns. IsPermutation (at ∷ numbers test (from + 1) count) ns in
    let same : at ∷ numbers test (from + 1) count ≡ from ∷ numbers more (from + 1) count =
    ap (λ x. x ∷ numbers test (from + 1) count) (sym e) ∙ ap (λ ns. from ∷ ns) (sym tail) in
    subst P (sym new) (subst Q (sym old) (subst R same (IsPermutation-refl (at ∷ numbers test (from + 1) count)))))
    (λ ne.
    let rest = numbers-mark test more at (from + 1) count off on others (omega arith) (omega arith) in
    let here : more from ≡ test from = others from ne in
    go (test from) (more from) (sym here) rest)
    (cases_eq from at)
  where
    go : (b c : Bool)
        → b ≡ c
        → IsPermutation (at ∷ numbers test (from + 1) count) (numbers more (from + 1) count)
        → IsPermutation (at ∷ cond b (from ∷ numbers test (from + 1) count) (numbers test (from + 1) count))
        (cond c (from ∷ numbers more (from + 1) count) (numbers more (from + 1) count))
    go true true e rest =
        let ns = numbers test (from + 1) count in
        let ms = numbers more (from + 1) count in
        IsPermutation-trans (at ∷ (from ∷ ns)) (from ∷ (at ∷ ns)) (from ∷ ms) (IsPermutation-middle (at ∷ []) from ns) (IsPermutation-cons from (at ∷ ns) ms rest)
    go false false e rest = rest
    go true false e rest = absurd (true≢false e)
    go false true e rest = absurd (false≢true e)

-- what an answer says of the marks
pub marked-by : (old new : MarkSet) (at : ℕ) (fresh answer : Bool)
    → fresh ≡ answer
    → ((place : ℕ) → is_marked new place ≡ (is_marked old place || (fresh && (place == at))))
    → (place : ℕ)
    → is_marked new place ≡ (is_marked old place || (answer && (place == at)))
marked-by old new at fresh answer is also place = also place ∙ ap (λ b. is_marked old place || (b && (place == at))) is

-- one place more is marked
pub now-marked : (old new : MarkSet) (at : ℕ) → ((place : ℕ) → is_marked new place ≡ (is_marked old place || (true && (place == at)))) → is_marked new at ≡ true
now-marked old new at also = also at ∙ or_right (is_marked old at) (true && (at == at)) (eq-eqb at at refl)

pub others-same : (old new : MarkSet) (at : ℕ)
    → ((place : ℕ) → is_marked new place ≡ (is_marked old place || (true && (place == at))))
    → (place : ℕ)
    → (place ≡ at → ⊥)
    → is_marked new place ≡ is_marked old place
others-same old new at also place ne = also place ∙ ap (λ b. is_marked old place || (true && b)) (ne_eqb place at ne) ∙ or-false (is_marked old place)
  where
    or-false : (b : Bool) → (b || false) ≡ b
    or-false true = refl
    or-false false = refl

-- how many places below a count aren't marked
abbrev pub unseen : ℕ → MarkSet → ℕ
unseen count seen = length (numbers (λ place. not (is_marked seen place)) 0 count)

pub unseen-less : (count at : ℕ) (old new : MarkSet)
    → at < count
    → is_marked old at ≡ false
    → ((place : ℕ) → is_marked new place ≡ (is_marked old place || (true && (place == at))))
    → unseen count new < unseen count old
unseen-less count at old new h off also =
    let test : ℕ → Bool = λ place. not (is_marked new place) in
    let more : ℕ → Bool = λ place. not (is_marked old place) in
    let p = numbers-mark test more at 0 count (ap not (now-marked old new at also)) (ap not off) (λ place ne. ap not (sym (others-same old new at also place ne))) (omega arith) (omega arith) in
    omega (arith, length_permutation (at ∷ numbers test 0 count) (numbers more 0 count) p)

-- nothing of a chain was marked yet
pub following-none : (nexts : List ℕ) (head : ℕ) (seen : MarkSet) (hits : List ℕ) → IsFollowing nexts head seen hits head seen hits
following-none nexts head seen hits = record {
  begins = λ patterns same chained may. may;
  part = λ patterns same chained may place h l. l;
  before = λ patterns same chained may place h l. refl;
  marked = λ patterns same chained may place h l. sym (ap (λ b. is_marked seen place || b) l ∙ or-false (is_marked seen place));
  listed = λ p. p;
}
  where
    or-false : (b : Bool) → (b || false) ≡ b
    or-false true = refl
    or-false false = refl

pub follows-end : (nexts : List ℕ) (head : ℕ) (old : MarkSet) (old_hits : List ℕ) (at : ℕ) (new : MarkSet) (new_hits : List ℕ)
    → IsFollowing nexts head old old_hits at new new_hits
    → at ≡ 0
    → Follows nexts head old old_hits new new_hits
follows-end nexts head old old_hits at new new_hits is zero_at = record {
  marked = λ patterns same chained closed may place h. is.marked patterns same chained may place h (ap (λ (a : ℕ). is_left patterns a place) zero_at ∙ left-none patterns place);
  listed = is.listed;
}

-- a pattern is in its own chain
own-left : (patterns : List (List ℕ)) (at : ℕ) → 0 < at → 0 < length (word_at patterns (at - 1)) → is_left patterns at (at - 1) ≡ true
own-left patterns at some nonempty =
    left-from patterns at (at - 1) some
    (ends_word-from patterns (word_at patterns (at - 1)) (at - 1) nonempty (begins-self (word_at patterns (at - 1))))
    (inr (omega arith))

pub follows-seen : (nexts : List ℕ) (head : ℕ) (old : MarkSet) (old_hits : List ℕ) (at : ℕ) (new : MarkSet) (new_hits : List ℕ)
    → IsFollowing nexts head old old_hits at new new_hits
    → 0 < at
    → (ltb (at - 1) (length nexts) && not (is_marked new (at - 1))) ≡ false
    → (last : MarkSet)
    → ((place : ℕ) → is_marked last place ≡ (is_marked new place || (false && (place == at - 1))))
    → Follows nexts head old old_hits last new_hits
follows-seen nexts head old old_hits at new new_hits is some stops last also = record {
  marked = λ patterns same chained closed may place h.
      let begin = is.begins patterns same chained may in
      let own = at - 1 in
      let within : at - 1 < length patterns = omega (arith, begin.0) in
      let here : is_marked new (at - 1) ≡ true =
      told-marked (is_marked new (at - 1))
      (sym (ap (λ b. b && not (is_marked new (at - 1))) (lt-ltb (at - 1) (length nexts) (omega (arith, begin.0, same)))) ∙
      stops) in
      let nonempty = begin.1 some in
      let was : is_marked old (at - 1) ≡ true =
      sym (is.before patterns same chained may (at - 1) within (own-left patterns at some nonempty)) ∙ here in
      unchanged place ∙ ⊎_elim
      (λ left.
      let tells = left-tells patterns at place left in
      let ends = ends_word-tells patterns (word_at patterns (at - 1)) place tells.1 in
      let old_place : is_marked old place ≡ true = closed place (at - 1) h within was ends.0 ends.1 in
      is.before patterns same chained may place h left ∙ old_place ∙
      sym (or_left (is_marked old place) (is_left patterns head place) old_place))
      (λ left. is.marked patterns same chained may place h left)
      (cases_Bool (is_left patterns at place));
  listed = λ p.
      let P : List ℕ → Type 0 = λ ns. IsPermutation ns new_hits in
      subst P (sym (numbers-same (is_marked last) (is_marked new) 0 (length nexts) (λ place j k. unchanged place))) (is.listed p);
}
  where
    or-nothing : (b : Bool) → (b || false) ≡ b
    or-nothing true = refl
    or-nothing false = refl

    unchanged : (place : ℕ) → is_marked last place ≡ is_marked new place
    unchanged place = also place ∙ or-nothing (is_marked new place)

    told-marked : (b : Bool) → (true && not b) ≡ false → b ≡ true
    told-marked true e = refl
    told-marked false e = absurd (true≢false e)

pub following-more : (nexts : List ℕ) (head : ℕ) (old : MarkSet) (old_hits : List ℕ) (at : ℕ) (new : MarkSet) (new_hits : List ℕ)
    (next : ℕ)
    → IsFollowing nexts head old old_hits at new new_hits
    → 0 < at
    → at - 1 < length nexts
    → is_marked new (at - 1) ≡ false
    → next ≡ slice_index nexts (at - 1)
    → (more : MarkSet)
    → ((place : ℕ) → is_marked more place ≡ (is_marked new place || (true && (place == at - 1))))
    → IsFollowing nexts head old old_hits next more (new_hits ++ (at - 1) ∷ [])
following-more nexts head old old_hits at new new_hits next is some within off next_is more also = record {
  begins = λ patterns same chained may.
      let n = step patterns same chained may in
      (omega (arith, n.within, next_is), λ h. rw next_is (n.some (omega (arith, next_is))));
  part = λ patterns same chained may place h l.
      is.part patterns same chained may place h
      (left-on patterns same chained may place h (or_right (place == at - 1) (is_left patterns next place) l));
  before = λ patterns same chained may place h l. ⊎_elim
      (λ e. absurd (false≢true (sym (past patterns same chained may) ∙ ap (is_left patterns next) (sym e) ∙ l)))
      (λ ne. kept place ne ∙
      is.before patterns same chained may place h
      (left-on patterns same chained may place h (or_right (place == at - 1) (is_left patterns next place) l)))
      (cases_eq place (at - 1));
  marked = λ patterns same chained may place h l. ⊎_elim
      (λ e.
      let begin = is.begins patterns same chained may in
      let own = is.part patterns same chained may (at - 1) (omega (arith, begin.0)) (own-left patterns at some (begin.1 some)) in
      ap (is_marked more) e ∙ on ∙
      sym (or_right (is_marked old place) (is_left patterns head place) (ap (is_left patterns head) e ∙ own)))
      (λ ne. kept place ne ∙
      is.marked patterns same chained may place h
      (left-is patterns same chained may place h ∙ ap (λ b. b || is_left patterns next place) (ne_eqb place (at - 1) ne) ∙ l))
      (cases_eq place (at - 1));
  listed = λ p.
      IsPermutation-trans (numbers (is_marked more) 0 (length nexts))
      ((at - 1) ∷ numbers (is_marked new) 0 (length nexts))
      (new_hits ++ (at - 1) ∷ [])
      (IsPermutation-sym ((at - 1) ∷ numbers (is_marked new) 0 (length nexts))
      (numbers (is_marked more) 0 (length nexts))
      (numbers-mark (is_marked new) (is_marked more) (at - 1) 0 (length nexts) off on kept (omega arith) (omega arith)))
      (IsPermutation-sym (new_hits ++ (at - 1) ∷ []) ((at - 1) ∷ numbers (is_marked new) 0 (length nexts))
      (IsPermutation-push_more new_hits (numbers (is_marked new) 0 (length nexts))
      ((at - 1) ∷ numbers (is_marked new) 0 (length nexts))
      (at - 1)
      (IsPermutation-sym (numbers (is_marked new) 0 (length nexts)) new_hits (is.listed p))
      (IsPermutation-refl ((at - 1) ∷ numbers (is_marked new) 0 (length nexts)))));
}
  where
    on : is_marked more (at - 1) ≡ true
    on = now-marked new more (at - 1) also

    kept : (place : ℕ) → (place ≡ at - 1 → ⊥) → is_marked more place ≡ is_marked new place
    kept place ne = others-same new more (at - 1) also place ne

    step : (patterns : List (List ℕ)) → length patterns ≡ length nexts → AreChained patterns nexts → MayBegin patterns head → IsNext patterns (at - 1) (slice_index nexts (at - 1))
    step patterns same chained may = let begin = is.begins patterns same chained may in chained (at - 1) (omega (arith, begin.0)) (begin.1 some)

    past : (patterns : List (List ℕ)) → length patterns ≡ length nexts → AreChained patterns nexts → MayBegin patterns head → is_left patterns next (at - 1) ≡ false
    past patterns same chained may = ap (λ (n : ℕ). is_left patterns n (at - 1)) next_is ∙ (step patterns same chained may).past

    left-is : (patterns : List (List ℕ))
        → length patterns ≡ length nexts
        → AreChained patterns nexts
        → MayBegin patterns head
        → (place : ℕ)
        → place < length patterns
        → is_left patterns at place ≡ ((place == at - 1) || is_left patterns next place)
    left-is patterns same chained may place h =
        let e : at ≡ at - 1 + 1 = omega arith in
        ap (λ (a : ℕ). is_left patterns a place) e ∙ (step patterns same chained may).left place h ∙ ap (λ (n : ℕ). (place == at - 1) || is_left patterns n place) (sym next_is)

    left-on : (patterns : List (List ℕ))
        → length patterns ≡ length nexts
        → AreChained patterns nexts
        → MayBegin patterns head
        → (place : ℕ)
        → place < length patterns
        → ((place == at - 1) || is_left patterns next place) ≡ true
        → is_left patterns at place ≡ true
    left-on patterns same chained may place h l = left-is patterns same chained may place h ∙ l

-- the chain of the state with this row
pub marks-chain : (automaton : Automaton) (at : ℕ) (old new : MarkSet) (old_hits new_hits : List ℕ) (head : ℕ)
    → Follows automaton.nexts.items head old old_hits new new_hits
    → (0 < automaton.trie.width → head ≡ slice_index automaton.heads.items (state_of automaton.trie.width at))
    → Marks automaton at old old_hits new new_hits
marks-chain automaton at old new old_hits new_hits head goes known = record {
  marked = λ patterns wide count chained closed may place h.
      let P : ℕ → Type 0 = λ hd. MayBegin patterns hd in
      goes.marked patterns count chained closed (subst P (sym (known wide)) may) place h
      ∙ ap (λ (hd : ℕ). is_marked old place || is_left patterns hd place) (known wide);
  listed = goes.listed;
}

pub unwrapped : (o : Option ℕ) (P : Type 0) (v : ℕ) → SomeIff o P v → P → unwrap_or o 0 ≡ v
unwrapped None P v is p = absurd (is p)
unwrapped (Some x) P v is p = is.1

pub notes-none : (automaton : Automaton) (entry : ℕ) (old : MarkSet) (old_hits : List ℕ) → entry % 2 ≡ 0 → Notes automaton entry old old_hits old old_hits
notes-none automaton entry old old_hits even = record {
  marked = λ patterns head wide count chained closed may is none place h.
      sym (ap (λ b. is_marked old place || b)
      (ap (λ (hd : ℕ). is_left patterns hd place) (none even) ∙ left-none patterns place) ∙
      or-nothing (is_marked old place));
  listed = λ p. p;
}
  where
    or-nothing : (b : Bool) → (b || false) ≡ b
    or-nothing true = refl
    or-nothing false = refl

pub notes-some : (automaton : Automaton) (entry : ℕ) (old new : MarkSet) (old_hits new_hits : List ℕ)
    → Marks automaton (entry / 2) old old_hits new new_hits
    → Notes automaton entry old old_hits new new_hits
notes-some automaton entry old new old_hits new_hits is = record {
  marked = λ patterns head wide count chained closed may known none place h.
      let P : ℕ → Type 0 = λ hd. MayBegin patterns hd in
      is.marked patterns wide count chained closed (subst P known may) place h ∙ ap (λ (hd : ℕ). is_marked old place || is_left patterns hd place) (sym known);
  listed = is.listed;
}
