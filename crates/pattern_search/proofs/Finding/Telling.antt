-- What has ended, in letters, are the patterns that occur; and in ascending order they are one list.
use Rattle.std.proofs.Common.{◌≡◌, ℕ, zero, suc, ◌+◌, ◌<◌, ◌≤◌, Bool, true, false, ◌&&◌, cond, ltb, eqb, List, [], ◌∷◌, length, get_or, All, sym, ap, subst, ◌∙◌, arith}
use Rattle.std.specs.List.{AllByRecursion, IsDistinct}
use Rattle.std.specs.List.Sorted.{IsPermutation, IsSorted, IsStrictlyIncreasing}
use Rattle.std.specs.Ordering.{nat_cmp}
use Rattle.std.proofs.lemmas.List.{map-id}
use Rattle.std.proofs.lemmas.List.Sorted.{IsNonDecreasingBy-from_sort}
use Rattle.std.proofs.lemmas.Map.Keys.{IsDistinct-cons, IsDistinct-IsPermutation, IsStrictlyIncreasing-from_distinct}
use Rattle.std.proofs.lemmas.Bool.{ne_eqb}
use Rattle.std.proofs.lemmas.Bool.Decides.{nat_tests}
use Rattle.edge_io.proofs.AlongClasses.{AscendsBy-unique}
use Rattle.pattern_search.specs.Letters.{AllTold}
use Rattle.pattern_search.specs.Words.{word_of, word_at, has_ended}
use Rattle.pattern_search.specs.Occurring.{is_found, numbers, occurring}
use Rattle.pattern_search.specs.Finding.{is_ended, words_in}
use Rattle.pattern_search.proofs.States.Growing.{word_of-length}
use Rattle.pattern_search.proofs.Finding.Hitting.{numbers-same}
use Rattle.pattern_search.proofs.Finding.Making.{word-in}
use Rattle.pattern_search.proofs.Finding.Occurring.{ended-occurs}

module _ (letters : List ℕ) (patterns : List (List ℕ)) (text : List ℕ) (told : AllTold letters patterns) (short : All (λ byte. byte < 256) text) where
  ended-found : (place : ℕ) → place < length patterns → is_ended (words_in letters patterns) (word_of letters text) place ≡ is_found (word_at patterns place) text
  unfolding is_ended is_found
  ended-found place h =
      let pattern = word_at patterns place in
      let read = word_of letters text in
      ap (λ (w : List ℕ). ltb 0 (length w) && has_ended w read) (word-in letters patterns place h)
      ∙ ap (λ (n : ℕ). ltb 0 n && has_ended (word_of letters pattern) read) (word_of-length letters pattern)
      ∙ ap (λ b. ltb 0 (length pattern) && b) (ended-occurs letters pattern text (told.each place [] h).each short)

  pub ended-occurring : numbers (is_ended (words_in letters patterns) (word_of letters text)) 0 (length patterns) ≡ occurring patterns text
  unfolding occurring
  ended-occurring =
      let ended = is_ended (words_in letters patterns) (word_of letters text) in
      let found : ℕ → Bool = λ place. is_found (word_at patterns place) text in
      numbers-same ended found 0 (length patterns) (λ place low high. ended-found place (omega (arith, high)))

eqb-flips : (x y : ℕ) → eqb x y ≡ eqb y x
eqb-flips x y = grind (arith, nat_tests)

-- numbers that pass a test differ, and ascend
numbers-above : (test : ℕ → Bool) (low from count : ℕ) → low < from → AllByRecursion (λ y. eqb low y ≡ false) (numbers test from count)
unfolding numbers
numbers-above test low from zero h = tt
numbers-above test low from (suc count) h = go (test from) (numbers test (from + 1) count) (numbers-above test low (from + 1) count (omega arith))
  where
    go : (b : Bool) (later : List ℕ) → AllByRecursion (λ y. eqb low y ≡ false) later → AllByRecursion (λ y. eqb low y ≡ false) (cond b (from ∷ later) later)
    go true later rest = (ne_eqb low from (λ e. omega (arith, e, h)), rest)
    go false later rest = rest

numbers-distinct : (test : ℕ → Bool) (from count : ℕ) → IsDistinct eqb (numbers test from count)
unfolding numbers IsDistinct
numbers-distinct test from zero = tt
numbers-distinct test from (suc count) =
    go (test from) (numbers test (from + 1) count) (numbers-above test from (from + 1) count (omega arith)) (numbers-distinct test (from + 1) count)
  where
    go : (b : Bool) (later : List ℕ) → AllByRecursion (λ y. eqb from y ≡ false) later → IsDistinct eqb later → IsDistinct eqb (cond b (from ∷ later) later)
    go true later above rest = IsDistinct-cons eqb from later above rest
    go false later above rest = rest

numbers-first : (test : ℕ → Bool) (from count : ℕ) → 0 < length (numbers test from count) → from ≤ get_or (numbers test from count) 0 0
unfolding numbers
numbers-first test from zero h = absurd (omega arith)
numbers-first test from (suc count) h = go (test from) (numbers test (from + 1) count) (numbers-first test (from + 1) count) h
  where
    go : (b : Bool) (later : List ℕ) → (0 < length later → from + 1 ≤ get_or later 0 0) → 0 < length (cond b (from ∷ later) later)
        → from ≤ get_or (cond b (from ∷ later) later) 0 0
    go true later rest k = omega arith
    go false later rest k = omega (arith, rest k)

increasing-cons : (x : ℕ) (xs : List ℕ) → (0 < length xs → x < get_or xs 0 0) → IsStrictlyIncreasing xs → IsStrictlyIncreasing (x ∷ xs)
increasing-cons x xs first up zero h = first (omega arith)
increasing-cons x xs first up (suc k) h =
    let e : suc (k + 1) ≡ suc k + 1 = omega arith in
    let P : ℕ → Type 0 = λ i. get_or xs k 0 < get_or (x ∷ xs) i 0 in
    subst P e (up k (omega arith))

numbers-increase : (test : ℕ → Bool) (from count : ℕ) → IsStrictlyIncreasing (numbers test from count)
unfolding numbers
numbers-increase test from zero = λ k h. absurd (omega arith)
numbers-increase test from (suc count) =
    go (test from) (numbers test (from + 1) count) (numbers-increase test (from + 1) count) (numbers-first test (from + 1) count)
  where
    go : (b : Bool) (later : List ℕ) → IsStrictlyIncreasing later → (0 < length later → from + 1 ≤ get_or later 0 0) → IsStrictlyIncreasing (cond b (from ∷ later) later)
    go true later rest first = increasing-cons from later (λ h. omega (arith, first h)) rest
    go false later rest first = rest

-- sorted, they are the list of them
sorted-numbers : (test : ℕ → Bool) (count : ℕ) (sorted : List ℕ) → IsPermutation (numbers test 0 count) sorted → IsSorted nat_cmp sorted → sorted ≡ numbers test 0 count
sorted-numbers test count sorted moved order =
    let ns = numbers test 0 count in
    let distinct = IsDistinct-IsPermutation eqb eqb-flips ns sorted moved (numbers-distinct test 0 count) in
    let up = IsStrictlyIncreasing-from_distinct sorted (IsNonDecreasingBy-from_sort (λ x. x) sorted order) distinct in
    let P : List ℕ → Type 0 = λ xs. IsStrictlyIncreasing xs in
    sym (AscendsBy-unique (λ x. x) ns sorted moved (subst P (sym (map-id ns)) (numbers-increase test 0 count)) (subst P (sym (map-id sorted)) up))

pub sorted-occurring : (patterns : List (List ℕ)) (text sorted : List ℕ) → IsPermutation (occurring patterns text) sorted → IsSorted nat_cmp sorted → sorted ≡ occurring patterns text
unfolding occurring
sorted-occurring patterns text sorted moved order = sorted-numbers (λ place. is_found (word_at patterns place) text) (length patterns) sorted moved order
