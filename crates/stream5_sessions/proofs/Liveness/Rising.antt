-- Rising lists of numbers: two that have the same numbers are one.
use Rattle.std.proofs.Common.{◌≡◌, ℕ, zero, suc, ◌+◌, ◌<◌, ◌≤◌, Bool, true, false, cond, ◌||◌, eqb, List, [], ◌∷◌, length, filter, get_or, refl, sym, ap, ◌∙◌, subst, arith}
use Rattle.std.specs.Bool.{⊤}
use Rattle.std.specs.List.{list_any, range_with_len, AllPairs, IsDistinct}
use Rattle.std.specs.List.Sorted.{IsPermutation, IsNonDecreasing}
use Rattle.std.proofs.lemmas.Bool.{false≢true, eqb-true, eq-eqb}
use Rattle.std.proofs.lemmas.Bool.Decides.{nat_tests}
use Rattle.std.proofs.lemmas.List.Kept.{AllPairs-from_increasing}
use Rattle.std.proofs.lemmas.List.Sorted.{list_any-IsPermutation}
use Rattle.std.proofs.lemmas.Map.Keys.{IsDistinct-IsPermutation, IsStrictlyIncreasing-from_distinct}

-- the number is in the list
abbrev pub among : List ℕ → ℕ → Bool
among numbers number = list_any (eqb number) numbers

abbrev pub Above : ℕ → List ℕ → Type 0
Above low numbers = (number : ℕ) → among numbers number ≡ true → low < number

abbrev pub Rises : List ℕ → Type 0
Rises [] = ⊤
Rises (first ∷ later) = Above first later × Rises later

self : (n : ℕ) → eqb n n ≡ true
self n = eq-eqb n n refl

head_among : (x : ℕ) (xs : List ℕ) → among (x ∷ xs) x ≡ true
head_among x xs = rw (self x)

-- a number that is in a list with this head is the head, or in the rest
split : (f x : ℕ) (xs : List ℕ) → among (x ∷ xs) f ≡ true → eqb f x ≡ false → among xs f ≡ true
split f x xs h apart = rw apart at h

below_is : (x y : ℕ) (xs ys : List ℕ) → Rises (x ∷ xs) → Rises (y ∷ ys) → ((f : ℕ) → among (x ∷ xs) f ≡ among (y ∷ ys) f) → x < y → ⊥
below_is x y xs ys r s same less =
    let apart : eqb x y ≡ false = grind (arith, nat_tests) in
    let later : y < x = s.0 x (split x y ys (sym (same x) ∙ head_among x xs) apart) in
    omega arith

head_is : (x y : ℕ) (xs ys : List ℕ) → Rises (x ∷ xs) → Rises (y ∷ ys) → ((f : ℕ) → among (x ∷ xs) f ≡ among (y ∷ ys) f) → x ≡ y
head_is x y xs ys r s same =
    let up : x < y → ⊥ = below_is x y xs ys r s same in
    let down : y < x → ⊥ = below_is y x ys xs s r (λ f. sym (same f)) in
    grind arith

outside : (x : ℕ) (xs : List ℕ) → Above x xs → among xs x ≡ false
outside x xs above = (elim (among xs x) as (λ b. among xs x ≡ b → b ≡ false) [
  | true ↦ λ t. let less : x < x = above x t in absurd (omega arith)
  | false ↦ λ t. refl
]) refl

tails_are : (x : ℕ) (xs ys : List ℕ) → Above x xs → Above x ys → ((f : ℕ) → among (x ∷ xs) f ≡ among (x ∷ ys) f) → (f : ℕ) → among xs f ≡ among ys f
tails_are x xs ys r s same f = (elim (eqb f x) as (λ b. eqb f x ≡ b → among xs f ≡ among ys f) [
  | true ↦ λ t. ap (among xs) (eqb-true f x t) ∙ outside x xs r ∙ sym (ap (among ys) (eqb-true f x t) ∙ outside x ys s)
  | false ↦ λ t. ap (λ (b : Bool). b || among xs f) (sym t) ∙ same f ∙ ap (λ (b : Bool). b || among ys f) t
]) refl

pub Rises-unique : (xs ys : List ℕ) → Rises xs → Rises ys → ((f : ℕ) → among xs f ≡ among ys f) → xs ≡ ys
Rises-unique [] [] r s same = refl
Rises-unique [] (y ∷ ys) r s same = absurd (false≢true (same y ∙ head_among y ys))
Rises-unique (x ∷ xs) [] r s same = absurd (false≢true (sym (same x) ∙ head_among x xs))
Rises-unique (x ∷ xs) (y ∷ ys) r s same =
    let first : y ≡ x = sym (head_is x y xs ys r s same) in
    let above : Above x ys = subst (λ (z : ℕ). Above z ys) first s.0 in
    let same_x : (f : ℕ) → among (x ∷ xs) f ≡ among (x ∷ ys) f = λ f. same f ∙ ap (λ (z : ℕ). among (z ∷ ys) f) first in
    ap (λ (zs : List ℕ). x ∷ zs) (Rises-unique xs ys r.1 s.1 (tails_are x xs ys r.0 above same_x)) ∙ ap (λ (z : ℕ). z ∷ ys) (sym first)

pub among_at : (xs : List ℕ) (f d : ℕ) → among xs f ≡ true → (j : ℕ) × (j < length xs) × (get_or xs j d ≡ f)
among_at [] f d h = absurd (false≢true h)
among_at (x ∷ xs) f d h = (elim (eqb f x) as (λ b. eqb f x ≡ b → (j : ℕ) × (j < length (x ∷ xs)) × (get_or (x ∷ xs) j d ≡ f)) [
  | true ↦ λ t. (0, omega arith, sym (eqb-true f x t))
  | false ↦ λ t. let at = among_at xs f d (split f x xs h t) in (suc at.0, omega (arith, at.1), at.2)
]) refl

pub Rises-from_pairs : (xs : List ℕ) → AllPairs (λ x y. x < y) xs → Rises xs
Rises-from_pairs [] pairs = tt
Rises-from_pairs (x ∷ xs) pairs = (
  λ f h. let at = among_at xs f 0 h in let less : x < get_or xs at.0 0 = pairs 0 (suc at.0) 0 (omega arith) (omega (arith, at.1)) in subst (λ (z : ℕ). x < z) at.2 less,
  Rises-from_pairs xs (λ i j d apart within. pairs (suc i) (suc j) d (omega arith) (omega arith)),
)

-- numbers that were sorted and of which no two are equal
pub Rises-sorted : (xs sorted : List ℕ) → IsDistinct eqb xs → IsPermutation xs sorted → IsNonDecreasing sorted → Rises sorted
Rises-sorted xs sorted apart moved up =
    Rises-from_pairs sorted
    (AllPairs-from_increasing sorted
    (IsStrictlyIncreasing-from_distinct sorted up (IsDistinct-IsPermutation eqb flips xs sorted moved apart)))
  where
    flips : (m n : ℕ) → eqb m n ≡ eqb n m
    flips m n = grind (arith, nat_tests)

pub among-sorted : (xs sorted : List ℕ) → IsPermutation xs sorted → (f : ℕ) → among sorted f ≡ among xs f
among-sorted xs sorted moved f = sym (list_any-IsPermutation (eqb f) xs sorted moved)

-- the numbers from the first on that pass
pub among-range : (test : ℕ → Bool) (a n f : ℕ) → among (filter test (range_with_len a n)) f ≡ true → (a ≤ f) × (f < a + n) × (test f ≡ true)
among-range test a zero f h = absurd (false≢true h)
among-range test a (suc n) f h =
    (elim (test a) as
    (λ b. test a ≡ b →
    among (cond b (a ∷ filter test (range_with_len (a + 1) n)) (filter test (range_with_len (a + 1) n))) f ≡ true →
    (a ≤ f) × (f < a + suc n) × (test f ≡ true)) [
      | true ↦ λ t h. (elim (eqb f a) as (λ b. eqb f a ≡ b → (a ≤ f) × (f < a + suc n) × (test f ≡ true)) [
        | true ↦ λ u. let is : f ≡ a = eqb-true f a u in (omega arith, omega arith, ap test is ∙ t)
        | false ↦ λ u.
            let on = among-range test (a + 1) n f (split f a (filter test (range_with_len (a + 1) n)) h u) in
            (omega (arith, on.0), omega (arith, on.1), on.2)
      ]) refl
      | false ↦ λ t h. let on = among-range test (a + 1) n f h in (omega (arith, on.0), omega (arith, on.1), on.2)
    ]) refl h

pub range-among : (test : ℕ → Bool) (a n f : ℕ) → a ≤ f → f < a + n → test f ≡ true → among (filter test (range_with_len a n)) f ≡ true
range-among test a zero f low high h = absurd (omega arith)
range-among test a (suc n) f low high h = (elim (eqb f a) as (λ b. eqb f a ≡ b → among (filter test (range_with_len a (suc n))) f ≡ true) [
  | true ↦ λ u. let here : test a ≡ true = ap test (sym (eqb-true f a u)) ∙ h in rw (here, u)
  | false ↦ λ u.
      let on : among (filter test (range_with_len (a + 1) n)) f ≡ true = range-among test (a + 1) n f (grind (arith, nat_tests)) (omega arith) h in
      (elim (test a) as (λ b. among (cond b (a ∷ filter test (range_with_len (a + 1) n)) (filter test (range_with_len (a + 1) n))) f ≡ true) [ true ↦ rw u on | false ↦ on ])
]) refl

pub Rises-range : (test : ℕ → Bool) (a n : ℕ) → Rises (filter test (range_with_len a n))
Rises-range test a zero = tt
Rises-range test a (suc n) = (elim (test a) as (λ b. Rises (cond b (a ∷ filter test (range_with_len (a + 1) n)) (filter test (range_with_len (a + 1) n)))) [
  | true ↦ (λ f h. omega (arith, (among-range test (a + 1) n f h).0), Rises-range test (a + 1) n)
  | false ↦ Rises-range test (a + 1) n
])

same_truth : (a b : Bool) → (a ≡ true → b ≡ true) → (b ≡ true → a ≡ true) → a ≡ b
same_truth true b f g = sym (f refl)
same_truth false true f g = g refl
same_truth false false f g = refl

-- a sorted list without equal numbers is that of the numbers below a bound which are in it
pub sorted-is : (xs sorted : List ℕ) (test : ℕ → Bool) (n : ℕ)
    → IsDistinct eqb xs
    → IsPermutation xs sorted
    → IsNonDecreasing sorted
    → ((f : ℕ) → among xs f ≡ true → (f < n) × (test f ≡ true))
    → ((f : ℕ) → test f ≡ true → among xs f ≡ true)
    → sorted ≡ filter test (range_with_len 0 n)
sorted-is xs sorted test n apart moved up inside outside =
    Rises-unique sorted (filter test (range_with_len 0 n)) (Rises-sorted xs sorted apart moved up) (Rises-range test 0 n)
    (λ f. same_truth (among sorted f) (among (filter test (range_with_len 0 n)) f)
    (λ h. let in_xs = inside f (sym (among-sorted xs sorted moved f) ∙ h) in range-among test 0 n f (omega arith) (omega (arith, in_xs.0)) in_xs.1)
    (λ h. among-sorted xs sorted moved f ∙ outside f (among-range test 0 n f h).2))
