-- The entry that a number finds, and the ascending list that some numbers make, in whatever order they came.
use Rattle.std.proofs.Common.{◌≡◌, ℕ, ◌<◌, ◌≤◌, zero, suc, Bool, true, false, cond, List, [], ◌∷◌, get_or, eqb, AllPairs, Contains, Option, None, Some, sym, ap, ◌∙◌, subst, refl, arith}
use Rattle.std.specs.List.{IsDistinct}
use Rattle.std.specs.List.Sorted.{IsPermutation, IsStrictlyIncreasing}
use Rattle.std.proofs.lemmas.Bool.Decides.{nat_tests}
use Rattle.std.proofs.lemmas.List.{get_or-map, length-map}
use Rattle.std.proofs.lemmas.List.Elements.{All-from_recursion}
use Rattle.std.proofs.lemmas.List.Kept.{AllPairs-from_increasing}
use Rattle.std.proofs.lemmas.List.Sorted.{Contains-permutation, IsPermutation-sym}
use Rattle.std.proofs.lemmas.Map.Keys.{IsDistinct-IsPermutation, IsDistinct-from_apart, IsDistinct-head, IsDistinct-tail}
use Rattle.std.proofs.lemmas.Option.{same_Some}
use Rattle.ordered_merge.specs.declared.numbered.Numbered.{Numbered}
use Rattle.ordered_merge.specs.Merging.{entry_of, numbers}
use Rattle.ordered_merge.proofs.Numbers.{apart_above, eqb_flips}

-- ---- the entry of a number

-- what a number finds at the first entry or after it
at_first : {T : Type 0} (first entry : Numbered T) (entries : List (Numbered T)) (number : ℕ) (same : Bool)
    → eqb first.number number ≡ same
    → cond same (Some first) (entry_of entries number) ≡ Some entry
    → (entry_of entries number ≡ Some entry → Contains entries entry × (entry.number ≡ number))
    → Contains (first ∷ entries) entry × (entry.number ≡ number)
at_first {T} first entry entries number true test found after =
    let is : first ≡ entry = same_Some first entry found in
    let numbered : first.number ≡ number = grind (arith, nat_tests) in
    ((0, omega arith, is), ap (λ (e : Numbered T). e.number) (sym is) ∙ numbered)
at_first first entry entries number false test found after =
    let has = after found in
    ((suc has.0.0, omega (arith, has.0.1), has.0.2), has.1)

-- what a number finds has it and is in the list
entry_of-Some : {T : Type 0} (entries : List (Numbered T)) (number : ℕ) (entry : Numbered T) → entry_of entries number ≡ Some entry → Contains entries entry × (entry.number ≡ number)
entry_of-Some [] number entry found = absurd (cc)
entry_of-Some (first ∷ entries) number entry found =
    at_first first entry entries number (eqb first.number number) refl found (entry_of-Some entries number entry)

-- no later entry has the number of the first
apart_from_first : {T : Type 0} (first entry : Numbered T) (entries : List (Numbered T)) → IsDistinct eqb (numbers (first ∷ entries)) → Contains entries entry → eqb first.number entry.number ≡ false
apart_from_first {T} first entry entries apart has =
    let each = All-from_recursion (λ (n : ℕ). eqb first.number n ≡ false) (numbers entries) (IsDistinct-head eqb first.number (numbers entries) apart) in
    let here = get_or-map (λ (e : Numbered T). e.number) entries has.0 entry 0 has.1 in
    rw (here, has.2) at (each has.0 0 (omega (arith, has.1, length-map entries (λ (e : Numbered T). e.number))))

-- the one entry of a number is found
entry_of-from_Contains : {T : Type 0} (entries : List (Numbered T)) (entry : Numbered T) → IsDistinct eqb (numbers entries) → Contains entries entry → entry_of entries entry.number ≡ Some entry
entry_of-from_Contains [] entry apart has = absurd (omega (arith, has.1))
entry_of-from_Contains {T} (first ∷ entries) entry apart (zero, within, is) =
    let same : first.number ≡ entry.number = ap (λ (e : Numbered T). e.number) is in
    let test : eqb first.number entry.number ≡ true = grind (arith, nat_tests) in
    rw test (ap Some is)
entry_of-from_Contains (first ∷ entries) entry apart (suc k, within, is) =
    let has : Contains entries entry = (k, omega arith, is) in
    rw (apart_from_first first entry entries apart has) (entry_of-from_Contains entries entry (IsDistinct-tail eqb first.number (numbers entries) apart) has)

-- what is found in some order is found in each
found_too : {T : Type 0} (entries moved : List (Numbered T)) (number : ℕ) (entry : Numbered T)
    → IsPermutation entries moved
    → IsDistinct eqb (numbers moved)
    → entry_of entries number ≡ Some entry
    → entry_of moved number ≡ Some entry
found_too entries moved number entry permutation apart found =
    let has = entry_of-Some entries number entry found in
    subst (λ (n : ℕ). entry_of moved n ≡ Some entry) has.1 (entry_of-from_Contains moved entry apart (Contains-permutation entries moved entry permutation has.0))

by_answers : {T : Type 0} (entries moved : List (Numbered T)) (number : ℕ) (one other : Option (Numbered T))
    → IsPermutation entries moved
    → IsDistinct eqb (numbers entries)
    → IsDistinct eqb (numbers moved)
    → entry_of entries number ≡ one
    → entry_of moved number ≡ other
    → other ≡ one
by_answers entries moved number (Some entry) other permutation apart apart_too found found_moved =
    sym found_moved ∙ found_too entries moved number entry permutation apart_too found
by_answers entries moved number None None permutation apart apart_too found found_moved = refl
by_answers entries moved number None (Some entry) permutation apart apart_too found found_moved =
    let also = found_too moved entries number entry (IsPermutation-sym entries moved permutation) apart found_moved in
    cc

-- entries of which no two have one number are found alike in any order
pub entry_of-permutation : {T : Type 0} (entries moved : List (Numbered T)) (number : ℕ)
    → IsPermutation entries moved
    → IsDistinct eqb (numbers entries)
    → IsDistinct eqb (numbers moved)
    → entry_of moved number ≡ entry_of entries number
entry_of-permutation entries moved number permutation apart apart_too =
    by_answers entries moved number (entry_of entries number) (entry_of moved number) permutation apart apart_too refl refl

-- ---- the ascending list of some numbers

-- each number is below all later ones
abbrev Rises : List ℕ → Type 0
Rises xs = AllPairs (λ x y. x < y) xs

Rises-tail : (x : ℕ) (xs : List ℕ) → Rises (x ∷ xs) → Rises xs
Rises-tail x xs up i j d before within = up (suc i) (suc j) d (omega arith) (omega arith)

-- the first number is the least
least : (x z : ℕ) (xs : List ℕ) → Rises (x ∷ xs) → Contains xs z → x < z
least x z xs up has = omega (arith, up 0 (suc has.0) z (omega arith) (omega (arith, has.1)), has.2)

least_or_same : (x z : ℕ) (xs : List ℕ) → Rises (x ∷ xs) → Contains (x ∷ xs) z → x ≤ z
least_or_same x z xs up (zero, within, is) = omega (arith, is)
least_or_same x z xs up (suc k, within, is) = let above = least x z xs up (k, omega arith, is) in omega arith

-- a number above the first is after it
after_the_first : (y z : ℕ) (ys : List ℕ) → y < z → Contains (y ∷ ys) z → Contains ys z
after_the_first y z ys above (zero, within, is) = absurd (omega (arith, is))
after_the_first y z ys above (suc k, within, is) = (k, omega arith, is)

tails_have : (x y : ℕ) (xs ys : List ℕ) → x ≡ y → Rises (x ∷ xs) → ((z : ℕ) → Contains (x ∷ xs) z → Contains (y ∷ ys) z) → (z : ℕ) → Contains xs z → Contains ys z
tails_have x y xs ys same up there z has =
    let above = least x z xs up has in
    after_the_first y z ys (omega arith) (there z (suc has.0, omega (arith, has.1), has.2))

-- ascending lists that have the same numbers are one list
same_lists : (xs ys : List ℕ) → Rises xs → Rises ys → ((z : ℕ) → Contains xs z → Contains ys z) → ((z : ℕ) → Contains ys z → Contains xs z) → xs ≡ ys
same_lists [] [] up up_too there back = refl
same_lists [] (y ∷ ys) up up_too there back = absurd (omega (arith, (back y (0, omega arith, refl)).1))
same_lists (x ∷ xs) [] up up_too there back = absurd (omega (arith, (there x (0, omega arith, refl)).1))
same_lists (x ∷ xs) (y ∷ ys) up up_too there back =
    let low = least_or_same y x ys up_too (there x (0, omega arith, refl)) in
    let high = least_or_same x y xs up (back y (0, omega arith, refl)) in
    let same : x ≡ y = omega arith in
    let rest = same_lists xs ys (Rises-tail x xs up) (Rises-tail y ys up_too) (tails_have x y xs ys same up there) (tails_have y x ys xs (sym same) up_too back) in
    cc

-- the ascending order of some numbers is unique
pub ascending_unique : (xs ys : List ℕ) → IsPermutation xs ys → IsStrictlyIncreasing xs → IsStrictlyIncreasing ys → xs ≡ ys
ascending_unique xs ys permutation up up_too =
    same_lists xs ys (AllPairs-from_increasing xs up) (AllPairs-from_increasing ys up_too)
    (λ z. Contains-permutation xs ys z permutation)
    (λ z. Contains-permutation ys xs z (IsPermutation-sym xs ys permutation))

-- numbers that are those of an ascending list, in another order, are all different
pub apart_permuted : (given permuted : List ℕ) → IsStrictlyIncreasing given → IsPermutation given permuted → IsDistinct eqb permuted
apart_permuted given permuted up permutation =
    IsDistinct-IsPermutation eqb eqb_flips given permuted permutation
    (IsDistinct-from_apart eqb given
    (λ i j d before within. apart_above (get_or given i d) (get_or given j d)
    (AllPairs-from_increasing given up i j d before within)))
