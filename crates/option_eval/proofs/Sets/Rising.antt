-- Places that rise.
use Rattle.std.proofs.Common.{◌≡◌, ℕ, zero, suc, ◌+◌, ◌<◌, ◌≤◌, ◌⊎◌, inl, inr, ⊎_elim, Bool, true, false, List, [], ◌∷◌, ◌++◌, length, refl, sym, arith, Contains}
use Rattle.option_eval.specs.Sets.{IsRising, IsGot}

pub rising_low : (xs : List ℕ) (low low' high : ℕ) → low' ≤ low → IsRising low xs high → IsRising low' xs high
rising_low [] low low' high less h = omega arith
rising_low (x ∷ xs) low low' high less h = (omega (arith, h.0), h.1)

pub rising_high : (xs : List ℕ) (low high high' : ℕ) → high ≤ high' → IsRising low xs high → IsRising low xs high'
rising_high [] low high high' more h = omega arith
rising_high (x ∷ xs) low high high' more h = (h.0, rising_high xs (x + 1) high high' more h.1)

pub rising_push : (xs : List ℕ) (low mid x high : ℕ) → mid ≤ x → x < high → IsRising low xs mid → IsRising low (xs ++ x ∷ []) high
rising_push [] low mid x high from below h = (omega arith, omega arith)
rising_push (y ∷ xs) low mid x high from below h = (h.0, rising_push xs (y + 1) mid x high from below h.1)

pub rising_length : (xs : List ℕ) (low high : ℕ) → IsRising low xs high → length xs + low ≤ high
rising_length [] low high h = omega arith
rising_length (x ∷ xs) low high h = omega (arith, rising_length xs (x + 1) high h.1, h.0)

-- an element of a list is its first or one after that
pub contains_cases : (x : ℕ) (xs : List ℕ) (p : ℕ) → Contains (x ∷ xs) p → (p ≡ x) ⊎ Contains xs p
contains_cases x xs p (zero, within, is) = inl (sym is)
contains_cases x xs p (suc k, within, is) = inr (k, omega arith, is)

pub contains_first : (x : ℕ) (xs : List ℕ) → Contains (x ∷ xs) x
contains_first x xs = (0, omega arith, refl)

pub contains_after : (x : ℕ) (xs : List ℕ) (p : ℕ) → Contains xs p → Contains (x ∷ xs) p
contains_after x xs p h = (suc h.0, omega (arith, h.1), h.2)

pub rising_least : (xs : List ℕ) (low high p : ℕ) → IsRising low xs high → Contains xs p → low ≤ p
rising_least [] low high p h has = omega (arith, has.1)
rising_least (x ∷ xs) low high p h has =
    ⊎_elim (λ (is : p ≡ x). omega (arith, h.0)) (λ (after : Contains xs p). omega (arith, h.0, rising_least xs (x + 1) high p h.1 after)) (contains_cases x xs p has)

pub rising_most : (xs : List ℕ) (low high p : ℕ) → IsRising low xs high → Contains xs p → p < high
rising_most [] low high p h has = absurd (omega (arith, has.1))
rising_most (x ∷ xs) low high p h has =
    ⊎_elim (λ (is : p ≡ x). omega (arith, rising_length xs (x + 1) high h.1)) (λ (after : Contains xs p). rising_most xs (x + 1) high p h.1 after) (contains_cases x xs p has)

-- what a set has a larger one has too
pub got_kept : (every : Bool) (old new : List ℕ) (q : ℕ) → ((p : ℕ) → Contains old p → Contains new p) → IsGot every old q → IsGot every new q
got_kept true old new q kept h = kept q h
got_kept false [] new q kept h = absurd (omega (arith, h))
got_kept false (x ∷ old) new q kept h = let has = kept x (contains_first x old) in omega (arith, has.1)

-- a set that has a place has some place
pub got_of_contains : (every : Bool) (places : List ℕ) (q : ℕ) → Contains places q → IsGot every places q
got_of_contains true places q h = h
got_of_contains false places q h = omega (arith, h.1)
