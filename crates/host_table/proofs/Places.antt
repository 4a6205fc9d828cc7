-- The place of the first element that passes a test.
use Rattle.std.proofs.Common.{◌≡◌, ℕ, suc, ◌+◌, ◌-◌, ◌<◌, ◌≤◌, Bool, true, false, ◌||◌, cond, List, [], ◌∷◌, ◌++◌, length, get_or, Some, None, is_some, refl, sym, ap, ◌∙◌, arith}
use Rattle.std.specs.List.{position_from, list_any, find}

module _ {X : Type 0} (test : X → Bool) where
  -- an element passes where there is a place
  pub any-place : (from : ℕ) (xs : List X) → list_any test xs ≡ is_some (position_from test from xs)
  any-place from [] = refl
  any-place from (x ∷ xs) = by (test x) (any-place (from + 1) xs) where
    by : (b : Bool) → list_any test xs ≡ is_some (position_from test (from + 1) xs) → (b || list_any test xs) ≡ is_some (cond b (Some from) (position_from test (from + 1) xs))
    by true later = refl
    by false later = later

  -- an element after the others that fails changes nothing
  pub place-push_other : (from : ℕ) (xs : List X) (x : X) → test x ≡ false → position_from test from (xs ++ x ∷ []) ≡ position_from test from xs
  place-push_other from [] x fails = ap (λ b. cond b (Some from) None) fails
  place-push_other from (y ∷ xs) x fails = ap (cond (test y) (Some from)) (place-push_other (from + 1) xs x fails)

  -- an element that passes is the first, where none before it does
  pub place-push_first : (from : ℕ) (xs : List X) (x : X) → position_from test from xs ≡ None → test x ≡ true → position_from test from (xs ++ x ∷ []) ≡ Some (from + length xs)
  place-push_first from [] x none passes = ap (λ b. cond b (Some from) None) passes ∙ ap Some (omega arith)
  place-push_first from (y ∷ xs) x none passes = by (test y) none (λ later. place-push_first (from + 1) xs x later passes) where
    at_last : from + 1 + length xs ≡ from + length (y ∷ xs)
    at_last = omega arith

    by : (b : Bool)
        → cond b (Some from) (position_from test (from + 1) xs) ≡ None
        → (position_from test (from + 1) xs ≡ None → position_from test (from + 1) (xs ++ x ∷ []) ≡ Some (from + 1 + length xs))
        → cond b (Some from) (position_from test (from + 1) (xs ++ x ∷ [])) ≡ Some (from + length (y ∷ xs))
    by true some later = cc
    by false none later = later none ∙ ap Some at_last

  -- what is found first is at that place
  pub place-finds : (from : ℕ) (xs : List X) (place : ℕ) (d : X)
      → position_from test from xs ≡ Some place
      → (from ≤ place) × (place < from + length xs) × (find test xs ≡ Some (get_or xs (place - from) d))
  place-finds from [] place d is = cc
  place-finds from (x ∷ xs) place d is = by (test x) refl is (place-finds (from + 1) xs place d) where
    passes : test x ≡ true → Some from ≡ Some place → (from ≤ place) × (place < from + length (x ∷ xs)) × (find test (x ∷ xs) ≡ Some (get_or (x ∷ xs) (place - from) d))
    passes test_is at =
        let here : from ≡ place = cc in
        let none : place - from ≡ 0 = omega arith in
        (omega arith, omega arith, ap (λ b. cond b (Some x) (find test xs)) test_is ∙ ap (λ k. Some (get_or (x ∷ xs) k d)) (sym none))

    fails : test x ≡ false
        → (from + 1 ≤ place) × (place < from + 1 + length xs) × (find test xs ≡ Some (get_or xs (place - (from + 1)) d))
        → (from ≤ place) × (place < from + length (x ∷ xs)) × (find test (x ∷ xs) ≡ Some (get_or (x ∷ xs) (place - from) d))
    fails test_is later =
        let next : suc (place - (from + 1)) ≡ place - from = omega (arith, later.0) in
        (omega (arith, later.0), omega (arith, later.1), ap (λ b. cond b (Some x) (find test xs)) test_is ∙ later.2 ∙ ap (λ k. Some (get_or (x ∷ xs) k d)) next)

    by : (b : Bool) → test x ≡ b → cond b (Some from) (position_from test (from + 1) xs) ≡ Some place
        → (position_from test (from + 1) xs ≡ Some place → (from + 1 ≤ place) × (place < from + 1 + length xs) × (find test xs ≡ Some (get_or xs (place - (from + 1)) d)))
        → (from ≤ place) × (place < from + length (x ∷ xs)) × (find test (x ∷ xs) ≡ Some (get_or (x ∷ xs) (place - from) d))
    by true test_is at later = passes test_is at
    by false test_is at later = fails test_is (later at)

  -- the place that is found is one of the list's
  pub place-within : (from : ℕ) (xs : List X) (place : ℕ) → position_from test from xs ≡ Some place → place < from + length xs
  place-within from [] place is = cc
  place-within from (x ∷ xs) place is = (place-finds from (x ∷ xs) place x is).1

  -- where nothing is found, nothing passes
  pub place-none : (from : ℕ) (xs : List X) → position_from test from xs ≡ None → find test xs ≡ None
  place-none from [] is = refl
  place-none from (x ∷ xs) is = by (test x) is (place-none (from + 1) xs) where
    by : (b : Bool) → cond b (Some from) (position_from test (from + 1) xs) ≡ None → (position_from test (from + 1) xs ≡ None → find test xs ≡ None) → cond b (Some x) (find test xs) ≡ None
    by true some later = cc
    by false none later = later none
