-- The first place at which a test passes, by what it answers at each place; and the tails of bytes.
use Rattle.std.proofs.Common.{◌≡◌, ℕ, zero, suc, ◌+◌, ◌<◌, ◌≤◌, Bool, true, false, cond, List, [], ◌∷◌, length, drop, get_or, Some, None, refl, ap, ◌∙◌, arith}
use Rattle.std.specs.List.{position, position_from}
use Rattle.std.proofs.lemmas.Iterator.Adapters.{position_from-zero}
use Rattle.edge_io.specs.Matching.{tails}

-- the first of the places that pass, counted from one on
position_from_at : {X : Type 0} (test : X → Bool) (at : ℕ) (xs : List X) (place : ℕ) (d : X)
    → place < length xs
    → ((k : ℕ) → k < place → test (get_or xs k d) ≡ false)
    → test (get_or xs place d) ≡ true
    → position_from test at xs ≡ Some (at + place)
position_from_at test at [] place d below before here = absurd (omega arith)
position_from_at test at (x ∷ xs) zero d below before here = ap (λ b. cond b (Some at) (position_from test (at + 1) xs)) here ∙ ap Some (omega arith)
position_from_at test at (x ∷ xs) (suc place) d below before here =
    let rest : position_from test (at + 1) xs ≡ Some (at + 1 + place) = position_from_at test (at + 1) xs place d (omega arith) (λ k lt. before (suc k) (omega arith)) here in
    ap (λ b. cond b (Some at) (position_from test (at + 1) xs)) (before zero (omega arith)) ∙ rest ∙ ap Some (omega arith)

-- no place passes
position_from_none : {X : Type 0} (test : X → Bool) (at : ℕ) (xs : List X) (d : X) → ((k : ℕ) → k < length xs → test (get_or xs k d) ≡ false) → position_from test at xs ≡ None
position_from_none test at [] d before = refl
position_from_none test at (x ∷ xs) d before =
    ap (λ b. cond b (Some at) (position_from test (at + 1) xs)) (before zero (omega arith))
    ∙ position_from_none test (at + 1) xs d (λ k lt. before (suc k) (omega arith))

-- there is a tail from each place, and one at the end
length-tails : (bytes : List ℕ) → length (tails bytes) ≡ length bytes + 1
length-tails [] = refl
length-tails (byte ∷ bytes) = let rest = length-tails bytes in omega (arith, rest)

-- the tail from a place
get_or-tails : (bytes : List ℕ) (place : ℕ) (d : List ℕ) → place ≤ length bytes → get_or (tails bytes) place d ≡ drop place bytes
get_or-tails [] zero d within = refl
get_or-tails [] (suc place) d within = absurd (omega arith)
get_or-tails (byte ∷ bytes) zero d within = refl
get_or-tails (byte ∷ bytes) (suc place) d within = get_or-tails bytes place d (omega arith)

-- the first place from which the bytes pass
pub position_tails : (test : List ℕ → Bool) (bytes : List ℕ) (place : ℕ)
    → place ≤ length bytes
    → ((k : ℕ) → k < place → test (drop k bytes) ≡ false)
    → test (drop place bytes) ≡ true
    → position test (tails bytes) ≡ Some place
position_tails test bytes place within before here =
    position_from-zero test (tails bytes)
    ∙ position_from_at
    test
    0
    (tails bytes)
    place
    []
    (omega (arith, length-tails bytes))
    (λ k lt. ap test (get_or-tails bytes k [] (omega arith)) ∙ before k lt)
    (ap test (get_or-tails bytes place [] within) ∙ here)
    ∙ ap Some (omega arith)

-- the bytes pass from no place
pub position_tails_none : (test : List ℕ → Bool) (bytes : List ℕ) → ((k : ℕ) → k ≤ length bytes → test (drop k bytes) ≡ false) → position test (tails bytes) ≡ None
position_tails_none test bytes before =
    position_from-zero test (tails bytes)
    ∙ position_from_none test 0 (tails bytes) [] (λ k lt. let within : k ≤ length bytes = omega (arith, length-tails bytes) in ap test (get_or-tails bytes k [] within) ∙ before k within)
