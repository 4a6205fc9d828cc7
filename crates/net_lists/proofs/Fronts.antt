-- How long the front of a list is whose elements pass a test, as `position` finds its end.
use Rattle.std.proofs.Common.{◌≡◌, ℕ, ◌+◌, ◌≤◌, Bool, true, false, not, cond, ltb, List, [], ◌∷◌, length, Some, None, refl, ◌∙◌, arith, unwrap_or}
use Rattle.std.specs.List.{position, prefix_len}
use Rattle.std.proofs.lemmas.List.Sums.{prefix_len-le-length}

-- two tests that agree have fronts of one length
pub prefix_len_same : {X : Type 0} (p q : X → Bool) → ((x : X) → p x ≡ q x) → (xs : List X) → prefix_len p xs ≡ prefix_len q xs
prefix_len_same p q same [] = refl
prefix_len_same p q same (x ∷ xs) = λ i. cond (same x i) (1 + prefix_len_same p q same xs i) 0

not_not : (b : Bool) → not (not b) ≡ b
not_not true = refl
not_not false = refl

chosen : (n len : ℕ) → n ≤ len → (b : Bool) → ltb n len ≡ b → unwrap_or (cond b (Some n) None) len ≡ n
chosen n len h true e = refl
chosen n len h false e = grind arith

-- the place of the first that fails, or the length
pub unwrap_or-position : (p : ℕ → Bool) (xs : List ℕ) → unwrap_or (position (λ x. not (p x)) xs) (length xs) ≡ prefix_len p xs
unwrap_or-position p xs =
    let q : ℕ → Bool = λ x. not (not (p x)) in
    chosen (prefix_len q xs) (length xs) (prefix_len-le-length q xs) _ refl ∙ prefix_len_same q p (λ x. not_not (p x)) xs

pub ruleset fronts = (unwrap_or-position, prefix_len-le-length)
