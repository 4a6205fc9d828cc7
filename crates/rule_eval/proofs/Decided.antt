-- Facts that are decided: a truth value says whether they hold.
use Rattle.std.proofs.Common.{◌≡◌, ℕ, suc, zero, ◌<◌, ◌≤◌, eqb, leb, ◌⊎◌, inl, inr, ⊎_elim, ℤ, ◌<ℤ◌, ◌≤ℤ◌, Bool, true, false, not}
use Rattle.std.proofs.Common.{◌&&◌, ◌||◌, List, [], ◌∷◌, length, get_or, Option, Some, None, refl, sym, subst, arith, Decides}
use Rattle.std.proofs.Common.{IfSome, MatchBool}
use Rattle.std.specs.Ordering.{int_eq}
use Rattle.std.specs.Prelude.{All, Any}
use Rattle.std.proofs.lemmas.Bool.{false≢true, leb-true, le-leb, cases_lt}
use Rattle.std.proofs.lemmas.Bool.Decides.{Decides-and, Decides-or, Decides-not, Decides-eqb, Decides-int_eq}
use Rattle.std.proofs.lemmas.Int.{by_lt_z, ints}
use Rattle.std.proofs.lemmas.List.Elements.{All-nil, All-cons, All-head, All-tail}

-- a truth value says whether the fact holds
abbrev pub Decided : Type 0 → Type 0
Decided P = (b : Bool) × Decides b P

pub decided_yes : {P : Type 0} → P → Decided P
decided_yes p = (true, (λ is. p, λ p. refl))

pub decided_no : {P : Type 0} → (¬ P) → Decided P
decided_no none = (false, (λ is. absurd (false≢true is), λ p. absurd (none p)))

pub decided_like : {P Q : Type 0} → (P → Q) → (Q → P) → Decided P → Decided Q
decided_like there back p = (p.0, (λ is. there (p.1.0 is), λ q. p.1.1 (back q)))

pub decided_both : {P Q : Type 0} → Decided P → Decided Q → Decided (P × Q)
decided_both p q = (p.0 && q.0, Decides-and p.0 q.0 p.1 q.1)

pub decided_three : {P Q R : Type 0} → Decided P → Decided Q → Decided R → Decided (P × Q × R)
decided_three p q r = decided_like (λ h. (h.0, h.1.0, h.1.1)) (λ h. (h.0, (h.1, h.2))) (decided_both p (decided_both q r))

pub decided_either : {P Q : Type 0} → Decided P → Decided Q → Decided (P ⊎ Q)
decided_either p q = (p.0 || q.0, Decides-or p.0 q.0 p.1 q.1)

pub decided_not : {P : Type 0} → Decided P → Decided (¬ P)
decided_not p = (not p.0, Decides-not p.0 p.1)

pub decided_true : (b : Bool) → Decided (b ≡ true)
decided_true b = (b, (λ is. is, λ is. is))

pub decided_false : (b : Bool) → Decided (b ≡ false)
decided_false true = decided_no (λ is. false≢true (sym is))
decided_false false = decided_yes refl

pub decided_same : (a b : ℕ) → Decided (a ≡ b)
decided_same a b = (eqb a b, Decides-eqb a b)

pub decided_le : (a b : ℕ) → Decided (a ≤ b)
decided_le a b = (leb a b, (λ is. leb-true a b is, λ h. le-leb a b h))

-- whole numbers
pub decided_same_z : (a b : ℤ) → Decided (a ≡ b)
decided_same_z a b = (int_eq a b, Decides-int_eq a b)

pub decided_lt_z : (a b : ℤ) → Decided (a <ℤ b)
decided_lt_z a b = by_lt_z {P = Decided (a <ℤ b)} a b (λ h. decided_yes h) (λ h. decided_no (λ k. omega (arith, ints)))

pub decided_le_z : (a b : ℤ) → Decided (a ≤ℤ b)
decided_le_z a b = by_lt_z {P = Decided (a ≤ℤ b)} b a (λ h. decided_no (λ k. omega (arith, ints))) (λ h. decided_yes h)

-- a fact, or that it doesn't hold
pub decided_if : (b : Bool) (P Q : Type 0) → Decided P → Decided Q → Decided (MatchBool b P Q)
decided_if true P Q p q = p
decided_if false P Q p q = q

pub decided_if_some : {A : Type 0} (o : Option A) (P : A → Type 0) → ((x : A) → Decided (P x)) → Decided (IfSome o P)
decided_if_some None P each = decided_yes tt
decided_if_some (Some x) P each = each x

-- it is decided whether something holds of all of a list, and of all numbers below another
pub decided_all : {X : Type 0} (P : X → Type 0) → ((x : X) → Decided (P x)) → (xs : List X) → Decided (All P xs)
decided_all P each [] = decided_yes (All-nil P)
decided_all P each (x ∷ xs) =
    decided_like (λ h. All-cons P x xs h.0 h.1) (λ h. (All-head P x xs h, All-tail P x xs h)) (decided_both (each x) (decided_all P each xs))

pub decided_below : (P : ℕ → Type 0) → ((k : ℕ) → Decided (P k)) → (n : ℕ) → Decided ((k : ℕ) × (k < n) × P k)
decided_below P each zero = decided_no (λ h. let below = h.1 in omega arith)
decided_below P each (suc n) =
    decided_like there back (decided_either (each n) (decided_below P each n))
  where
    there : P n ⊎ ((k : ℕ) × (k < n) × P k) → (k : ℕ) × (k < suc n) × P k
    there (inl here) = (n, omega arith, here)
    there (inr h) = let below = h.1 in (h.0, omega arith, h.2)

    at_cases : (k : ℕ) → k < suc n → P k → (k ≡ n) ⊎ (k < n) → P n ⊎ ((k : ℕ) × (k < n) × P k)
    at_cases k below here (inl is) = inl (subst P is here)
    at_cases k below here (inr under) = inr (k, under, here)

    order : (k : ℕ) → k < suc n → (k ≡ n) ⊎ (k < n)
    order k below = ⊎_elim (λ (under : k < n). inr under) (λ (over : n ≤ k). let is : k ≡ n = omega arith in inl is) (cases_lt k n)

    back : (k : ℕ) × (k < suc n) × P k → P n ⊎ ((k : ℕ) × (k < n) × P k)
    back h = at_cases h.0 h.1 h.2 (order h.0 h.1)

pub decided_each_below : (P : ℕ → Type 0) → ((k : ℕ) → Decided (P k)) → (n : ℕ) → Decided ((k : ℕ) → k < n → P k)
decided_each_below P each n =
    decided_like
    (λ h k below. by_value (each k) (λ none. absurd (h (k, below, none))))
    (λ h w. w.2 (h w.0 w.1))
    (decided_not (decided_below (λ k. ¬ P k) (λ k. decided_not (each k)) n))
  where
    by_value : {Q : Type 0} → Decided Q → ((¬ Q) → Q) → Q
    by_value d other = elim d.0 as (λ b. Decides b _ → _) [ true ↦ λ h. h.0 refl | false ↦ λ h. other (λ q. false≢true (h.1 q)) ] d.1

-- it is decided whether some number is of a kind, where those of the kind are below a bound
pub decided_some : (P : ℕ → Type 0) → ((k : ℕ) → Decided (P k)) → (n : ℕ) → ((k : ℕ) → P k → k < n) → Decided ((k : ℕ) × P k)
decided_some P each n bound = decided_like (λ h. (h.0, h.2)) (λ h. (h.0, bound h.0 h.1, h.1)) (decided_below P each n)

-- it is decided whether something holds of some element of a list
pub decided_any : {X : Type 0} (P : X → Type 0) → ((x : X) → Decided (P x)) → (xs : List X) → Decided (Any P xs)
decided_any {X = X} P each [] = decided_no (λ h. let below = h.2 in omega arith)
decided_any {X = X} P each (x ∷ xs) = decided_like there back (decided_either (each x) (decided_any P each xs))
  where
    there : P x ⊎ Any P xs → Any P (x ∷ xs)
    there (inl here) = (0, x, omega arith, refl, here)
    there (inr h) = let below = h.2 in (suc h.0, h.1, omega arith, h.3, h.4)

    at_place : (k : ℕ) (y : X) → k < suc (length xs) → get_or (x ∷ xs) k y ≡ y → P y → P x ⊎ Any P xs
    at_place zero y below is here = inl (subst P (sym is) here)
    at_place (suc k) y below is here = inr (k, y, omega arith, is, here)

    back : Any P (x ∷ xs) → P x ⊎ Any P xs
    back h = at_place h.0 h.1 h.2 h.3 h.4
