-- Lists that have all of a kind, and are no longer than a count.
use Rattle.std.proofs.Common.{◌≡◌, ℕ, zero, suc, ◌+◌, ◌*◌, ◌<◌, ◌≤◌, ◌⊎◌, inl, inr, ⊎_elim, List, [], ◌∷◌, ◌++◌, length, map, refl, sym, ap, ◌∙◌, arith, Contains}
use Rattle.std.specs.Prelude.{min}
use Rattle.std.proofs.lemmas.List.{length-append, length-map}
use Rattle.std.proofs.lemmas.List.Elements.{Contains-append_left, Contains-append_right}
use Rattle.std.proofs.lemmas.Nat.{mul-le}
use Rattle.std.proofs.lemmas.Bool.{cases_lt}

pub record Few (X : Type 0) (count : ℕ) (P : X → Type 0) : Type 0 where
  pub items : List X
  pub few : length items ≤ count
  pub has : (x : X) → P x → Contains items x

pub list_cases : {X : Type 0} (x : X) (xs : List X) (y : X) → Contains (x ∷ xs) y → (y ≡ x) ⊎ Contains xs y
list_cases x xs y (zero, within, is) = inl (sym is)
list_cases x xs y (suc k, within, is) = inr (k, omega arith, is)

pub is_head : {X : Type 0} (x : X) (xs : List X) (y : X) → y ≡ x → Contains (x ∷ xs) y
is_head x xs y same = (0, omega arith, sym same)

pub is_after : {X : Type 0} (x : X) (xs : List X) (y : X) → Contains xs y → Contains (x ∷ xs) y
is_after x xs y has = (suc has.0, omega (arith, has.1), has.2)

contains_map : {X Y : Type 0} (f : X → Y) (xs : List X) (x : X) (y : Y) → Contains xs x → y ≡ f x → Contains (map f xs) y
contains_map f [] x y has is = absurd (omega (arith, has.1))
contains_map {X} f (z ∷ xs) x y has is = ⊎_elim
    (λ (same : x ≡ z). is_head (f z) (map f xs) y (is ∙ ap f same))
    (λ (after : Contains xs x). is_after (f z) (map f xs) y (contains_map f xs x y after is))
    (list_cases z xs x has)

-- a list of one, and one of none
pub few_one : (X : Type 0) (y : X) → Few X 1 (λ x. x ≡ y)
few_one X y = record { items = y ∷ []; few = omega arith; has = λ x same. is_head y [] x same }

pub few_none : (X : Type 0) (P : X → Type 0) → ((x : X) → P x → ⊥) → Few X 0 P
few_none X P none = record { items = []; few = omega arith; has = λ x here. absurd (none x here) }

-- the numbers below one
numbers : ℕ → List ℕ
numbers zero = []
numbers (suc n) = n ∷ numbers n

length_numbers : (n : ℕ) → length (numbers n) ≡ n
unfolding numbers
length_numbers zero = refl
length_numbers (suc n) = ap suc (length_numbers n)

numbers_have : (n k : ℕ) → k < n → Contains (numbers n) k
unfolding numbers
numbers_have zero k below = absurd (omega (arith, below))
numbers_have (suc n) k below = ⊎_elim
    (λ (less : k < n). is_after n (numbers n) k (numbers_have n k less))
    (λ (more : n ≤ k). is_head n (numbers n) k (omega (arith, below, more)))
    (cases_lt k n)

pub few_below : (n : ℕ) → Few ℕ n (λ k. k < n)
few_below n = record { items = numbers n; few = omega (arith, length_numbers n); has = λ k below. numbers_have n k below }

module _ (X : Type 0) (m n : ℕ) (P Q : X → Type 0) where
  pub few_or : Few X m P → Few X n Q → Few X (m + n) (λ x. P x ⊎ Q x)
  few_or p q = record {
    items = p.items ++ q.items;
    few = omega (arith, length-append p.items q.items, p.few, q.few);
    has = λ x here. ⊎_elim
        (λ (one : P x). Contains-append_left p.items q.items x (p.has x one))
        (λ (other : Q x). Contains-append_right p.items q.items x (q.has x other))
        here;
  }

  pub few_weaker : m ≤ n → ((x : X) → Q x → P x) → Few X m P → Few X n Q
  few_weaker less each p = record { items = p.items; few = omega (arith, p.few, less); has = λ x here. p.has x (each x here) }

module _ (X : Type 0) (P : X → Type 0) where
  pub few_as : (m n : ℕ) → m ≡ n → Few X m P → Few X n P
  few_as m n same p = record { items = p.items; few = omega (arith, p.few, same); has = p.has }

  pub few_min : (m n : ℕ) → Few X m P → Few X n P → Few X (min m n) P
  few_min m n p q = ⊎_elim
      (λ (less : m < n). record { items = p.items; few = omega (arith, p.few, less); has = p.has })
      (λ (more : n ≤ m). record { items = q.items; few = omega (arith, q.few, more); has = q.has })
      (cases_lt m n)

  module _ (Y : Type 0) where
    pub few_map : (n : ℕ) (f : X → Y) → Few X n P → Few Y n (λ y. (x : X) × P x × (y ≡ f x))
    few_map n f p = record {
      items = map f p.items;
      few = omega (arith, length-map p.items f, p.few);
      has = λ y here. contains_map f p.items here.0 y (p.has here.0 here.1) here.2;
    }

    module _ (Z : Type 0) (f : X → Y → Z) where
      pairs : List X → List Y → List Z
      pairs [] ys = []
      pairs (x ∷ xs) ys = map (f x) ys ++ pairs xs ys

      times_next : (n each : ℕ) → each + n * each ≡ suc n * each
      times_next n each = omega arith

      length_pairs : (xs : List X) (ys : List Y) → length (pairs xs ys) ≡ length xs * length ys
      unfolding pairs
      length_pairs [] ys = omega arith
      length_pairs (x ∷ xs) ys = omega (arith, length-append (map (f x) ys) (pairs xs ys), length-map ys (f x), length_pairs xs ys, times_next (length xs) (length ys))

      pairs_have : (xs : List X) (ys : List Y) (x : X) (y : Y) (z : Z) → Contains xs x → Contains ys y → z ≡ f x y → Contains (pairs xs ys) z
      unfolding pairs
      pairs_have [] ys x y z has other is = absurd (omega (arith, has.1))
      pairs_have (w ∷ xs) ys x y z has other is = ⊎_elim
          (λ (same : x ≡ w). Contains-append_left (map (f w) ys) (pairs xs ys) z (contains_map (f w) ys y z other (is ∙ ap (λ (v : X). f v y) same)))
          (λ (after : Contains xs x). Contains-append_right (map (f w) ys) (pairs xs ys) z (pairs_have xs ys x y z after other is))
          (list_cases w xs x has)

      pub few_pairs : (m n : ℕ) (Q : Y → Type 0) → Few X m P → Few Y n Q → Few Z (m * n) (λ z. (x : X) × (y : Y) × P x × Q y × (z ≡ f x y))
      few_pairs m n Q p q = record {
        items = pairs p.items q.items;
        few = omega (arith, length_pairs p.items q.items, mul-le (length p.items) (length q.items) m n p.few q.few);
        has = λ z here. pairs_have p.items q.items here.0 here.1 z (p.has here.0 here.2) (q.has here.1 here.3) here.4;
      }
