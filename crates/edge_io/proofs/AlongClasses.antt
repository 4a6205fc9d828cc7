-- What was answered class by class, put together again: the parts have the answers of the whole, and in
-- the order of their keys they are the whole.
use Rattle.std.proofs.Common.{◌≡◌, ℕ, suc, ◌+◌, ◌<◌, ◌≤◌, ◌&&◌, Bool, true, false, cond, not, nat_eq, nat_le, List, [], ◌∷◌, ◌++◌}
use Rattle.std.proofs.Common.{length, map, get_or, slice_index, refl, sym, ap, subst, ◌∙◌, ◌⊎◌, inl, inr, ⊎_elim, arith}
use Rattle.std.proofs.lemmas.List.{map-append}
use Rattle.std.proofs.lemmas.List.Elements.{filter_agree, recursion_from_All, All-from_recursion}
use Rattle.std.proofs.lemmas.List.Sorted.{IsPermutation-refl, IsPermutation-trans, IsPermutation-append_right, IsPermutation-filter_both, IsPermutation-map, IsPermutation-sym, All-permutation}
use Rattle.std.proofs.lemmas.Bool.Decides.{nat_tests}
use Rattle.std.specs.List.{filter, flat_map, AllByRecursion}
use Rattle.std.specs.List.Sorted.{IsPermutation}
use Rattle.edge_io.specs.Along.{AscendsBy}

-- ---- parts by class

-- two tests, one after the other
filter-both : {X : Type 0} (p q : X → Bool) (xs : List X) → filter p (filter q xs) ≡ filter (λ x. q x && p x) xs
filter-both p q [] = refl
filter-both p q (x ∷ xs) = by_case (q x) (filter-both p q xs)
  where
    by_case : (c : Bool)
        → filter p (filter q xs) ≡ filter (λ x. q x && p x) xs
        → filter p (cond c (x ∷ filter q xs) (filter q xs)) ≡
        cond (c && p x) (x ∷ filter (λ x. q x && p x) xs) (filter (λ x. q x && p x) xs)
    by_case true rest = ap (λ r. cond (p x) (x ∷ r) r) rest
    by_case false rest = rest

-- no element passes
filter-none : {X : Type 0} (p : X → Bool) → ((x : X) → p x ≡ false) → (xs : List X) → filter p xs ≡ []
filter-none p fails [] = refl
filter-none p fails (x ∷ xs) = ap (λ b. cond b (x ∷ filter p xs) (filter p xs)) (fails x) ∙ filter-none p fails xs

-- the elements of the classes from one on are those of that class and those of the classes after it
split_class : {X : Type 0} (class : X → ℕ) (k : ℕ) (xs : List X)
    → IsPermutation (filter (λ x. nat_le k (class x)) xs)
    (filter (λ x. nat_eq (class x) k) xs ++ filter (λ x. nat_le (suc k) (class x)) xs)
split_class {X} class k xs =
    let here = filter-both (λ x. nat_eq (class x) k) (λ x. nat_le k (class x)) xs in
    let after = filter-both (λ x. not (nat_eq (class x) k)) (λ x. nat_le k (class x)) xs in
    let same : (n : ℕ) → (nat_le k n && nat_eq n k) ≡ nat_eq n k = λ n. grind (arith, nat_tests) in
    let later : (n : ℕ) → (nat_le k n && not (nat_eq n k)) ≡ nat_le (suc k) n = λ n. grind (arith, nat_tests) in
    let first = here ∙ filter_agree (λ x. nat_le k (class x) && nat_eq (class x) k) (λ x. nat_eq (class x) k) (λ x. same (class x)) xs in
    let rest = after ∙ filter_agree (λ x. nat_le k (class x) && not (nat_eq (class x) k)) (λ x. nat_le (suc k) (class x)) (λ x. later (class x)) xs in
    subst (IsPermutation (filter (λ x. nat_le k (class x)) xs))
    (ap (λ front. front ++ filter (λ x. not (nat_eq (class x) k)) (filter (λ x. nat_le k (class x)) xs)) first ∙ ap (λ back. filter (λ x. nat_eq (class x) k) xs ++ back) rest)
    (IsPermutation-filter_both (λ x. nat_eq (class x) k) (λ x. not (nat_eq (class x) k)) (λ x. refl) (filter (λ x. nat_le k (class x)) xs))

module _ {X A P : Type 0} (class : X → ℕ) (h : X → A) (items : P → List A) (xs : List X) where
  -- the parts from one class on have the answers of the classes from it on
  joined_from : (k n : ℕ) (parts : List P)
      → n ≡ k + length parts
      → ((x : X) → class x < n)
      → ((i : ℕ) (d : P) → i < length parts → items (get_or parts i d) ≡ map h (filter (λ x. nat_eq (class x) (k + i)) xs))
      → IsPermutation (map h (filter (λ x. nat_le k (class x)) xs)) (flat_map items parts)
  joined_from k n [] end below parts_are =
      let none : (m : ℕ) → m < n → nat_le k m ≡ false = λ m lt. grind (arith, nat_tests) in
      subst (λ l. IsPermutation (map h l) []) (sym (filter-none (λ x. nat_le k (class x)) (λ x. none (class x) (below x)) xs)) (IsPermutation-refl [])
  joined_from k n (part ∷ parts) end below parts_are =
      let at_k : k + 0 ≡ k = omega arith in
      let first : items part ≡ map h (filter (λ x. nat_eq (class x) k) xs) = parts_are 0 part (omega arith) ∙ ap (λ j. map h (filter (λ x. nat_eq (class x) j) xs)) at_k in
      let later : (i : ℕ) → k + suc i ≡ suc k + i = λ i. omega arith in
      let rest = joined_from (suc k) n parts (omega arith) below (λ i d lt. parts_are (suc i) d (omega arith) ∙ ap (λ j. map h (filter (λ x. nat_eq (class x) j) xs)) (later i)) in
      let split = IsPermutation-map h _ _ (split_class class k xs) in
      let whole = subst (IsPermutation (map h (filter (λ x. nat_le k (class x)) xs))) (map-append h (filter (λ x. nat_eq (class x) k) xs) (filter (λ x. nat_le (suc k) (class x)) xs)) split in
      subst (λ l. IsPermutation (map h (filter (λ x. nat_le k (class x)) xs)) (l ++ flat_map items parts)) (sym first)
      (IsPermutation-trans _ _ _ whole (IsPermutation-append_right (map h (filter (λ x. nat_eq (class x) k) xs)) _ _ rest))

  -- where each part has the answers of one class, all parts have all answers
  pub joined_classes : (parts : List P)
      → ((x : X) → class x < length parts)
      → ((k : ℕ) (d : P) → k < length parts → items (get_or parts k d) ≡ map h (filter (λ x. nat_eq (class x) k) xs))
      → IsPermutation (map h xs) (flat_map items parts)
  joined_classes parts below parts_are =
      let from_none : (i : ℕ) → 0 + i ≡ i = λ i. omega arith in
      let all : filter (λ x. nat_le 0 (class x)) xs ≡ xs = filter-all xs in
      subst (λ l. IsPermutation (map h l) (flat_map items parts)) all
      (joined_from 0 (length parts) parts (omega arith) below (λ i d lt. parts_are i d lt ∙ ap (λ j. map h (filter (λ x. nat_eq (class x) j) xs)) (sym (from_none i))))
    where
      filter-all : (ys : List X) → filter (λ x. nat_le 0 (class x)) ys ≡ ys
      filter-all [] = refl
      filter-all (y ∷ ys) =
          let passes : nat_le 0 (class y) ≡ true = grind (arith, nat_tests) in
          ap (λ b. cond b (y ∷ filter (λ x. nat_le 0 (class x)) ys) (filter (λ x. nat_le 0 (class x)) ys)) passes ∙ ap (λ r. y ∷ r) (filter-all ys)

-- ---- in the order of the keys

-- each key is below those after it
abbrev Climbs : {X : Type 0} → (X → ℕ) → List X → Type 0
Climbs key [] = Unit {0}
Climbs key (x ∷ xs) = AllByRecursion (λ z. key x < key z) xs × Climbs key xs

-- what follows from a fact of each element
all_follow : {X : Type 0} (P Q : X → Type 0) → ((x : X) → P x → Q x) → (xs : List X) → AllByRecursion P xs → AllByRecursion Q xs
all_follow P Q follows [] all = tt
all_follow P Q follows (x ∷ xs) all = (follows x all.0, all_follow P Q follows xs all.1)

-- two facts of each element
all_both : {X : Type 0} (P Q : X → Type 0) (xs : List X) → AllByRecursion P xs → AllByRecursion Q xs → AllByRecursion (λ x. P x × Q x) xs
all_both P Q [] ps qs = tt
all_both P Q (x ∷ xs) ps qs = ((ps.0, qs.0), all_both P Q xs ps.1 qs.1)

climbs_from : {X : Type 0} (key : X → ℕ) (xs : List X) → AscendsBy key xs → Climbs key xs
climbs_from key [] ascends = tt
climbs_from key (x ∷ []) ascends = (tt, tt)
climbs_from key (x ∷ y ∷ xs) ascends =
    let next : (k : ℕ) → suc k + 1 ≡ suc (k + 1) = λ k. omega arith in
    let rest : AscendsBy key (y ∷ xs) = λ k lt. subst (λ j. slice_index (map key (y ∷ xs)) k < slice_index (map key (x ∷ y ∷ xs)) j) (next k) (ascends (suc k) (omega arith)) in
    let climbs = climbs_from key (y ∷ xs) rest in
    let first : key x < key y = ascends 0 (omega arith) in
    ((first, all_follow (λ z. key y < key z) (λ z. key x < key z) (λ z lt. omega arith) xs climbs.0), climbs)

-- two lists with the same elements, whose keys climb, are one
climbing_same : {X : Type 0} (key : X → ℕ) (xs ys : List X) → ((P : X → Type 0) → AllByRecursion P xs → AllByRecursion P ys) → ((P : X → Type 0) → AllByRecursion P ys → AllByRecursion P xs)
    → Climbs key xs → Climbs key ys → xs ≡ ys
climbing_same key [] [] to back climbs_x climbs_y = refl
climbing_same key [] (y ∷ ys) to back climbs_x climbs_y = absurd ((to (λ _. ⊥) tt).0)
climbing_same key (x ∷ xs) [] to back climbs_x climbs_y = absurd ((back (λ _. ⊥) tt).0)
climbing_same {X} key (x ∷ xs) (y ∷ ys) to back climbs_x climbs_y =
    let low : key x ≤ key y = (to (λ z. key x ≤ key z) (omega arith, all_follow (λ z. key x < key z) (λ z. key x ≤ key z) (λ z lt. omega arith) xs climbs_x.0)).0 in
    let high : key y ≤ key x = (back (λ z. key y ≤ key z) (omega arith, all_follow (λ z. key y < key z) (λ z. key y ≤ key z) (λ z lt. omega arith) ys climbs_y.0)).0 in
    let at_y : (x ≡ y) ⊎ (key y < key x) = (back (λ z. (z ≡ y) ⊎ (key y < key z)) (inl refl, all_follow (λ z. key y < key z) (λ z. (z ≡ y) ⊎ (key y < key z)) (λ z lt. inr lt) ys climbs_y.0)).0 in
    let first : x ≡ y = ⊎_elim (λ same. same) (λ lt. absurd (omega arith)) at_y in
    let forth : (P : X → Type 0) → AllByRecursion P xs → AllByRecursion P ys = λ P all.
    let of_y = (to (λ z. key x < key z → P z) ((λ lt. absurd (omega arith)), all_follow P (λ z. key x < key z → P z) (λ z p lt. p) xs all)).1 in
    all_follow (λ z. (key y < key z) × (key x < key z → P z)) P (λ z pair. pair.1 (omega (arith, pair.0))) ys (all_both (λ z. key y < key z) (λ z. key x < key z → P z) ys climbs_y.0 of_y) in
    let hither : (P : X → Type 0) → AllByRecursion P ys → AllByRecursion P xs = λ P all.
    let of_x = (back (λ z. key y < key z → P z) ((λ lt. absurd (omega arith)), all_follow P (λ z. key y < key z → P z) (λ z p lt. p) ys all)).1 in
    all_follow (λ z. (key x < key z) × (key y < key z → P z)) P (λ z pair. pair.1 (omega (arith, pair.0))) xs (all_both (λ z. key x < key z) (λ z. key y < key z → P z) xs climbs_x.0 of_x) in
    ap (λ z. z ∷ xs) first ∙ ap (λ zs. y ∷ zs) (climbing_same key xs ys forth hither climbs_x.1 climbs_y.1)

-- whatever ascending list has the elements of an ascending list is that list
pub AscendsBy-unique : {X : Type 0} (key : X → ℕ) (xs ys : List X) → IsPermutation xs ys → AscendsBy key xs → AscendsBy key ys → xs ≡ ys
AscendsBy-unique {X} key xs ys moved ascends_x ascends_y =
    let carried : (us vs : List X) → IsPermutation us vs → (P : X → Type 0) → AllByRecursion P us → AllByRecursion P vs = λ us vs shuffled P all.
    recursion_from_All P vs (All-permutation P us vs shuffled (All-from_recursion P us all)) in
    climbing_same key xs ys (carried xs ys moved) (carried ys xs (IsPermutation-sym xs ys moved)) (climbs_from key xs ascends_x) (climbs_from key ys ascends_y)
