-- Steps from one place of a ring to another, over the list of the nodes alone.
use Rattle.std.proofs.Common.{◌≡◌, ℕ, zero, suc, ◌+◌, ◌<◌, ◌≤◌, List, [], ◌∷◌, ◌++◌, length, take, drop, slice_get, Some, insert, remove, refl, sym, ap, ◌∙◌, subst, arith, add-one}
use Rattle.std.proofs.lemmas.List.{drop-map, drop_at, length-map, length-take-le, map-append, take-append-drop, take-map}
use Rattle.std.proofs.lemmas.Option.{same_Some}
use denote.RawPtr.{Ptr}
use Rattle.piece_list.specs.Linked.{Linked, places, values, ring, first_place, HasNext, IsAt, IsBefore}
use Rattle.piece_list.proofs.Apart.{first_place_cut, places_cut}

module _ {T : Type 0} where
  -- the node at a place, with those after it
  pub node_here : (ns : List (Linked T)) (at : ℕ) → at < length ns → (n : Linked T) × (drop at ns ≡ n ∷ drop (suc at) ns)
  node_here [] at within = absurd (omega arith)
  node_here (n ∷ ns) zero within = (n, refl)
  node_here (n ∷ ns) (suc at) within = node_here ns at (omega arith)

  pub cut_here : (ns : List (Linked T)) (at : ℕ) (within : at < length ns) → ns ≡ take at ns ++ (node_here ns at within).0 ∷ drop (suc at) ns
  cut_here ns at within = sym (take-append-drop at ns) ∙ ap (λ l. take at ns ++ l) (node_here ns at within).1

  -- the node at a place lies there
  pub is_at_here : (ns : List (Linked T)) (tail : Ptr) (at : ℕ) → at < length ns → IsAt ns (first_place (drop at ns) tail)
  is_at_here ns tail at within =
      let here = node_here ns at within in
      (take at ns, here.0, drop (suc at) ns, cut_here ns at within, sym (ap (λ l. first_place l tail) here.1))

  pub before_here : (ns : List (Linked T)) (tail : Ptr) (at : ℕ) → IsBefore ns tail (first_place (drop at ns) tail) (take at ns) (drop at ns)
  before_here ns tail at = (sym (take-append-drop at ns), refl)

  -- the head sentinel comes right before the first place
  pub next_of_head : (head tail : Ptr) (ns : List (Linked T)) → HasNext (ring head ns tail) head (first_place ns tail)
  next_of_head head tail ns = let on = first_place_cut ns tail in ([], on.0, ap (λ l. head ∷ l) on.1)

  -- a place comes right before the next
  pub next_of_here : (head tail : Ptr) (ns : List (Linked T)) (at : ℕ) → at < length ns → HasNext (ring head ns tail) (first_place (drop at ns) tail) (first_place (drop (at + 1) ns) tail)
  next_of_here head tail ns at within =
      let here = node_here ns at within in
      let xs = take at ns in
      let ys = drop (suc at) ns in
      let on = first_place_cut ys tail in
      let around : ring head ns tail ≡ (head ∷ places xs) ++ here.0.at ∷ first_place ys tail ∷ on.0 =
      ap (λ l. head ∷ l) (ap (λ l. places l ++ tail ∷ []) (cut_here ns at within) ∙ places_cut xs here.0 ys tail ∙ ap (λ l. places xs ++ here.0.at ∷ l) on.1) in
      let next : HasNext (ring head ns tail) (first_place (drop at ns) tail) (first_place ys tail) =
      subst (λ l. HasNext (ring head ns tail) (first_place l tail) (first_place ys tail)) (sym here.1) (head ∷ places xs, on.0, around) in
      rw add-one next

  -- the value at a place
  pub value_here : (ns : List (Linked T)) (at : ℕ) (within : at < length ns) → slice_get (values ns) at ≡ Some (node_here ns at within).0.val
  unfolding node_here
  value_here [] at within = absurd (omega arith)
  value_here (n ∷ ns) zero within = refl
  value_here (n ∷ ns) (suc at) within = value_here ns at (omega arith)

  -- a node goes in at a place: so does its value
  pub values-insert : (ns : List (Linked T)) (at : ℕ) (n : Linked T) → values (take at ns ++ n ∷ drop at ns) ≡ insert (values ns) at n.val
  values-insert ns at n =
      let val = λ (m : Linked T). m.val in
      map-append val (take at ns) (n ∷ drop at ns) ∙ (λ i. sym (take-map val at ns) i ++ n.val ∷ sym (drop-map val at ns) i)

  pub values-remove : (ns : List (Linked T)) (at : ℕ) → values (take at ns ++ drop (suc at) ns) ≡ remove (values ns) at
  values-remove ns at =
      let val = λ (m : Linked T). m.val in
      map-append val (take at ns) (drop (suc at) ns) ∙ (λ i. sym (take-map val at ns) i ++ sym (drop-map val (suc at) ns) i)

  pub drop-cut : (ns ys : List (Linked T)) (at : ℕ) → at ≤ length ns → drop at (take at ns ++ ys) ≡ ys
  drop-cut ns ys at within = drop_at (take at ns) ys at (length-take-le at ns within)

  -- where some values are left, the place is within the list
  pub rest_within : (ns : List (Linked T)) (from left : ℕ) → from + left ≡ length ns → 0 < left → from < length (values ns)
  rest_within ns from left counts some = omega (arith, counts, length-map ns (λ (n : Linked T). n.val))

  -- the value at a place is the first of those from the place on
  pub drop-get : (xs : List T) (i : ℕ) (x : T) → slice_get xs i ≡ Some x → drop i xs ≡ x ∷ drop (i + 1) xs
  drop-get [] i x found = absurd (cc)
  drop-get (y ∷ xs) zero x found = ap (λ z. z ∷ xs) (same_Some y x found)
  drop-get (y ∷ xs) (suc i) x found = let step : suc i + 1 ≡ suc (i + 1) = omega arith in rw step (drop-get xs i x found)
