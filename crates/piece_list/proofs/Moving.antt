-- What a place in a ring lets a step do, and where the step leads.
use Rattle.std.proofs.Common.{◌≡◌, ℕ, suc, ◌+◌, ◌-◌, ◌<◌, ◌≤◌, List, ◌∷◌, ◌++◌, length, take, drop, slice_get, Some, insert, remove, sym, ap, ◌∙◌, subst, arith, length-append}
use Rattle.std.proofs.lemmas.List.{length-drop, length-map, length-take-le}
use denote.RawPtr.{Ptr}
use Rattle.piece_list.specs.Linked.{Linked, linked, values, ring, first_place, AtNode, HasNext, HasPrev, IsAt, IsBefore}
use Rattle.piece_list.specs.declared.ring.Ring.{Ring}
use Rattle.piece_list.specs.Placed.{Placed}
use Rattle.piece_list.proofs.Places.{node_here, cut_here, is_at_here, before_here, next_of_head, next_of_here, value_here, values-insert, values-remove, drop-cut, rest_within}

module _ {T : Type 0} (r : Ring T) (h t here : Ptr) (len at : ℕ) (s : Placed r h t here len at) where
  abbrev Nodes : List Ptr
  Nodes = ring r.head r.nodes r.tail

  many : length (values r.nodes) ≡ length r.nodes
  many = length-map r.nodes (λ (n : Linked T). n.val)

  pub front_next : (after : Ptr) × HasNext Nodes h after
  front_next = (first_place r.nodes r.tail, subst (λ p. HasNext Nodes p (first_place r.nodes r.tail)) (sym s.heads) (next_of_head r.head r.tail r.nodes))

  pub front_placed : (p : Ptr) → ((q : Ptr) → HasNext Nodes h q → p ≡ q) → Placed r h t p len 0
  unfolding front_next
  front_placed p next = record {
    heads = s.heads;
    tails = s.tails;
    counts = s.counts;
    within = omega arith;
    at_node = next (first_place r.nodes r.tail) front_next.1;
  }

  next_is : at < length (values r.nodes) → HasNext Nodes here (first_place (drop (at + 1) r.nodes) r.tail)
  next_is within = subst (λ p. HasNext Nodes p (first_place (drop (at + 1) r.nodes) r.tail)) (sym s.at_node) (next_of_here r.head r.tail r.nodes at (omega (arith, many)))

  pub here_next : at < length (values r.nodes) → (after : Ptr) × HasNext Nodes here after
  here_next within = (first_place (drop (at + 1) r.nodes) r.tail, next_is within)

  pub next_placed : at < length (values r.nodes) → (p : Ptr) → ((q : Ptr) → HasNext Nodes here q → p ≡ q) → Placed r h t p len (at + 1)
  next_placed within p next = record {
    heads = s.heads;
    tails = s.tails;
    counts = s.counts;
    within = omega (arith, many, s.counts);
    at_node = next (first_place (drop (at + 1) r.nodes) r.tail) (next_is within);
  }

  prev_is : 0 < at → HasPrev Nodes here (first_place (drop (at - 1) r.nodes) r.tail)
  prev_is above =
      let back : at - 1 + 1 ≡ at = omega arith in
      let next = next_of_here r.head r.tail r.nodes (at - 1) (omega (arith, s.within, s.counts)) in
      subst (λ p. HasNext Nodes (first_place (drop (at - 1) r.nodes) r.tail) p) (ap (λ i. first_place (drop i r.nodes) r.tail) back ∙ sym s.at_node) next

  pub here_prev : 0 < at → (before : Ptr) × HasPrev Nodes here before
  here_prev above = (first_place (drop (at - 1) r.nodes) r.tail, prev_is above)

  pub prev_placed : 0 < at → (p : Ptr) → ((q : Ptr) → HasPrev Nodes here q → p ≡ q) → Placed r h t p len (at - 1)
  prev_placed above p prev = record {
    heads = s.heads;
    tails = s.tails;
    counts = s.counts;
    within = omega (arith, s.within);
    at_node = prev (first_place (drop (at - 1) r.nodes) r.tail) (prev_is above);
  }

  pub here_before : IsBefore r.nodes r.tail here (take at r.nodes) (drop at r.nodes)
  here_before = ((before_here r.nodes r.tail at).0, s.at_node)

  pub inserted : (new : Ring T) (p : Ptr) (v : T) → (new.head ≡ r.head) × (new.tail ≡ r.tail)
      → ((xs ys : List (Linked T)) → IsBefore r.nodes r.tail here xs ys → new.nodes ≡ xs ++ linked p v ∷ ys) → Placed new h t p (len + 1) at × (values new.nodes ≡ insert (values r.nodes) at v)
  inserted new p v same linked_in =
      let is = linked_in (take at r.nodes) (drop at r.nodes) here_before in
      let low : at ≤ length r.nodes = omega (arith, s.within, s.counts) in (
        record {
          heads = s.heads ∙ sym same.0;
          tails = s.tails ∙ sym same.1;
          counts = omega (arith, s.counts, ap length is, length-append (take at r.nodes) (linked p v ∷ drop at r.nodes), length-take-le at r.nodes low, length-drop at r.nodes);
          within = omega (arith, s.within);
          at_node = sym (ap (λ l. first_place (drop at l) new.tail) is ∙ ap (λ l. first_place l new.tail) (drop-cut r.nodes (linked p v ∷ drop at r.nodes) at low));
        },
        ap values is ∙ values-insert r.nodes at (linked p v),
      )

  module _ (within : at < length (values r.nodes)) where
    inside : at < length r.nodes
    inside = omega (arith, many)

    pub here_is : IsAt r.nodes here
    here_is = subst (IsAt r.nodes) (sym s.at_node) (is_at_here r.nodes r.tail at inside)

    at_here : (P : List (Linked T) → Linked T → List (Linked T) → Type 0) → AtNode r.nodes here P → P (take at r.nodes) (node_here r.nodes at inside).0 (drop (suc at) r.nodes)
    at_here P every =
        every (take at r.nodes) (node_here r.nodes at inside).0 (drop (suc at) r.nodes) (cut_here r.nodes at inside)
        (sym (ap (λ l. first_place l r.tail) (node_here r.nodes at inside).1) ∙ sym s.at_node)

    pub value_is : (v : T) → AtNode r.nodes here (λ _ n _. v ≡ n.val) → slice_get (values r.nodes) at ≡ Some v
    value_is v found = value_here r.nodes at inside ∙ ap Some (sym (at_here (λ _ n _. v ≡ n.val) found))

    pub removed : (new : Ring T) (p q : Ptr) (v : T)
        → ((after : Ptr) → HasNext Nodes here after → p ≡ after)
        → (new.head ≡ r.head) × (new.tail ≡ r.tail)
        → AtNode r.nodes here (λ xs n ys. (new.nodes ≡ xs ++ ys) × (n ≡ linked q v))
        → Placed new h t p (len - 1) at × (values new.nodes ≡ remove (values r.nodes) at) ×
        (slice_get (values r.nodes) at ≡ Some v)
    removed new p q v next same out =
        let found = at_here (λ xs n ys. (new.nodes ≡ xs ++ ys) × (n ≡ linked q v)) out in
        let ys = drop (suc at) r.nodes in
        let low : at ≤ length r.nodes = omega arith in
        let here_size = length-drop (suc at) r.nodes in
        let step : at + 1 ≡ suc at = omega arith in (
          record {
            heads = s.heads ∙ sym same.0;
            tails = s.tails ∙ sym same.1;
            counts = omega (arith, s.counts, inside, ap length found.0, length-append (take at r.nodes) ys, length-take-le at r.nodes low, here_size);
            within = omega (arith, s.counts, inside);
            at_node = next (first_place (drop (at + 1) r.nodes) r.tail) (next_is within) ∙ ap (λ i. first_place (drop i r.nodes) r.tail) step ∙ ap (first_place ys) (sym same.1)
                ∙ sym (ap (λ l. first_place (drop at l) new.tail) found.0 ∙ ap (λ l. first_place l new.tail) (drop-cut r.nodes ys at low));
          },
          ap values found.0 ∙ values-remove r.nodes at,
          value_here r.nodes at inside ∙ ap (λ (n : Linked T). Some n.val) found.1,
        )

module _ {T : Type 0} where
  -- an iterator goes on to the next place, with one value less to give
  pub next_gives_rest : (r : Ring T) (h t here : Ptr) (from left : ℕ) → Placed r h t here (from + left) from → 0 < left → (p : Ptr) → ((q : Ptr) → HasNext (ring r.head r.nodes r.tail) here q → p ≡ q)
      → Placed r h t p (from + 1 + (left - 1)) (from + 1)
  next_gives_rest r h t here from left s some p next =
      let size : from + left ≡ from + 1 + (left - 1) = omega arith in
      subst (λ n. Placed r h t p n (from + 1)) size (next_placed r h t here (from + left) from s (rest_within r.nodes from left s.counts some) p next)
