-- The nodes of the list, as the proofs see them.
use Rattle.std.specs.Prelude.{◌≡◌, Bool, true, false, ◌&&◌, ◌==◌, List, [], ◌∷◌, ◌++◌, map}
use Rattle.std.specs.List.{IsDistinct, IsDistinct-prop}
use denote.RawPtr.{Ptr, block_ptr, null_ptr}

-- a node: where it lies, and its value
pub record Linked (T : Type 0) : Type 0 where
  pub at : Ptr
  pub val : T

-- whether two pointers are the same
abbrev pub same_ptr : Ptr → Ptr → Bool
same_ptr (block_ptr b o) (block_ptr c p) = (b == c) && (o == p)
same_ptr (block_ptr b o) null_ptr = false
same_ptr null_ptr (block_ptr c p) = false
same_ptr null_ptr null_ptr = true

-- no pointer comes twice
abbrev pub IsApart : List Ptr → Type 0
IsApart = IsDistinct same_ptr

pub IsApart-prop : (ps : List Ptr) → IsProp (IsApart ps)
IsApart-prop = IsDistinct-prop same_ptr

-- q comes right after p
abbrev pub HasNext : List Ptr → Ptr → Ptr → Type 0
HasNext ps p q = (xs : List Ptr) × (ys : List Ptr) × (ps ≡ xs ++ p ∷ q ∷ ys)

-- q comes right before p
abbrev pub HasPrev : List Ptr → Ptr → Ptr → Type 0
HasPrev ps p q = HasNext ps q p

module _ {T : Type 0} where
  abbrev pub linked : Ptr → T → Linked T
  linked p v = record { at = p; val = v }

  abbrev pub places : List (Linked T) → List Ptr
  places = map (λ n. n.at)

  abbrev pub values : List (Linked T) → List T
  values = map (λ n. n.val)

  -- the nodes' places between those of the two sentinels
  abbrev pub ring : Ptr → List (Linked T) → Ptr → List Ptr
  ring head ns tail = head ∷ (places ns ++ tail ∷ [])

  -- a node lies at p
  abbrev pub IsAt : List (Linked T) → Ptr → Type 0
  IsAt ns p = (xs : List (Linked T)) × (n : Linked T) × (ys : List (Linked T)) × (ns ≡ xs ++ n ∷ ys) × (n.at ≡ p)

  -- P holds of the node at p, with those before it and those after it
  abbrev pub AtNode : List (Linked T) → Ptr → (List (Linked T) → Linked T → List (Linked T) → Type 0) → Type 0
  AtNode ns p P = (xs : List (Linked T)) (n : Linked T) (ys : List (Linked T)) → ns ≡ xs ++ n ∷ ys → n.at ≡ p → P xs n ys

  -- where the nodes begin: at the first of them, or at the tail sentinel
  abbrev pub first_place : List (Linked T) → Ptr → Ptr
  first_place [] tail = tail
  first_place (n ∷ ns) tail = n.at

  -- the nodes are cut in two before p
  abbrev pub IsBefore : List (Linked T) → Ptr → Ptr → List (Linked T) → List (Linked T) → Type 0
  IsBefore ns tail p xs ys = (ns ≡ xs ++ ys) × (p ≡ first_place ys tail)
