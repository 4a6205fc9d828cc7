-- What the nodes of a ring own and lend, at values of the row V.
use Rattle.std.specs.Prelude.{ℕ, List, [], ◌∷◌, ◌++◌}
use base.Fraction.{full_share}
use base.Fml.{Lft, Fml, ftrue, fsep, fwand}
use mir.Syntax.{Ty, ty_ptr, ty_struct, tcons, tnil}
use mir.Raw.{raw}
use prog.Memory.{align, up}
use denote.RattleType.{RattleType}
use denote.Memory.{lone}
use denote.Sharing.{nothing, beside}
use denote.RawPtr.{Ptr, RawPtr, lies_at, room_for, ◌+ₚ◌}
use denote.Struct.Lending.{lent_at}
use Rattle.std.specs.contracts.impls.GlobalAllocator.TheImpl.{ghosts}
use Rattle.std.specs.declared.alloc.Global.{Global}
use Rattle.piece_list.specs.Linked.{Linked, places}

-- where the two pointers lie in the node at p
abbrev pub prev_of : Ptr → Ptr
prev_of p = p +ₚ 0

abbrev pub next_of : Ptr → Ptr
next_of p = p +ₚ 8

-- room for the two
abbrev pub link_room : Ptr → Fml
link_room p = fsep (room_for ty_ptr (prev_of p)) (room_for ty_ptr (next_of p))

-- a points forward to b, and b back to a
abbrev pub edge : Ptr → Ptr → Fml
edge a b = fsep (lies_at RawPtr full_share (next_of a) b) (lies_at RawPtr full_share (prev_of b) a)

-- the edges from a through the nodes at ps
abbrev pub path : Ptr → List Ptr → Fml
path a [] = ftrue
path a (p ∷ ps) = fsep (edge a p) (path p ps)

abbrev pub edge_lent : Ptr → Ptr → Lft → Fml
edge_lent a b = beside (lent_at RawPtr (next_of a) b) (lent_at RawPtr (prev_of b) a)

abbrev pub path_lent : Ptr → List Ptr → Lft → Fml
path_lent a [] = nothing
path_lent a (p ∷ ps) = beside (edge_lent a p) (path_lent p ps)

-- a handle of the heap: each has the same right to free a block
abbrev pub heap : Global
heap = record { memory = record { seal = tt } }

module _ (V : RattleType) where
  -- the type of `Node`, as the machine sees it
  abbrev pub node_type : Ty
  node_type = ty_struct [] (tcons ty_ptr (tcons ty_ptr (tcons (raw (lone V.mir)) tnil)))

  abbrev pub val_offset : ℕ
  val_offset = up (align (lone V.mir)) 16

  abbrev pub val_of : Ptr → Ptr
  val_of p = p +ₚ val_offset

  abbrev pub value_room : Ptr → Fml
  value_room p = room_for (raw (lone V.mir)) (val_of p)

  abbrev pub blank_owns : Ptr → Fml
  blank_owns p = fsep (link_room p) (value_room p)

  -- the allocator's token, and that the three empty fields make the whole block
  abbrev pub deed_owns : (Ty → Ptr → Fml) → Ptr → Fml
  deed_owns token p = fsep (token node_type p) (fwand (blank_owns p) (room_for node_type p))

  -- the allocator's token of the heap, and that the three empty fields make the whole block
  abbrev pub heap_deed : Ptr → Fml
  heap_deed = deed_owns (ghosts.dealloc_token heap)

  -- a node that is empty but for its links: room for the value, and the right to free the block
  abbrev pub vacant_owns : Ptr → Fml
  vacant_owns p = fsep (value_room p) (heap_deed p)

  abbrev pub room_owns : Ptr → Fml
  room_owns p = fsep (link_room p) (vacant_owns p)

  -- a node's value, and the right to free the block
  abbrev pub filled_owns : Ptr → V.Denot → Fml
  filled_owns p v = fsep (lies_at V full_share (val_of p) v) (heap_deed p)

  abbrev pub detached_owns : Ptr → V.Denot → Fml
  detached_owns p v = fsep (link_room p) (filled_owns p v)

  abbrev pub nodes_own : List (Linked V.Denot) → Fml
  nodes_own [] = ftrue
  nodes_own (n ∷ ns) = fsep (filled_owns n.at n.val) (nodes_own ns)

  -- what of the sentinels is in no edge
  abbrev pub sentinels_own : Ptr → Ptr → Fml
  sentinels_own head tail =
      fsep (fsep (room_for ty_ptr (prev_of head)) (vacant_owns head)) (fsep (room_for ty_ptr (next_of tail)) (vacant_owns tail))

  abbrev pub ring_owns : Ptr → List (Linked V.Denot) → Ptr → Fml
  ring_owns head ns tail = fsep (path head (places ns ++ tail ∷ [])) (fsep (nodes_own ns) (sentinels_own head tail))

  abbrev pub value_lent : Linked V.Denot → Lft → Fml
  value_lent n = lent_at V (val_of n.at) n.val

  abbrev pub values_lent : List (Linked V.Denot) → Lft → Fml
  values_lent [] = nothing
  values_lent (n ∷ ns) = beside (value_lent n) (values_lent ns)

  abbrev pub ring_lent : Ptr → List (Linked V.Denot) → Ptr → Lft → Fml
  ring_lent head ns tail = beside (path_lent head (places ns ++ tail ∷ [])) (values_lent ns)
