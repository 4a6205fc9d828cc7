-- A place in a ring: a number from 0 to the length, and where the node at it lies.
--
-- To try it on: in the ring of 1 and 3, place 0 is that of 1's node, 1 that of 3's, and 2 that of the tail sentinel.
use Rattle.std.specs.Prelude.{◌≡◌, ℕ, ◌≤◌, length, drop}
use denote.RawPtr.{Ptr}
use Rattle.piece_list.specs.declared.ring.Ring.{Ring}
use Rattle.piece_list.specs.Linked.{first_place}

-- the pointers lead to the sentinels and to the node at the place, and the length is right
pub record Placed {T : Type 0} (ring : Ring T) (to_head to_tail here : Ptr) (len at : ℕ) : Type 0 where
  pub heads : to_head ≡ ring.head
  pub tails : to_tail ≡ ring.tail
  pub counts : len ≡ length ring.nodes
  pub within : at ≤ len
  pub at_node : here ≡ first_place (drop at ring.nodes) ring.tail
