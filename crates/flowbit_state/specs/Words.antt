-- Which set of bits some words hold: bit n is bit n % 64 of word n / 64.
--
-- To try it on: the words 0 and 4 hold the set of 66 alone.
use Prim.Native.Nat.{zero, suc}
use Rattle.std.specs.Prelude.{ℕ, ◌/◌, ◌%◌, ◌==◌, Bool, List, slice_index, if◌then◌else◌}
use Rattle.std.specs.Int.{bit_at}
use Rattle.std.specs.Ordering.{nat_cmp}
use Rattle.std.specs.FinSet.{FinSet, empty, insert}

-- the bit of the word is 1
abbrev pub is_bit : ℕ → ℕ → Bool
is_bit word bit = bit_at word bit == 1

-- the bit of the words is 1
abbrev pub is_set : List ℕ → ℕ → Bool
is_set words bit = is_bit (slice_index words (bit / 64)) (bit % 64)

-- the bits below the count that are set
unfoldable pub set_below : List ℕ → ℕ → FinSet nat_cmp
set_below words zero = empty
set_below words (suc bit) = if is_set words bit then insert (set_below words bit) bit else set_below words bit

-- the bits that are set, of the 1024
unfoldable pub set_in : List ℕ → FinSet nat_cmp
set_in words = set_below words 1024
