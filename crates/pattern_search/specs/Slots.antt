-- A table of bits, asked by number: its slots. Its size is this project's own choice.
--
-- To try it on: the slot 37 is bit 5 of the second word; with it alone set that word is 32, and all others are 0.
use Rattle.std.specs.Prelude.{◌≡◌, ℕ, ◌/◌, ◌%◌, ◌<◌, List, length, slice_index}
use Rattle.std.specs.Int.{bit_at}

-- how many slots the table has, and how many words, of 32 bits each
abbrev pub slot_count : ℕ
slot_count = 1048576

abbrev pub table_words : ℕ
table_words = 32768

-- the bit of a slot: 1 where it is set
unfoldable pub slot_bit : List ℕ → ℕ → ℕ
slot_bit table slot = bit_at (slice_index table (slot / 32)) (slot % 32)

-- what was set is
pub record KeepsSlots (old new : List ℕ) : Type 0 where
  pub sized : length new ≡ length old
  pub kept : (slot : ℕ) → 0 < slot_bit old slot → 0 < slot_bit new slot

-- a bit was added
pub record AddsBit (old at new : ℕ) : Type 0 where
  pub own : bit_at new at ≡ 1
  pub kept : (i : ℕ) → 0 < bit_at old i → 0 < bit_at new i

-- a slot was set
pub record SetsSlot (old : List ℕ) (slot : ℕ) (new : List ℕ) : Type 0 where
  pub keeps : KeepsSlots old new
  pub own : 0 < slot_bit new slot
