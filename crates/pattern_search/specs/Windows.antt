-- Windows of patterns and of texts, and a table of windows. All of this is this project's own choice.
--
-- A window is eight bytes from a place on, as a number, the first byte lowest; past the end there are zeros. A mask
-- leaves the first letters of it, without the bit that tells an upper from a lower case letter. A window has a
-- slot, and so may others: the table has a bit for each slot.
-- To try it on: of `abcdefghi` the first four windows of six letters are abcdef, bcdefg, cdefgh and defghi.
use Rattle.std.specs.Prelude.{ℕ, zero, suc, ◌+◌, ◌*◌, ◌/◌, ◌%◌, ◌^◌, ◌<◌, List, length, drop}
use Rattle.std.specs.Int.Bits.{bit_and}
use Rattle.byteorder.specs.Endian.{little_number}
use Rattle.pattern_search.specs.Slots.{slot_bit}
use Rattle.pattern_search.specs.Words.{word_at}

-- a byte without the bit that tells an upper from a lower case letter has these bits
abbrev pub caseless : ℕ
caseless = 223

-- 2^64 divided by the golden ratio
abbrev pub golden : ℕ
golden = 11400714819323198485

-- the window at a place
unfoldable pub window_at : List ℕ → ℕ → ℕ
window_at bytes at = little_number 8 (drop at bytes)

-- the mask that leaves this many letters
unfoldable pub folding_mask : ℕ → ℕ
folding_mask zero = 0
folding_mask (suc letters) = caseless + 256 * folding_mask letters

-- the slot of a window, of which a mask leaves some letters: the highest 20 bits of a product of 64
unfoldable pub slot_of : ℕ → ℕ → ℕ
slot_of window mask = bit_and window mask * golden % 2 ^ 64 / 2 ^ 44

-- the table has a pattern's windows at its first places, as many as the stride
pub record HasWindows (table : List ℕ) (mask stride : ℕ) (pattern : List ℕ) : Type 0 where
  pub has : (offset : ℕ) → offset < stride → offset < length pattern
      → 0 < slot_bit table (slot_of (window_at pattern offset) mask)

-- the table has the windows of all patterns at their first places
pub record HaveWindows (table : List ℕ) (mask stride : ℕ) (patterns : List (List ℕ)) : Type 0 where
  pub each : (place : ℕ) → place < length patterns → HasWindows table mask stride (word_at patterns place)
