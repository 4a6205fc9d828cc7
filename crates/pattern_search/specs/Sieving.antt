-- Where in a text a pattern may begin, by a table of windows. This is this project's own choice.
--
-- The table has the windows of each pattern at its first places, as many as the stride. A text is asked for its
-- windows at the stride: where the slot of one isn't set, no pattern begins at its place, nor at those before it
-- back to the one that was asked before.
-- To try it on: with the pattern `abcdefghi` and a stride of 4, `xxabcdefghixx` is asked at the places 3, 7 and 11,
-- and bcdefg at 3 is a window of the pattern, so one may begin at 0 to 3.
use Rattle.std.specs.Prelude.{◌≡◌, ℕ, ◌+◌, ◌<◌, ◌≤◌, true, List, length, take, slice_index}
use Rattle.pattern_search.specs.declared.sieve.Sieve.{Sieve}
use Rattle.pattern_search.specs.Letters.{AllTold}
use Rattle.pattern_search.specs.Words.{begins, word_of, word_at}
use Rattle.pattern_search.specs.Slots.{slot_bit}
use Rattle.pattern_search.specs.Windows.{window_at, folding_mask, slot_of, HaveWindows}

-- the bit of the slot of a text's window
unfoldable pub window_bit : Sieve → List ℕ → ℕ → ℕ
window_bit sieve bytes at = slot_bit sieve.table.items (slot_of (window_at bytes at) sieve.mask)

-- the table has the first windows of the patterns, each of them whole, and no pattern is shorter than is said
pub record Sifts (sieve : Sieve) (patterns : List (List ℕ)) : Type 0 where
  pub letters : ℕ
  pub some : 0 < letters
  pub masked : sieve.mask ≡ folding_mask letters
  pub whole : (place : ℕ) → place < length patterns → 0 < length (word_at patterns place)
      → sieve.stride + letters ≤ length (word_at patterns place) + 1
  pub long : (place : ℕ) → place < length patterns → 0 < length (word_at patterns place)
      → sieve.shortest ≤ length (word_at patterns place)
  pub windows : HaveWindows sieve.table.items sieve.mask sieve.stride patterns

-- a pattern, with the letters that bytes have, occurs in a text and ends before a place
pub record EndsBefore (letters pattern bytes : List ℕ) (end : ℕ) : Type 0 where
  pub some : 0 < length pattern
  pub within : end ≤ length bytes
  pub is : begins (word_of letters pattern) (word_of letters (take end bytes)) ≡ true

-- a pattern that begins before one place begins before another, whichever patterns the table has the windows of
pub record Skips (sieve : Sieve) (bytes : List ℕ) (from to : ℕ) : Type 0 where
  pub none : (letters : List ℕ) (patterns : List (List ℕ)) → AllTold letters patterns → Sifts sieve patterns
      → ((k : ℕ) → slice_index bytes k < 256) → (place end : ℕ) → place < length patterns
      → EndsBefore letters (word_at patterns place) bytes end
      → end < to + length (word_at patterns place) → end < from + length (word_at patterns place)
