-- Which patterns of a list occur in a text: what a search tells.
--
-- Patterns and texts are bytes. A pattern occurs where its bytes follow one another in the text, ASCII letters in either
-- case. An empty one is no pattern, and isn't found. The definition looks for each pattern at each place of the text.
-- To try it on: of the patterns `he`, `SHE`, `his` and `hers` those at the places 0, 1 and 3 occur in `Ushers`.
use Rattle.std.specs.Prelude.{ℕ, zero, suc, ◌+◌, Bool, true, ◌&&◌, List, [], ◌∷◌, length, nat_lt, slice_index_or, if◌then◌else◌}
use Rattle.std.specs.List.{list_any}
use Rattle.edge_io.specs.Matching.{begins, tails}

-- the bytes of the pattern follow one another somewhere in the text, ASCII letters in either case
unfoldable pub occurs : List ℕ → List ℕ → Bool
occurs pattern text = list_any (begins true pattern) (tails text)

-- the pattern isn't empty, and occurs
unfoldable pub is_found : List ℕ → List ℕ → Bool
is_found pattern text = nat_lt 0 (length pattern) && occurs pattern text

-- of this many numbers from one on those for which the test holds, in ascending order
unfoldable pub numbers : (ℕ → Bool) → ℕ → ℕ → List ℕ
numbers test from zero = []
numbers test from (suc count) = if test from then from ∷ numbers test (from + 1) count else numbers test (from + 1) count

-- the patterns that occur in the text, by their places in the list: ascending, each once
unfoldable pub occurring : List (List ℕ) → List ℕ → List ℕ
occurring patterns text = numbers (λ place. is_found (slice_index_or patterns place []) text) 0 (length patterns)
