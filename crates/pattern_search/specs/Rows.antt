-- How the moves of an automaton are laid out. The layout is this project's own choice.
--
-- The first states have a row each, with a move for each letter; for the others only the states that are longer
-- by a letter are kept, and where they fail to. A state with a row has the place at which its row begins, and each
-- other state a place after all rows.
-- To try it on: with two rows of three letters the states 0 and 1 have the places 0 and 3, and the state 2 has the
-- place 1073741826.
use Rattle.std.specs.Prelude.{◌≡◌, ℕ, ◌+◌, ◌-◌, ◌*◌, ◌/◌, ◌<◌, ◌≤◌, ◌==◌, List, ◌∷◌, length, nat_lt, slice_index, if◌then◌else◌}
use Rattle.pattern_search.specs.declared.rows.Rows.{Rows}
use Rattle.pattern_search.specs.declared.trie.Trie.{Trie}
use Rattle.pattern_search.specs.Words.{word_at, IsAt, IsTrieOf}
use Rattle.pattern_search.specs.Outputs.{AreFailing}

-- the first place that no row has: 2 to the 30
abbrev pub sparse : ℕ
sparse = 1073741824

-- the place of a state
unfoldable pub place_of : ℕ → ℕ → ℕ → ℕ
place_of width dense state = if nat_lt state dense then state * width else sparse + state

-- the state with a place
unfoldable pub state_of : ℕ → ℕ → ℕ
state_of width at = if nat_lt at sparse then at / width else at - sparse

-- a move to a state: its place, doubled, and whether a pattern has ended
unfoldable pub entry_of : ℕ → ℕ → List ℕ → ℕ → ℕ
entry_of width dense heads state = 2 * place_of width dense state + (if slice_index heads state == 0 then 0 else 1)

-- the moves to all states
pub record AreEntries (width dense : ℕ) (heads entries : List ℕ) (done : ℕ) : Type 0 where
  pub count : length entries ≡ done
  pub each : (state : ℕ) → state < done → slice_index entries state ≡ entry_of width dense heads state

-- a move by a letter, of those to all states
pub record HasEntry (words : List (List ℕ)) (entries : List ℕ) (state letter entry : ℕ) : Type 0 where
  pub next : ℕ
  pub within : next < length words
  pub at : IsAt words (letter ∷ word_at words state) (word_at words next)
  pub is : entry ≡ slice_index entries next

-- the moves of a table, as far as it goes
pub record AreRows (words : List (List ℕ)) (width : ℕ) (entries table : List ℕ) : Type 0 where
  pub each : (state letter : ℕ) → state < length words → letter < width → state * width + letter < length table
      → HasEntry words entries state letter (slice_index table (state * width + letter))

-- the next move of a table that has all moves before it
pub record IsNextEntry (trie : Trie) (fails entries table : List ℕ) (state letter entry : ℕ) : Type 0 where
  pub holds : (words : List (List ℕ)) (deep : ℕ) → IsTrieOf words trie deep → AreFailing words fails (length words)
      → state < length words → letter < trie.width → length table ≡ state * trie.width + letter
      → AreRows words trie.width entries table → HasEntry words entries state letter entry

-- a table has the rows of the states below one, and the first `letter` moves of that state's row
pub record HasRows (trie : Trie) (fails entries : List ℕ) (state letter : ℕ) (table : List ℕ) : Type 0 where
  pub long : length table ≡ state * trie.width + letter
  pub rows : (words : List (List ℕ)) (deep : ℕ) → IsTrieOf words trie deep → AreFailing words fails (length words)
      → state ≤ length words → (0 < letter → state < length words) → AreRows words trie.width entries table

-- the layout of the moves of a trie's states
pub record IsLayout (trie : Trie) (fails heads : List ℕ) (laid : Rows) : Type 0 where
  pub some : 0 < laid.dense
  pub within : laid.dense ≤ length trie.steps.items + 1
  pub fits : laid.dense * trie.width ≤ sparse
  pub moves : AreEntries trie.width laid.dense heads laid.entries.items (length trie.steps.items + 1)
  pub rows : HasRows trie fails laid.entries.items laid.dense 0 laid.table.items

-- this many letters are few
abbrev pub few_letters : ℕ
few_letters = 3

-- the state that is shorter by a letter, of whatever words this is the trie; the root for the root
pub record IsParent (trie : Trie) (state up : ℕ) : Type 0 where
  pub within : (words : List (List ℕ)) (deep : ℕ) → IsTrieOf words trie deep → state < length words → up < length words
  pub longer : (words : List (List ℕ)) (deep : ℕ) → IsTrieOf words trie deep → state < length words
      → length (word_at words state) ≤ length (word_at words up) + 1
  pub root : state ≡ 0 → up ≡ 0

-- the first `count` states have words of few letters
pub record AreShallow (trie : Trie) (count : ℕ) : Type 0 where
  pub short : (words : List (List ℕ)) (deep : ℕ) → IsTrieOf words trie deep → (state : ℕ) → state < count → state < length words
      → length (word_at words state) ≤ few_letters

-- where the place of a state is below this, its word has few letters
pub record IsShallow (trie : Trie) (dense bound : ℕ) : Type 0 where
  pub short : (words : List (List ℕ)) (deep : ℕ) → IsTrieOf words trie deep → dense * trie.width ≤ sparse → (state : ℕ)
      → state < length words → place_of trie.width dense state < bound → length (word_at words state) ≤ few_letters
