-- Places by their keys, in chains: the last place of each key, and before each place the last one of its key. Both are kept
-- plus one, and 0 stands for none; the key 0 has no chain.
--
-- To try it on: of the places 0, 1 and 2 with the keys 5, 7 and 5 the last ones are 3 for 5 and 2 for 7, and before them
-- are 0, 0 and 1.
use Rattle.std.specs.Prelude.{◌≡◌, ℕ, ◌-◌, ◌<◌, ◌≤◌, ◌==◌, List, length, slice_index, slice_set, if◌then◌else◌}

-- the last of the places below one that have the key, plus one; 0 where there is none
pub record IsLastOf (keys : List ℕ) (below key owner : ℕ) : Type 0 where
  pub within : owner ≤ below
  pub own : 0 < owner → slice_index keys (owner - 1) ≡ key
  pub greatest : (place : ℕ) → place < below → slice_index keys place ≡ key → place < owner

-- the last place of each key but 0, and before each place the last one of its key, of the places below one
pub record AreOwned (keys : List ℕ) (key_count : ℕ) (firsts sames : List ℕ) (below : ℕ) : Type 0 where
  pub sized : length firsts ≡ key_count
  pub root : slice_index firsts 0 ≡ 0
  pub first : (key : ℕ) → 0 < key → key < key_count → IsLastOf keys below key (slice_index firsts key)
  pub count : length sames ≡ below
  pub same : (place : ℕ) → place < below → 0 < slice_index keys place
      → IsLastOf keys place (slice_index keys place) (slice_index sames place)

-- a place becomes the last of its key, if that isn't 0
abbrev pub owned_by : List ℕ → ℕ → ℕ → List ℕ
owned_by firsts key owner = if key == 0 then firsts else slice_set firsts key owner
