-- The letters that an automaton tells apart: the bytes of its patterns, ASCII case folded.
--
-- Each byte that occurs in a pattern has a letter of its own, which it shares with the byte in the other
-- case alone; all other bytes share the letter 0. So a row of the automaton's table is as short as can be.
-- To try it on: for the patterns `Ab` and `ba` the letter of `a` and `A` is 1, of `b` and `B` 2, of `c` 0.
use Rattle.std.specs.Prelude.{◌≡◌, ℕ, ◌<◌, ◌≤◌, ◌==◌, Bool, true, false, List, length, slice_index, slice_index_or, All}
use Rattle.std.specs.Char.{to_ascii_lowercase}

-- an ASCII letter in lower case, any other byte as it is
unfoldable pub lower : ℕ → ℕ
lower byte = to_ascii_lowercase byte

-- the byte is marked, by its lower case
pub record IsMarked (used : List Bool) (byte : ℕ) : Type 0 where
  pub short : byte < 256
  pub marked : slice_index_or used (lower byte) false ≡ true

-- each byte of a pattern, and of all patterns, is marked
pub record AreMarked (used : List Bool) (pattern : List ℕ) : Type 0 where
  pub each : All (IsMarked used) pattern

pub record AllMarked (used : List Bool) (patterns : List (List ℕ)) : Type 0 where
  pub each : All (AreMarked used) patterns

-- what was marked is
pub record KeepsMarks (old new : List Bool) : Type 0 where
  pub kept : (byte : ℕ) → slice_index_or old byte false ≡ true → slice_index_or new byte false ≡ true

-- the letters of all bytes below this one, by those of the bytes in lower case
pub record AreFolded (lowered letters : List ℕ) (below : ℕ) : Type 0 where
  pub sized : length letters ≡ 256
  pub folded : (byte : ℕ) → byte < below → slice_index letters byte ≡ slice_index lowered (lower byte)

-- the letters below a byte, which are given to the marked bytes in their order
pub record AreNumbered (used : List Bool) (letters : List ℕ) (below last : ℕ) : Type 0 where
  pub sized : length letters ≡ 256
  pub rising : (one other : ℕ) → one < other → other < below → slice_index_or used one false ≡ true
      → slice_index_or used other false ≡ true → slice_index letters one < slice_index letters other
  pub some : (byte : ℕ) → byte < below → slice_index_or used byte false ≡ true → 0 < slice_index letters byte
  pub none : (byte : ℕ) → slice_index_or used byte false ≡ false → slice_index letters byte ≡ 0
  pub later : (byte : ℕ) → below ≤ byte → slice_index letters byte ≡ 0
  pub most : (byte : ℕ) → slice_index letters byte ≤ last
  pub few : last ≤ below

-- the byte has its letter with no byte but the one in the other case
pub record IsTold (letters : List ℕ) (byte : ℕ) : Type 0 where
  pub short : byte < 256
  pub apart : (other : ℕ) → other < 256 → (slice_index letters byte == slice_index letters other) ≡ (lower byte == lower other)

-- each byte of all patterns has
pub record AreTold (letters : List ℕ) (pattern : List ℕ) : Type 0 where
  pub each : All (IsTold letters) pattern

pub record AllTold (letters : List ℕ) (patterns : List (List ℕ)) : Type 0 where
  pub each : All (AreTold letters) patterns
