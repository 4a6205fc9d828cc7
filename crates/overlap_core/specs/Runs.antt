-- The maximal runs of places that have a byte.
--
-- Bytes are given by place, as `Some` of the byte or `None`. In "ab" at 0, "cd" at 2 and "e" at 5, the
-- runs below 6 are "abcd" at 0 and "e" at 5; below 3 there is the one run "abc" at 0.
use Rattle.std.specs.Prelude.{◌≡◌, ℕ, ◌+◌, ◌<◌, ◌≤◌, ◌⊎◌, List, [], ◌∷◌, ◌++◌, Option, Some, None, length, slice_index}
use Rattle.overlap_core.specs.declared.segment.Run.{Run}

-- no place from `low` on and below `high` has a byte
abbrev pub NoByte : (ℕ → Option ℕ) → ℕ → ℕ → Type 0
NoByte byte low high = (place : ℕ) → low ≤ place → place < high → byte place ≡ None

-- these are the bytes from the place `low` on, in order
abbrev pub AreBytes : (ℕ → Option ℕ) → ℕ → List ℕ → Type 0
AreBytes byte low bytes = (k : ℕ) → k < length bytes → byte (low + k) ≡ Some (slice_index bytes k)

-- the first run of the places from `low` on and below `high`: no place before it has a byte, it has
-- at least one, it holds those of its places, and the place after it is the limit or has none
pub record IsFirstRun (byte : ℕ → Option ℕ) (low high : ℕ) (run : Run) : Type 0 where
  pub begins : low ≤ run.start
  pub nothing_before : NoByte byte low run.start
  pub some : 0 < length run.bytes
  pub holds : AreBytes byte run.start run.bytes
  pub within : run.start + length run.bytes ≤ high
  pub ends : (run.start + length run.bytes ≡ high) ⊎ (byte (run.start + length run.bytes) ≡ None)

-- these are the maximal runs of the places from `low` on and below `high`, in order
abbrev pub AreRuns : (ℕ → Option ℕ) → ℕ → ℕ → List Run → Type 0
AreRuns byte low high [] = NoByte byte low high
AreRuns byte low high (run ∷ runs) = IsFirstRun byte low high run × AreRuns byte (run.start + length run.bytes) high runs

-- the new list is the old one with `count` bytes after it, those from the place `low` on
abbrev pub AppendsBytes : (ℕ → Option ℕ) → ℕ → ℕ → List ℕ → List ℕ → Type 0
AppendsBytes byte low count old new = (bytes : List ℕ) × (new ≡ old ++ bytes) × (length bytes ≡ count) × AreBytes byte low bytes

-- the new list is the old one with the maximal runs after it
abbrev pub AppendsRuns : (ℕ → Option ℕ) → ℕ → ℕ → List Run → List Run → Type 0
AppendsRuns byte low high old new = (runs : List Run) × (new ≡ old ++ runs) × AreRuns byte low high runs
