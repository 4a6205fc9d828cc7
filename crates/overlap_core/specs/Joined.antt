-- How the bytes of pieces are joined to runs.
--
-- "ab" at 0 and "cd" at 2 are one run, "abcd" at 0; "e" at 5 begins another.
use Rattle.std.specs.Prelude.{ℕ, ◌+◌, ◌≤◌, List, [], ◌∷◌, ◌++◌, Option, length, nat_eq, if◌then◌else◌}
use Rattle.std.specs.Option.{option_map}
use Rattle.overlap_core.specs.declared.segment.Run.{Run}
use Rattle.overlap_core.specs.Pieces.{Kept, kept_in, Piece}

-- the byte that the pieces have at a place
abbrev pub byte_in : List Piece → ℕ → Option ℕ
byte_in pieces place = option_map (λ (kept : Kept). kept.byte) (kept_in pieces place)

-- a piece as a run
abbrev pub run_of : Piece → Run
run_of piece = record { start = piece.start; bytes = piece.bytes }

-- the first of the pieces begins at a place or after it, if there is one
abbrev pub FirstFrom : ℕ → List Piece → Type 0
FirstFrom at [] = Unit {0}
FirstFrom at (piece ∷ pieces) = at ≤ piece.start

-- the place after a run's last byte
abbrev pub end_of_run : Run → ℕ
end_of_run run = run.start + length run.bytes

-- bytes after runs: added to the last, where that ends at their start
abbrev pub with_run : List Run → ℕ → List ℕ → List Run
with_run [] start bytes = record { start = start; bytes = bytes } ∷ []
with_run (run ∷ []) start bytes = if nat_eq (end_of_run run) start
    then record { start = run.start; bytes = run.bytes ++ bytes } ∷ [] else run ∷ record { start = start; bytes = bytes } ∷ []
with_run (run ∷ next ∷ runs) start bytes = run ∷ with_run (next ∷ runs) start bytes
