-- What a queue keeps: pieces in order of place, no two of which overlap.
--
-- A piece has bytes of one segment, and tells the whole bounds of that segment, however little of it
-- is left. "aaaa" at 0, then "bbbb" at 2 leave two pieces under First: "aaaa" at 0, of 0 to 4, and
-- "bb" at 4, of 2 to 6; under Last "aa" at 0 and "bbbb" at 2.
use Rattle.std.specs.Prelude.{◌≡◌, ℕ, ◌+◌, ◌-◌, ◌<◌, ◌≤◌, Bool, ◌&&◌, List, [], ◌∷◌, Option, Some, None, nat_le, nat_lt, length, slice_index, if◌then◌else◌}
use Rattle.std.specs.Option.{option_map}
use Rattle.edge_io.specs.declared.policy.Preference.{Preference}
use Rattle.overlap_core.specs.declared.segment.Bounds.{Bounds}
use Rattle.overlap_core.specs.Segments.{Segment}
use Rattle.overlap_core.specs.Overlap.{bounds_of, byte_at, chosen_segment}

-- the place of the first byte, the bytes, and the whole bounds of the segment that they came in
pub record Piece : Type 0 where
  pub start : ℕ
  pub bytes : List ℕ
  pub whole : Bounds

-- the place after a piece's last byte
abbrev pub piece_end : Piece → ℕ
piece_end piece = piece.start + length piece.bytes

-- each piece has bytes and begins where the one before ends, or later; all lie from `low` to `high`
abbrev pub IsRow : ℕ → List Piece → ℕ → Type 0
IsRow low [] high = low ≤ high
IsRow low (piece ∷ pieces) high = (low ≤ piece.start) × (0 < length piece.bytes) × IsRow (piece_end piece) pieces high

-- the bytes that pieces have, counted
abbrev pub bytes_held : List Piece → ℕ
bytes_held [] = 0
bytes_held (piece ∷ pieces) = length piece.bytes + bytes_held pieces

-- the whole bounds of a segment, and its byte at one place
pub record Kept : Type 0 where
  pub whole : Bounds
  pub byte : ℕ

-- the whole bounds of a segment that covers the place, and its byte there
abbrev pub kept_at : ℕ → Segment → Kept
kept_at place segment = record { whole = bounds_of segment; byte = byte_at place segment }

-- the piece has a byte at the place
abbrev pub has_place : Piece → ℕ → Bool
has_place piece place = nat_le piece.start place && nat_lt place (piece_end piece)

-- what a piece that has the place tells of it
abbrev pub kept_of : ℕ → Piece → Kept
kept_of place piece = record { whole = piece.whole; byte = slice_index piece.bytes (place - piece.start) }

-- what the pieces tell of a place: nothing where none has it
abbrev pub kept_in : List Piece → ℕ → Option Kept
kept_in [] place = None
kept_in (piece ∷ pieces) place = if has_place piece place then Some (kept_of place piece) else kept_in pieces place

-- from the floor on, the pieces have the places that a segment covers and no others, and at each of
-- them the byte and the whole bounds of the segment that is chosen there
abbrev pub HoldChosen : Preference → List Segment → ℕ → List Piece → Type 0
HoldChosen preference segments floor pieces =
    (place : ℕ) → floor ≤ place → kept_in pieces place ≡ option_map (kept_at place) (chosen_segment preference segments place)
