-- How a new segment is laid over pieces, and how pieces are cut.
--
-- A cut parts the piece that has the places on both sides of it. "bbbb" at 2 over "aaaa" at 4 is cut at
-- 4 and 6, fills the gap from 2 to 4, and takes what it wins of 4 to 6.
use Rattle.std.specs.Prelude.{◌≡◌, ℕ, ◌+◌, ◌-◌, ◌<◌, ◌≤◌, ◌&&◌, List, [], ◌∷◌, ◌++◌, Option, Some, None, nat_le, nat_lt, max, min, length, map, take, drop, if◌then◌else◌}
use Rattle.edge_io.specs.declared.policy.Preference.{Preference}
use Rattle.piece_list.specs.Pieces.{Pieces}
use Rattle.overlap_core.specs.declared.room.Buffers.{Buffers}
use Rattle.overlap_core.specs.declared.room.Buffers.TheVariants.{Among, AfterAll}
use Rattle.overlap_core.specs.declared.segment.Bounds.{Bounds}
use Rattle.overlap_core.specs.Segments.{Segment}
use Rattle.overlap_core.specs.Overlap.{bounds_of, end_of, wins}
use Rattle.overlap_core.specs.Pieces.{IsRow, kept_in, Piece, piece_end}

-- the piece below a place in it, and from that place on
abbrev pub left_part : ℕ → Piece → Piece
left_part at piece = record { start = piece.start; bytes = take (at - piece.start) piece.bytes; whole = piece.whole }

abbrev pub right_part : ℕ → Piece → Piece
right_part at piece = record { start = at; bytes = drop (at - piece.start) piece.bytes; whole = piece.whole }

-- the place lies inside the piece, with a byte on each side
abbrev pub parts : ℕ → Piece → List Piece
parts at piece =
    if nat_lt piece.start at && nat_lt at (piece_end piece) then left_part at piece ∷ right_part at piece ∷ [] else piece ∷ []

-- the pieces, cut at a place
abbrev pub cut_row : ℕ → List Piece → List Piece
cut_row at [] = []
cut_row at (piece ∷ pieces) = parts at piece ++ cut_row at pieces

-- no piece has places on both sides
abbrev pub IsCutAt : ℕ → List Piece → Type 0
IsCutAt at [] = Unit {0}
IsCutAt at (piece ∷ pieces) = (piece.start < at → piece_end piece ≤ at) × IsCutAt at pieces

-- all pieces begin below a place, or from it on
abbrev pub BeginBelow : ℕ → List Piece → Type 0
BeginBelow at [] = Unit {0}
BeginBelow at (piece ∷ pieces) = (piece.start < at) × BeginBelow at pieces

abbrev pub BeginFrom : ℕ → List Piece → Type 0
BeginFrom at [] = Unit {0}
BeginFrom at (piece ∷ pieces) = (at ≤ piece.start) × BeginFrom at pieces

-- the segment's bytes from one place on and below another
abbrev pub part_of : Segment → ℕ → ℕ → Piece
part_of new low high = record { start = low; bytes = take (high - low) (drop (low - new.start) new.bytes); whole = bounds_of new }

-- the segment's bytes from one place on and below another as a list of pieces, with nothing for no place
abbrev pub gap_piece : Segment → ℕ → ℕ → List Piece
gap_piece new low high = if nat_lt low high then part_of new low high ∷ [] else []

-- a piece within the segment, with the segment's bytes where that wins
abbrev pub overlaid : Preference → Segment → Piece → Piece
overlaid preference new piece = if nat_le new.start piece.start && nat_le (piece_end piece) (end_of new)
    && wins preference piece.whole (bounds_of new) then part_of new piece.start (piece_end piece) else piece

-- the pieces from a place on, with the segment laid over them: it fills the gaps, and takes what it wins
abbrev pub laid : Preference → Segment → ℕ → List Piece → List Piece
laid preference new low [] = gap_piece new low (end_of new)
laid preference new low (piece ∷ pieces) = gap_piece new low (min piece.start (end_of new))
    ++ (overlaid preference new piece ∷ laid preference new (piece_end piece) pieces)

-- the lengths of the gaps from one place on and below another
abbrev pub gap_size : ℕ → ℕ → List ℕ
gap_size low high = if nat_lt low high then (high - low) ∷ [] else []

abbrev pub gap_sizes : ℕ → ℕ → List Piece → List ℕ
gap_sizes low high [] = gap_size low high
gap_sizes low high (piece ∷ pieces) = gap_size low (min piece.start high) ++ gap_sizes (piece_end piece) high pieces

-- the list's place is between these pieces
pub record Between (pieces : Pieces Piece) (front rest : List Piece) : Type 0 where
  pub list : pieces.list ≡ front ++ rest
  pub place : pieces.place ≡ length front

-- the pieces are cut where a segment's places from `low` to `high` begin and end, and there is a buffer
-- and a node for each gap
pub record IsReady (pieces : Pieces Piece) (gaps : List (List ℕ)) (low high : ℕ) : Type 0 where
  pub front : List Piece
  pub rest : List Piece
  pub between : Between pieces front rest
  pub top : ℕ
  pub row : IsRow low rest top
  pub sizes : map length gaps ≡ gap_sizes low high rest
  pub nodes : length gaps ≤ pieces.spare

-- the pieces from a later floor on
abbrev pub raised : ℕ → List Piece → List Piece
raised below [] = []
raised below (piece ∷ pieces) = if nat_le (piece_end piece) below then raised below pieces
    else (if nat_lt piece.start below then right_part below piece ∷ pieces else piece ∷ pieces)

-- the bounds of the first piece, if it begins below a place; nothing if there is none that does
abbrev pub NextBelow : List Piece → ℕ → Option Bounds → Type 0
NextBelow [] high next = next ≡ None
NextBelow (piece ∷ pieces) high None = high ≤ piece.start
NextBelow (piece ∷ pieces) high (Some next) = (next.start ≡ piece.start) × (next.end ≡ piece_end piece) × (piece.start < high)

-- a segment of these bounds can be laid among the pieces without further memory: they are cut where its
-- places from the floor on begin and end, and there is a buffer and a node for each gap
pub record IsRoomAmong (floor : ℕ) (bounds : Bounds) (pieces : Pieces Piece) (gaps : List (List ℕ)) : Type 0 where
  pub begins : IsCutAt (max floor bounds.start) pieces.list
  pub ends : IsCutAt bounds.end pieces.list
  pub sizes : (front rest : List Piece) → pieces.list ≡ front ++ rest → BeginBelow (max floor bounds.start) front
      → BeginFrom (max floor bounds.start) rest
      → map length gaps ≡ gap_sizes (max floor bounds.start) bounds.end rest
  pub nodes : length gaps ≤ pieces.spare

-- a segment of these bounds, which lies after all pieces, can be laid without further memory: the pieces end at
-- `top` at the latest, and there is a node, and a buffer of its length
pub record IsRoomAfter (top : ℕ) (bounds : Bounds) (pieces : Pieces Piece) (buffer : List ℕ) : Type 0 where
  pub after : top ≤ bounds.start
  pub size : bounds.start + length buffer ≡ bounds.end
  pub node : 0 < pieces.spare

-- there is room for a segment of these bounds, after all pieces or among them, by the buffers that were made
abbrev pub IsRoomFor : ℕ → ℕ → Bounds → Pieces Piece → Buffers → Type 0
IsRoomFor floor top bounds pieces (AfterAll buffer) = IsRoomAfter top bounds pieces buffer
IsRoomFor floor top bounds pieces (Among buffers) = IsRoomAmong floor bounds pieces buffers.items

-- other pieces in a row that tell the same of every place
pub record IsRecut (low high : ℕ) (old new : List Piece) : Type 0 where
  pub row : IsRow low new high
  pub same : (place : ℕ) → kept_in new place ≡ kept_in old place
