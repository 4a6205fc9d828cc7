-- Pieces in a row are at most as many as their bytes, and those as the places that they lie between.
use Rattle.std.proofs.Common.{ℕ, ◌+◌, ◌≤◌, List, [], ◌∷◌, length, arith}
use Rattle.overlap_core.specs.Pieces.{bytes_held, IsRow, Piece, piece_end}

pub row-few : (low high : ℕ) (pieces : List Piece) → IsRow low pieces high → length pieces ≤ bytes_held pieces
row-few low high [] row = omega arith
row-few low high (piece ∷ pieces) row =
    let rest = row-few (piece_end piece) high pieces row.2 in
    let some = row.1 in
    omega (arith, rest, some)

pub row-bytes : (low high : ℕ) (pieces : List Piece) → IsRow low pieces high → low + bytes_held pieces ≤ high
row-bytes low high [] row = omega (arith, row)
row-bytes low high (piece ∷ pieces) row =
    let rest = row-bytes (piece_end piece) high pieces row.2 in
    let after = row.0 in
    omega (arith, rest, after)

pub ruleset few = (row-few, row-bytes)
