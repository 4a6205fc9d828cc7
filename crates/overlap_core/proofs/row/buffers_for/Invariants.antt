-- The gaps before the place have their buffers.
use Rattle.std.proofs.Common.{◌≡◌, ℕ, ◌-◌, List, ◌++◌, length, map}
use Rattle.overlap_core.specs.Pieces.{IsRow, Piece}
use Rattle.overlap_core.specs.Rows.{gap_sizes, Between}
use Rattle.overlap_core.proofs.Rows.Places.{IsWalk}
use Rattle.overlap_core.proofs.row.buffers_for.Given as goal

abbrev pub invariant-loop-next : goal.invariant-loop-next
invariant-loop-next l = record {
  list : l.pieces.list ≡ l.fn.pieces.list;
  sizes : (front rest : List Piece) (top : ℕ)
      → Between l.fn.pieces front rest
      → IsRow l.fn.low rest top
      → IsWalk l.pieces l.low top
      (λ later. map length l.buffers.items ++ gap_sizes l.low l.high later ≡ gap_sizes l.fn.low l.high rest);
}

abbrev pub decreases-loop-next : goal.decreases-loop-next
decreases-loop-next l = length l.pieces.list - l.pieces.place
