-- The place is not past the pieces that begin below the one sought.
use Rattle.std.proofs.Common.{◌≡◌, ◌-◌, ◌≤◌, List, ◌++◌, length}
use Rattle.overlap_core.specs.Pieces.{Piece}
use Rattle.overlap_core.specs.Rows.{BeginFrom}
use Rattle.overlap_core.proofs.row.step_on.Given as goal

abbrev pub invariant-loop-pieces : goal.invariant-loop-pieces
invariant-loop-pieces l = record {
  list : l.pieces.list ≡ l.fn.pieces.list;
  spare : l.pieces.spare ≡ l.fn.pieces.spare;
  before : (front rest : List Piece) → l.fn.pieces.list ≡ front ++ rest → BeginFrom l.at rest → l.fn.pieces.place ≤ length front → l.pieces.place ≤ length front;
}

abbrev pub decreases-loop-pieces : goal.decreases-loop-pieces
decreases-loop-pieces l = length l.pieces.list - l.pieces.place
