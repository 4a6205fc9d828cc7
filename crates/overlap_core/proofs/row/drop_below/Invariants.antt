-- The pieces passed are given up.
use Rattle.std.proofs.Common.{◌≡◌, length}
use Rattle.overlap_core.specs.Rows.{raised}
use Rattle.overlap_core.proofs.row.drop_below.Given as goal

abbrev pub invariant-loop-piece : goal.invariant-loop-piece
invariant-loop-piece l = record {
  front : l.pieces.place ≡ 0;
  same : raised l.below l.pieces.list ≡ raised l.below l.fn.pieces.list;
}

abbrev pub decreases-loop-piece : goal.decreases-loop-piece
decreases-loop-piece l = length l.pieces.list
