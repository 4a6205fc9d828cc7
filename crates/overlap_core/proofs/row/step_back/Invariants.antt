-- Only the place changes.
use Rattle.std.proofs.Common.{◌≡◌}
use Rattle.overlap_core.proofs.row.step_back.Given as goal

abbrev pub invariant-loop-pieces : goal.invariant-loop-pieces
invariant-loop-pieces l = record {
  list : l.pieces.list ≡ l.fn.pieces.list;
  spare : l.pieces.spare ≡ l.fn.pieces.spare;
}

abbrev pub decreases-loop-pieces : goal.decreases-loop-pieces
decreases-loop-pieces l = l.pieces.place
