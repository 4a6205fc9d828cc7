-- The run has come as far as the pieces passed have bytes.
use Rattle.std.proofs.Common.{◌≡◌, ◌+◌}
use Rattle.overlap_core.specs.Pieces.{bytes_held}
use Rattle.overlap_core.proofs.runs.run_end.Given as goal

abbrev pub invariant-loop-piece : goal.invariant-loop-piece
invariant-loop-piece l = record {
  can : (goal.iterator-loop-piece).can_next l.rest;
  finite : (goal.iterator-loop-piece).is_finite l.rest;
  come : l.end + bytes_held l.rest ≡ l.fn.end + bytes_held l.fn.rest;
}
