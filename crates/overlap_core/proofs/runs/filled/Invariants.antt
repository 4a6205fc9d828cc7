-- The places passed have bytes, and these are written.
use Rattle.std.proofs.Common.{ℕ, ◌≤◌, length}
use Rattle.overlap_core.specs.Pieces.{IsRow}
use Rattle.overlap_core.proofs.Joined.Filling.{IsFilling}
use Rattle.overlap_core.proofs.runs.filled.Given as goal

abbrev pub invariant-loop-done : goal.invariant-loop-done
invariant-loop-done l = record {
  can : (goal.iterator-loop-done).can_next l.rest;
  finite : (goal.iterator-loop-done).is_finite l.rest;
  within : l.done ≤ length l.out;
  filling : (top : ℕ) → IsRow l.floor l.pieces.list top → IsFilling l.pieces.list l.rest l.floor l.done (length l.out) l.out top;
}
