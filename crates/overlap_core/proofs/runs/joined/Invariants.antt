-- The runs so far are those of the pieces passed.
use Rattle.std.proofs.Common.{ℕ, ◌≤◌}
use Rattle.overlap_core.specs.Pieces.{IsRow}
use Rattle.overlap_core.proofs.Joined.Joining.{IsJoining}
use Rattle.overlap_core.proofs.runs.joined.Given as goal

abbrev pub invariant-loop-piece : goal.invariant-loop-piece
invariant-loop-piece l = record {
  can : (goal.iterator-loop-piece).can_next l.rest;
  finite : (goal.iterator-loop-piece).is_finite l.rest;
  runs : (floor top : ℕ) → IsRow floor l.pieces.list top → floor ≤ l.below → IsJoining l.pieces.list l.rest l.runs.items floor l.below top;
}
