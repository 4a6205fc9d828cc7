-- The pieces passed don't have the place.
use Rattle.std.proofs.Common.{◌≡◌}
use Rattle.overlap_core.specs.Joined.{byte_in}
use Rattle.overlap_core.proofs.runs.byte_of.Given as goal

abbrev pub invariant-loop-piece : goal.invariant-loop-piece
invariant-loop-piece l = record {
  can : (goal.iterator-loop-piece).can_next l.rest;
  finite : (goal.iterator-loop-piece).is_finite l.rest;
  same : byte_in l.rest l.place ≡ byte_in l.pieces.list l.place;
}
