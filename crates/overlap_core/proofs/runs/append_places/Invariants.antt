-- The places passed have bytes, and these follow what was there.
use Rattle.std.proofs.Common.{◌≡◌, ℕ, ◌+◌, ◌≤◌, List, ◌++◌, length, vec_len, vec_capacity}
use Rattle.overlap_core.specs.Pieces.{IsRow}
use Rattle.overlap_core.proofs.Joined.Filling.{IsFilling}
use Rattle.overlap_core.proofs.runs.append_places.Given as goal

abbrev pub invariant-loop-done : goal.invariant-loop-done
invariant-loop-done l = record {
  can : (goal.iterator-loop-done).can_next l.rest;
  finite : (goal.iterator-loop-done).is_finite l.rest;
  bytes : List ℕ;
  items : l.out.items ≡ l.fn.out.items ++ bytes;
  passed : l.done ≡ length bytes;
  within : l.done ≤ l.len;
  longer : vec_len l.out ≡ vec_len l.fn.out + l.done;
  room : vec_capacity l.fn.out ≤ vec_capacity l.out;
  filling : (top : ℕ) → IsRow l.floor l.pieces.list top → IsFilling l.pieces.list l.rest l.floor l.done l.len bytes top;
}
