-- The records up to this place were added.
use Rattle.std.proofs.Common.{◌-◌, length}
use Rattle.unified2_out.proofs.Walks.{IsWalk}
use Rattle.unified2_out.proofs.read.push_records.Given as goal

abbrev pub invariant-loop-place : goal.invariant-loop-place
invariant-loop-place l = IsWalk l.bytes l.fn.out.items l.out.items l.place

abbrev pub decreases-loop-place : goal.decreases-loop-place
decreases-loop-place l = length l.bytes - l.place
