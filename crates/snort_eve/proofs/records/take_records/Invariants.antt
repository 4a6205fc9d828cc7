-- The records up to this place were added.
use Rattle.std.proofs.Common.{◌-◌, length}
use Rattle.unified2_out.proofs.Walks.{IsWalk}
use Rattle.snort_eve.proofs.records.take_records.Given as goal

abbrev pub invariant-places : goal.invariant-places
invariant-places l = IsWalk l.bytes l.fn.entries.items l.entries.items l.place

abbrev pub decreases-places : goal.decreases-places
decreases-places l = length l.bytes - l.place
