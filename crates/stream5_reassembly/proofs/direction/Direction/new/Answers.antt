-- A direction that isn't started has no segment and its top at its base, so it is within its limits (`idle-kept`).
use Rattle.std.proofs.Common.{refl}
use Rattle.stream5_reassembly.proofs.Steps.{idle-kept}
use Rattle.stream5_reassembly.proofs.direction.Direction.new.Goals as goal

pub invariant_of-result : goal.invariant_of-result
invariant_of-result c = rw c.new.ensures (record { preference = refl; kept = idle-kept c.args.limits c.args.preference c.requires })

pub returns-clause-bounds : goal.returns-clause-bounds
returns-clause-bounds c = rw c.new.ensures (idle-kept c.args.limits c.args.preference c.requires).within
