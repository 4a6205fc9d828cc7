-- The options that are left tell the resolution from that so far.
use Rattle.std.proofs.Common.{length}
use Rattle.pcapng_input.proofs.OptionLists.{Tells}
use Rattle.pcapng_input.proofs.options.resolution_told.Given as goal

abbrev pub invariant-loop-rest : goal.invariant-loop-rest
invariant-loop-rest l = Tells l.swapped l.found l.rest l.options

abbrev pub decreases-loop-rest : goal.decreases-loop-rest
decreases-loop-rest l = length l.rest
