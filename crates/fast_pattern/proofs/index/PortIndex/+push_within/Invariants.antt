-- `push_within` calls itself for the half that has the port, which has one bit fewer.
use Rattle.fast_pattern.proofs.index.PortIndex.+push_within.Given as goal

abbrev pub decreases-push_within : goal.decreases-push_within
decreases-push_within l = l.bits
