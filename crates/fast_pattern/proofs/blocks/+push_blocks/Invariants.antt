-- `push_blocks` calls itself for halves, which have one bit fewer.
use Rattle.fast_pattern.proofs.blocks.+push_blocks.Given as goal

abbrev pub decreases-push_blocks : goal.decreases-push_blocks
decreases-push_blocks l = l.bits
