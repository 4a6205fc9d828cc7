-- `blocks` has the block of each entry so far.
use Rattle.std.proofs.Common.{◌≡◌, take}
use Rattle.fast_pattern.specs.Blocks.{blocks_of}
use Rattle.fast_pattern.proofs.index.blocks_of.Given as goal

abbrev pub invariant-loop-entry : goal.invariant-loop-entry
invariant-loop-entry l = l.blocks.items ≡ blocks_of (take l.entry-index l.entries)
