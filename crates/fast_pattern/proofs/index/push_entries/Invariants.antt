-- After the entries that there were, there is one of the place for each block so far.
use Rattle.std.proofs.Common.{◌≡◌, ◌++◌, take}
use Rattle.fast_pattern.specs.Blocks.{entries_of}
use Rattle.fast_pattern.proofs.index.push_entries.Given as goal

abbrev pub invariant-loop-block : goal.invariant-loop-block
invariant-loop-block l = l.entries.items ≡ l.fn.entries.items ++ entries_of l.place (take l.block-index l.blocks)
