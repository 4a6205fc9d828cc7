-- What was added, with what the first `at` entries still have at the block, is all that is to be added; `at` falls.
use Rattle.fast_pattern.specs.Blocks.{IsFollowed}
use Rattle.fast_pattern.proofs.index.PortIndex.push_block.Given as goal

abbrev pub invariant-loop-at : goal.invariant-loop-at
invariant-loop-at l = IsFollowed l.self l.block l.fn.places.items l.at l.places.items

abbrev pub decreases-loop-at : goal.decreases-loop-at
decreases-loop-at l = l.at
