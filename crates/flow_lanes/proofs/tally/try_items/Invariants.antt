-- The loop of `try_items` has tried the items so far.
use Rattle.std.proofs.Common.{take}
use Rattle.flow_lanes.specs.Given.{inspection_of}
use Rattle.flow_lanes.specs.Tried.{Tries, so_far}
use Rattle.flow_lanes.proofs.tally.try_items.Given as goal

-- the items so far were tried
abbrev pub invariant-loop-item : goal.invariant-loop-item
invariant-loop-item g l = Tries (inspection_of g.P.Pattern.finds l.inspector) (take l.item-index l.items) l.fn.bits l.bits (so_far l.fn.tally) (so_far l.tally)
