-- The loop of `sides_after_hit` has the sides after those of the item's rules that were taken so far.
use Rattle.std.proofs.Common.{◌≡◌, take}
use Rattle.std.specs.Prelude.{fold}
use Rattle.flow_lanes.specs.Flows.{sides_after_rule}
use Rattle.flow_lanes.proofs.steering.sides_after_hit.Given as goal

-- the rules so far
abbrev pub invariant-loop-place : goal.invariant-loop-place
invariant-loop-place l = l.sides ≡ fold (sides_after_rule l.rules) l.fn.sides (take l.place-index l.place-items)
