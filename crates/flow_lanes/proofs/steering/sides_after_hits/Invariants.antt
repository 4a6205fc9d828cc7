-- The loop of `sides_after_hits` has the sides after all rules that match the items so far.
use Rattle.std.proofs.Common.{◌≡◌, take}
use Rattle.std.specs.Prelude.{fold}
use Rattle.flow_lanes.specs.Flows.{sides_after_hit}
use Rattle.flow_lanes.proofs.steering.sides_after_hits.Given as goal

-- the items so far
abbrev pub invariant-loop-hit : goal.invariant-loop-hit
invariant-loop-hit l = l.sides ≡ fold (sides_after_hit l.rules) l.fn.sides (take l.hit-index l.hits)
