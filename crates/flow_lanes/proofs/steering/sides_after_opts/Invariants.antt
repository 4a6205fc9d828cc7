-- The loop of `sides_after_opts` has the sides after the options so far.
use Rattle.std.proofs.Common.{◌≡◌, take}
use Rattle.std.specs.Prelude.{fold}
use Rattle.flow_lanes.specs.Flows.{sides_after}
use Rattle.flow_lanes.proofs.steering.sides_after_opts.Given as goal

-- the options so far
abbrev pub invariant-loop-opt : goal.invariant-loop-opt
invariant-loop-opt l = l.sides ≡ fold sides_after l.fn.sides (take l.opt-index l.opts)
