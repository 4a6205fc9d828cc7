-- The loop of `new_workers` has made a new lane for each place so far.
use Rattle.std.proofs.Common.{◌≡◌}
use Rattle.std.specs.Prelude.{replicate}
use Rattle.flow_lanes.specs.LanesAfter.{new_lane}
use Rattle.flow_lanes.specs.Batching.{lanes_of}
use Rattle.flow_lanes.proofs.batch.new_workers.Given as goal

abbrev pub invariant-loop-place : goal.invariant-loop-place
invariant-loop-place l = lanes_of l.workers.items ≡ replicate l._place (new_lane l.flush l.inserts)
