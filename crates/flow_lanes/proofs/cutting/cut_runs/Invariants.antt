-- The loop of `cut_runs` has cut the runs so far: it has their payloads, in order.
use Rattle.std.proofs.Common.{◌≡◌}
use Rattle.flow_lanes.specs.Streams.{payloads_of}
use Rattle.flow_lanes.proofs.cutting.cut_runs.Given as goal

-- the runs so far were cut
abbrev pub invariant-loop-run : goal.invariant-loop-run
invariant-loop-run l = l.out.items ≡ payloads_of l.yielded
