-- The loop of `push_runs` has appended the items of the payloads of the runs so far, all with the same head.
use Rattle.std.proofs.Common.{◌≡◌, ◌++◌}
use Rattle.flow_lanes.specs.Streams.{payloads_of}
use Rattle.flow_lanes.proofs.Sessions.ItemsWith.{items_with}
use Rattle.flow_lanes.proofs.streams.push_runs.Given as goal

-- the items of the runs so far
abbrev pub invariant-loop-run : goal.invariant-loop-run
invariant-loop-run l = l.out.items ≡ l.fn.out.items ++ items_with l.head (payloads_of l.yielded)
