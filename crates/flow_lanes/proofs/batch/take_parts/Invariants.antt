-- The loop of `take_parts` has the answers of the workers so far; all lanes are as they were, and the workers
-- that are left are untouched.
use Rattle.std.proofs.Common.{◌≡◌, map, take, drop, Ok}
use Rattle.flow_lanes.specs.Batching.{lanes_of}
use Rattle.flow_lanes.proofs.batch.take_parts.Given as goal

abbrev pub invariant-loop-worker : goal.invariant-loop-worker
invariant-loop-worker l = record {
  lanes : lanes_of l.workers ≡ lanes_of l.initial.workers;
  rest : drop l.worker-index l.workers ≡ drop l.worker-index l.initial.workers;
  parts : map (λ worker. worker.outs) (take l.worker-index l.initial.workers) ≡ map (λ part. Ok part) l.parts.items;
}
