-- The one job of the batch is the end of a flow, which is plain, and has the number 0, from which the jobs
-- of new lanes are numbered.
use Rattle.std.proofs.Common.{◌∷◌, [], ap}
use Rattle.layer_tests.proofs.lanes.compare_lanes.Goals as goal

pub first_fault-requires-clause-jobs : goal.first_fault-requires-clause-jobs
first_fault-requires-clause-jobs g c κs within = record {
  plain = (c.end_of_flow.ensures.plain, tt);
  numbers = ap (λ n. n ∷ []) c.end_of_flow.ensures.number;
}
