-- The jobs so far of `batch_of` are plain, and numbered from `first` on.
use Rattle.flow_lanes.specs.Course.{AreFrom}
use Rattle.layer_rows.proofs.batches.batch_of.Given as goal

abbrev pub invariant-loop-word : goal.invariant-loop-word
invariant-loop-word l = AreFrom l.first l.jobs.items
