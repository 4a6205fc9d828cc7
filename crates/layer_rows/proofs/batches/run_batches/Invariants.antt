-- The lanes of `run_batches` are after a course of the jobs that were counted so far, whatever words are left.
use Rattle.flow_lanes.specs.Course.{IsCourse}
use Rattle.layer_rows.proofs.batches.run_batches.Given as goal

abbrev pub invariant-loop-words : goal.invariant-loop-words
invariant-loop-words g l = IsCourse l.lanes l.progress.jobs
