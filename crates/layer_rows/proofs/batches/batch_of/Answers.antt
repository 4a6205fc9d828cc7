-- An empty list of jobs is numbered from any number on, so that what the loop keeps holds where it begins: `AreFrom-none`.
use Rattle.std.proofs.Common.{List, sym, subst}
use Rattle.flow_lanes.specs.declared.job.Job.{Job}
use Rattle.flow_lanes.specs.Course.{AreFrom}
use Rattle.flow_lanes.proofs.Course.{AreFrom-none}
use Rattle.layer_rows.proofs.batches.batch_of.Goals as goal

pub loop-word-init : goal.loop-word-init
loop-word-init c = subst (λ (jobs : List Job). AreFrom c.args.first jobs) (sym c.new-jobs.ensures.items) (AreFrom-none c.args.first)
