-- The loop of `greatest_number` has the fold over the jobs so far: the number of the last of them, or what was known before.
use Rattle.std.proofs.Common.{◌≡◌, take, Some}
use Rattle.std.specs.Prelude.{fold}
use Rattle.flow_lanes.specs.declared.job.Job.{Job}
use Rattle.flow_lanes.proofs.batch.greatest_number.Given as goal

abbrev pub invariant-loop-job : goal.invariant-loop-job
invariant-loop-job l = l.greatest ≡ fold (λ most (job : Job). Some job.number) l.initial.greatest (take l.job-index l.jobs)
