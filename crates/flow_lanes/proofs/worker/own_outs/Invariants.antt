-- The loop of `own_outs` has gone on with those of the jobs so far that are the lane's own.
use Rattle.std.proofs.Common.{take}
use Rattle.flow_lanes.specs.Given.{inspection_of}
use Rattle.flow_lanes.specs.Batching.{GoesOn, own_jobs}
use Rattle.flow_lanes.proofs.worker.own_outs.Given as goal

abbrev pub invariant-loop-job : goal.invariant-loop-job
invariant-loop-job g l = GoesOn (inspection_of g.P.Pattern.finds l.inspector) l.initial.lane (own_jobs l.share.count l.share.place (take l.job-index l.jobs)) l.outs.items l.lane
