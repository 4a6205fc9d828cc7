-- The lane goes on with the batch one job more at a time, its own or another's, and what it has learnt of its earlier jobs
-- makes its next one sound (`GoesOn-sound`).
use Rattle.std.proofs.Common.{suc, [], List, take, drop, sym, subst}
use Rattle.std.proofs.lemmas.List.{take_all}
use Rattle.flow_lanes.specs.Given.{inspection_of}
use Rattle.flow_lanes.specs.declared.job.Job.{Job}
use Rattle.flow_lanes.specs.declared.answer.JobFound.{JobFound}
use Rattle.ordered_merge.specs.declared.numbered.Numbered.{Numbered}
use Rattle.flow_lanes.specs.Batching.{GoesOn, own_jobs}
use Rattle.flow_lanes.proofs.Jobs.OwnJobs.{GoesOn-none, GoesOn-sound, split_at_read, take_read}
use Rattle.flow_lanes.proofs.worker.own_outs.Goals as goal

pub loop-job-init : goal.loop-job-init
loop-job-init g c =
    subst (λ (outs : List (Numbered JobFound)). GoesOn (inspection_of g.P.Pattern.finds c.args.inspector.now) c.args.lane.now [] outs c.args.lane.now) (sym c.new-outs.ensures.items)
    (GoesOn-none (inspection_of g.P.Pattern.finds c.args.inspector.now) c.args.lane.now)

pub answer_own-requires-clause-sound : goal.answer_own-requires-clause-sound
answer_own-requires-clause-sound g c κs within is =
    GoesOn-sound (inspection_of g.P.Pattern.finds c.args.inspector.now) _ c.args.share.count c.args.share.place c.args.lane.now c.loop-job.lane
    c.args.jobs.now (take c.loop-job.job-index c.args.jobs.now) c.job-item.result (drop (suc c.loop-job.job-index) c.args.jobs.now) c.loop-job.outs.items
    c.requires.sound (split_at_read c.args.jobs.now c.loop-job.job-index c.job-item.result c.loop-job-test.true c.job-item.is) c.loop-job.invariant is

pub loop-job-preserved : goal.loop-job-preserved
loop-job-preserved g c =
    subst (λ (jobs : List Job). GoesOn (inspection_of g.P.Pattern.finds c.args.inspector.now) c.args.lane.now (own_jobs c.args.share.count c.args.share.place jobs) c.answer_own.new.outs.items
    c.answer_own.new.lane)
    (sym (take_read c.args.jobs.now c.loop-job.job-index c.job-item.result c.loop-job-test.true c.job-item.is))
    (c.in_ok-answer_own.ensures c.args.lane.now (take c.loop-job.job-index c.args.jobs.now) c.loop-job.invariant)

pub returns : goal.returns
returns g c =
    subst (λ (jobs : List Job). GoesOn (inspection_of g.P.Pattern.finds c.args.inspector.now) c.args.lane.now (own_jobs c.args.share.count c.args.share.place jobs) c.loop-job.outs.items
    c.loop-job.lane)
    (take_all c.loop-job.job-index c.args.jobs.now c.loop-job-test.false) c.loop-job.invariant
