-- A job whose flow is in the lane at the share's place is one of the lane's own, so that its answer makes the lane go on
-- with it: the lemma `AddsOwn-own`.
use Rattle.flow_lanes.specs.Given.{inspection_of}
use Rattle.flow_lanes.proofs.Jobs.OwnJobs.{AddsOwn-own, in_lane}
use Rattle.flow_lanes.proofs.worker.answer_own.Goals as goal

pub returns-in_ok-answer : goal.returns-in_ok-answer
returns-in_ok-answer g c =
    AddsOwn-own (inspection_of g.P.Pattern.finds c.args.inspector.now) c.args.share c.args.job.now c.args.lane.now c.answer.new.lane c.args.outs.now.items c.answer.new.outs.items
    (in_lane c.args.share.count c.args.share.place c.lane_of.result c.flow_of.result c.args.job.now c.lane_of.ensures c.flow_of.ensures c.if-lane_of-share.true)
    c.in_ok-answer.ensures
