-- An inspector that tells all items makes what `search_counted` finds of a job its answer, and `tries` the number of its
-- candidates: the lemmas `answers-job` and `counts-tries`.
use Rattle.flow_lanes.proofs.Jobs.IsDone.{answers-job, counts-tries}
use Rattle.flow_lanes.proofs.lane.Lane.job_counted.Goals as goal

pub returns-clause-answers : goal.returns-clause-answers
returns-clause-answers g c =
    answers-job g.P.Pattern.finds c.args.stream.now c.args.set.now c.args.self.now c.search_counted.new.self c.args.job.now
    c.in_ok-counted.counted.found c.in_ok-counted.ensures.finds

pub returns-clause-tries : goal.returns-clause-tries
returns-clause-tries g c =
    counts-tries g.P.Pattern.finds c.args.stream.now c.args.set.now c.args.self.now c.search_counted.new.self c.args.job.now
    c.in_ok-counted.counted.found c.in_ok-counted.ensures.finds
