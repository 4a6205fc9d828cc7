-- A step of a front that stands for some records makes one that stands for these and the one taken, and adds the jobs of
-- that record (`takes`).
use Rattle.record_jobs.specs.Way.{linked, way_of}
use Rattle.record_jobs.proofs.Fronts.Taking.{takes}
use Rattle.record_jobs.proofs.front.Front.jobs.Goals as goal

pub returns-in-Ok-clause-takes : goal.returns-in-Ok-clause-takes
returns-in-Ok-clause-takes c =
    takes (way_of c.args.by.now) c.args.self.now (linked c.args.link c.args.captured.now) c.step.new.self c.args.out.now.items c.step.new.out.items c.in-Ok.ensures.steps
