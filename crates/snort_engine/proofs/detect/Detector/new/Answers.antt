-- A new front and a new inspection were given nothing, so that the detector is the one after no record, and
-- its lanes know of no job.
use Rattle.snort_engine.proofs.Lines.Detecting.{inspection_holds-new, known-new}
use Rattle.snort_engine.proofs.detect.Detector.new.Goals as goal

pub returns-clause-holds : goal.returns-clause-holds
returns-clause-holds g c = λ matches. record {
  front = rw c.front_config.ensures.way at c.in_ok-front.ensures.holds;
  inspection = inspection_holds-new c.args.plan.now matches c.in_ok-inspection.inspection c.requires c.in_ok-inspection.ensures;
  last = c.in_ok-inspection.ensures.last;
}

pub returns-clause-known : goal.returns-clause-known
returns-clause-known g c = known-new c.args.plan.now _ (rw c.front_config.ensures.way at c.in_ok-front.ensures.holds) c.in_ok-inspection.ensures
