-- A front that has taken nothing keeps no fragments and no flows, with the configured limits, as the definitions say of no
-- records (`holds_none`).
use Rattle.record_jobs.specs.Way.{way_of}
use Rattle.record_jobs.proofs.Fronts.Ending.{holds_none}
use Rattle.record_jobs.proofs.front.Front.new.Goals as goal

pub returns-clause-holds : goal.returns-clause-holds
returns-clause-holds c = holds_none (way_of c.args.by.now) c.frag3_of.result c.in_ok-flows.flows c.frag3_of.ensures c.in_ok-flows.ensures.seen c.in_ok-flows.ensures.most
