-- One end more has the next number and goes to the end of the list (`finishes_more`), so the ends of all flows are numbered
-- in their order.
use Rattle.std.proofs.Common.{arith}
use Rattle.record_jobs.proofs.Fronts.Ending.{finishes_more}
use Rattle.record_jobs.proofs.adding.add_finishes.Goals as goal

pub loop-flow-preserved : goal.loop-flow-preserved
loop-flow-preserved c = record {
  number_is = omega (arith, c.loop-flow.invariant.number_is, c.in_ok-number.ensures.next);
  added =
      finishes_more c.args.out.now.items c.loop-flow.out.items c.add_finish.new.out.items c.args.number c.loop-flow.number c.args.moment c.args.flows.now c.loop-flow.flow-index
      c.loop-flow-test.true c.loop-flow.invariant.number_is c.loop-flow.invariant.added c.in_ok-number.ensures.added;
}
