-- Taking a worker's answers leaves its lane as it was and the workers after it untouched, so that the parts are the
-- answers that the workers had.
use Rattle.std.proofs.Common.{arith, Ok}
use Rattle.flow_lanes.proofs.Jobs.TakenParts.{kept_more, rest_more, taken_more}
use Rattle.flow_lanes.proofs.batch.take_parts.Goals as goal

pub returns-in_err-take_outs-clause-lanes : goal.returns-in_err-take_outs-clause-lanes
returns-in_err-take_outs-clause-lanes c =
    kept_more c.args.workers.now c.loop-worker.workers c.loop-worker.worker-index c.worker-item.result c.take_outs.new.self
    (λ worker. worker.lane) c.loop-worker.invariant.lanes c.take_outs.ensures.lane

pub returns-in_err-push-clause-lanes : goal.returns-in_err-push-clause-lanes
returns-in_err-push-clause-lanes c =
    kept_more c.args.workers.now c.loop-worker.workers c.loop-worker.worker-index c.worker-item.result c.take_outs.new.self
    (λ worker. worker.lane) c.loop-worker.invariant.lanes c.take_outs.ensures.lane

pub loop-worker-preserved : goal.loop-worker-preserved
loop-worker-preserved c = record {
  lanes =
      kept_more c.args.workers.now c.loop-worker.workers c.loop-worker.worker-index c.worker-item.result c.take_outs.new.self
      (λ worker. worker.lane) c.loop-worker.invariant.lanes c.take_outs.ensures.lane;
  rest =
      rest_more c.args.workers.now c.loop-worker.workers c.loop-worker.worker-index c.worker-item.result c.take_outs.new.self
      c.loop-worker.invariant.rest;
  parts =
      taken_more c.args.workers.now c.loop-worker.workers c.loop-worker.worker-index c.worker-item.result c.take_outs.new.self
      (λ worker. worker.outs) (λ part. Ok part) (omega arith) c.loop-worker.invariant.rest c.loop-worker.parts.items
      c.push.new.self.items c.in_ok-take_outs.field-0 c.loop-worker.invariant.parts c.in_ok-take_outs.ensures.taken
      c.in_ok-push.ensures.items;
}
