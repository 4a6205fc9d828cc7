-- Why `for_each_spread` may call at each place: there are 1 to 64 lanes, so that each place fits, and the worker's jobs are
-- sound by `AreSoundAmong`.
use Rattle.std.proofs.Common.{length, sym, subst, arith, rules}
use Rattle.flow_lanes.specs.declared.worker.Worker.{Worker}
use Rattle.flow_lanes.specs.Batching.{AreSoundIn}
use Rattle.flow_lanes.proofs.batch.run_all.Goals as goal

pub for_each_spread-requires-clause-accepts : goal.for_each_spread-requires-clause-accepts
for_each_spread-requires-clause-accepts g c κs within = λ place worker below is. (
  (
    omega arith,
    omega arith,
    subst (λ (w : Worker). AreSoundIn (length c.args.inspector.now.stream.now.engines) (length c.args.workers.now) place w.lane c.args.jobs.now) (sym is) (c.requires.sound place worker.now below),
  ),
  (search rules, search rules, search rules),
)
