-- The number is the first one and as many more as flows were taken, whose ends, numbered from the first one on, were added.
use Rattle.std.proofs.Common.{◌≡◌, ◌+◌, ◌++◌, map, take}
use Rattle.flow_lanes.specs.declared.job.Work.TheVariants as work
use Rattle.record_jobs.specs.Jobs.{numbered}
use Rattle.record_jobs.proofs.adding.add_finishes.Given as goal

abbrev pub invariant-loop-flow : goal.invariant-loop-flow
invariant-loop-flow l = record {
  number_is : l.number ≡ l.fn.number + l.flow-index;
  added : l.out.items ≡ l.initial.out.items ++ numbered l.fn.number l.moment (map (λ flow. work.Finish flow) (take l.flow-index l.flows));
}
