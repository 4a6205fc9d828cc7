-- Each step so far has begun one flow at most, so that the next flow's number is no more than the steps that were
-- done, and far below its bound.
use Rattle.std.proofs.Common.{◌≤◌}
use Rattle.layer_rows.proofs.flows.run_steps.Given as goal

abbrev pub invariant-loop-step : goal.invariant-loop-step
invariant-loop-step l = l.flows.next ≤ l.done
