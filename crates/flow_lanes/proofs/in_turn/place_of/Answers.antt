-- With one lane every job is in lane 0, whatever its flow; else the place is `lane_of` of the job's flow,
-- which is below the count.
use Rattle.std.proofs.Common.{ap, ◌∙◌, arith}
use Rattle.flow_lanes.specs.Flows.{flow_of}
use Rattle.flow_lanes.specs.LanesAfter.{lane_of}
use Rattle.flow_lanes.proofs.Jobs.HaveSearched.{below_count}
use Rattle.flow_lanes.proofs.Jobs.AddsFound.{one_lane}
use Rattle.flow_lanes.proofs.in_turn.place_of.Goals as goal

pub returns-then-count-eq1-clause-value : goal.returns-then-count-eq1-clause-value
returns-then-count-eq1-clause-value c = one_lane c.args.count (flow_of c.args.job.now) c.if-count-eq1.true

pub returns-clause-value : goal.returns-clause-value
returns-clause-value c = c.lane_of.ensures ∙ ap (lane_of c.args.count) c.flow_of.ensures

pub returns-clause-within : goal.returns-clause-within
returns-clause-within c = omega (arith, c.lane_of.ensures, below_count c.args.count c.flow_of.result c.requires)
