-- The answers to a flow's jobs among others are those that they have alone, so that two orders with the same jobs of the
-- flow have the same answers.
use Rattle.flow_lanes.proofs.Jobs.AnswersOfFlow.{answers_of_flow-any_order}
use Rattle.flow_lanes.proofs.laws.other_flows_change_nothing.Goals as goal

pub returns : goal.returns
returns c = λ d flow xs ys same. answers_of_flow-any_order d flow xs ys same
