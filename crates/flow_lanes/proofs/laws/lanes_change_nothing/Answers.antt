-- An answer goes by the earlier jobs of its flow alone, and all jobs of a flow are in one lane: so the lanes' answers, put
-- in the order of the jobs, are those to the one list.
use Rattle.flow_lanes.proofs.Jobs.AreLaneAnswers.{lanes-joined}
use Rattle.flow_lanes.proofs.laws.lanes_change_nothing.Goals as goal

pub returns : goal.returns
returns c = λ d before jobs parts merged some are ascend put. lanes-joined d before jobs parts some are ascend merged put.whole put.ascend
