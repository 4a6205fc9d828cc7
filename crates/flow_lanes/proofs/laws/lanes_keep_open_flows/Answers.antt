-- A lane keeps what the flow's jobs among its own leave: something just where there are some and the last isn't the flow's
-- end; of another lane's flow it has none.
use Rattle.flow_lanes.proofs.Open.{lanes-keep}
use Rattle.flow_lanes.proofs.laws.lanes_keep_open_flows.Goals as goal

pub returns : goal.returns
returns c = lanes-keep
