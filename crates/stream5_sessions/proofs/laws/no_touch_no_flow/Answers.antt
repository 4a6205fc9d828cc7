-- No number is below 0, the count of the flows that have begun without a touch, so none is that of a live flow.
use Rattle.stream5_sessions.proofs.Liveness.NoTouch.{live_flows-none}
use Rattle.stream5_sessions.proofs.laws.no_touch_no_flow.Goals as goal

pub returns : goal.returns
returns c = live_flows-none
