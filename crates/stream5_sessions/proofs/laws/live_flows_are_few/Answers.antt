-- Different live flows are of different kept keys, and no more keys of a protocol are kept than may live (`live-few`).
use Rattle.stream5_sessions.proofs.Liveness.Lasting.{live-few}
use Rattle.stream5_sessions.proofs.laws.live_flows_are_few.Goals as goal

pub returns : goal.returns
returns c = live-few
