-- Before any key was touched.
use Rattle.std.proofs.Common.{◌≡◌, [], refl}
use Rattle.stream5_sessions.specs.Liveness.{MaxFlows, live_flows}

-- no flow lives
pub live_flows-none : (max : MaxFlows) → live_flows max [] ≡ []
unfolding live_flows
live_flows-none max = refl
