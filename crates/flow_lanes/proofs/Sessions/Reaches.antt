-- How far sides reach.
use Rattle.std.proofs.Common.{ℕ, ◌+◌, ◌^◌, ◌≤◌, Bool, true, false, not, Option, Some, None, arith}
use Rattle.flow_lanes.specs.Reach.{AreWithin, GrowsOne, IsWithin, Reaches}
use Rattle.flow_lanes.specs.Sessions.{FlowSession}
use Rattle.flow_lanes.specs.Sides.{SessionSide}

pub Reaches-weaker : (side : SessionSide) (a b : ℕ) → a ≤ b → Reaches side a → Reaches side b
Reaches-weaker side a b more h = let base = h.base in let size = h.size in record { base = omega arith; size = omega arith }

pub AreWithin-weaker : (session : FlowSession) (a b c d : ℕ) → a ≤ c → b ≤ d → AreWithin session a b → AreWithin session c d
AreWithin-weaker session a b c d more most h = record { client = Reaches-weaker session.client a c more h.client; server = Reaches-weaker session.server b d most h.server }

pub IsWithin-weaker : (found : Option FlowSession) (a b : ℕ) → a ≤ b → IsWithin found a → IsWithin found b
IsWithin-weaker None a b more h = tt
IsWithin-weaker (Some session) a b more h = AreWithin-weaker session a a b b more more h

-- one side comes further, and then the other
pub grow-both : (b : Bool) (old mid new : FlowSession) → GrowsOne b old mid → GrowsOne (not b) mid new → (places : ℕ) → AreWithin old places places → AreWithin new (places + 2 ^ 31) (places + 2 ^ 31)
grow-both true old mid new first second places h = second (places + 2 ^ 31) places (first places places h)
grow-both false old mid new first second places h = second places (places + 2 ^ 31) (first places places h)
