-- The loop of `push_payloads` has appended an item for each payload so far, all with the same head.
use Rattle.std.proofs.Common.{◌≡◌, ℕ, List, ◌++◌, map}
use Rattle.flow_lanes.proofs.streams.push_payloads.Given as goal

-- the payloads so far
abbrev pub invariant-loop-payload : goal.invariant-loop-payload
invariant-loop-payload l = l.out.items ≡ l.fn.out.items ++ map (λ (payload : List ℕ). record { head = l.head; payload = payload }) l.yielded
