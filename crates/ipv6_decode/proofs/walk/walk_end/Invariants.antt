-- The walk from here, over as many headers as are left, ends as the
-- one from the start; its place never falls, and is within the packet.
use Rattle.std.proofs.Common.{◌≡◌, ◌≤◌, length}
use Rattle.ipv6_decode.specs.Headers.{most_headers, walk_end}
use Rattle.ipv6_decode.proofs.walk.walk_end.Given as goal

abbrev pub invariant-loop-walk : goal.invariant-loop-walk
invariant-loop-walk l = record {
  same : walk_end l.left l.walk l.packet ≡ walk_end most_headers l.fn.start l.packet;
  onward : l.fn.start.place ≤ l.walk.place;
  within : l.walk.place ≤ length l.packet;
}

abbrev pub decreases-loop-walk : goal.decreases-loop-walk
decreases-loop-walk l = l.left
