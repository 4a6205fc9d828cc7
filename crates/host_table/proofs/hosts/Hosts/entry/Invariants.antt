-- In the loop of `entry` no prefix length from `length` on has given an entry, so that the answer is the one with the
-- longest prefix below it; `length` falls.
use Rattle.std.proofs.Common.{◌≡◌, ◌≤◌, ◌+◌}
use Rattle.net_lists.specs.Addresses.{bits_of}
use Rattle.host_table.specs.Hosts.{entry_at}
use Rattle.host_table.proofs.Longest.{below}
use Rattle.host_table.proofs.hosts.Hosts.entry.Given as goal

abbrev pub invariant-loop-length : goal.invariant-loop-length
invariant-loop-length l = (l.length ≤ bits_of l.addr + 1) × (entry_at l.self l.addr ≡ below l.self l.addr l.length)

abbrev pub decreases-loop-length : goal.decreases-loop-length
decreases-loop-length l = l.length
