-- The entries of the lines so far, with those that the rest gives after them, are what the text gives; no more lines were
-- taken than bytes. The rest falls in length.
use Rattle.std.proofs.Common.{◌≡◌, ◌+◌, ◌≤◌, length}
use Rattle.std.specs.Str.Lines.{lines}
use Rattle.net_lists.specs.Lines.{kept}
use Rattle.host_table.specs.Lines.{numbered_lines}
use Rattle.host_table.specs.Hosts.{hosts_of, hosts_after}
use Rattle.host_table.proofs.read.read_hosts.Given as goal

abbrev pub invariant-loop-line : goal.invariant-loop-line
invariant-loop-line l =
    (l.number + length l.rest ≤ length l.fn.text) × (hosts_of l.fn.text ≡ hosts_after l.hosts (kept (numbered_lines (l.number + 1) (lines l.rest))))

abbrev pub decreases-loop-line : goal.decreases-loop-line
decreases-loop-line l = length l.rest
