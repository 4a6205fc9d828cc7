-- The front of the buffer is what was taken off the capture so far.
use Rattle.std.proofs.Common.{◌≡◌, ◌≤◌, ◌-◌, length, take, Option}
use Rattle.edge_io.specs.Files.{Files, IsUnopened, MaySee, left_by}
use Rattle.edge_io.specs.Told.{before}
use Rattle.pcap_input.proofs.fill.fill_seen.Given as goal

abbrev pub invariant-loop-done : goal.invariant-loop-done
invariant-loop-done g l = record {
  within : l.done ≤ length l.buf;
  unopened : (seen : Option Files)
      → MaySee (g.H.Host.contents l.host) (g.H.Host.agrees l.host) seen
      → IsUnopened seen (left_by (g.H.Host.left_of l.fn.host) seen)
      → l.done ≡ 0;
  took : (seen : Option Files)
      → MaySee (g.H.Host.contents l.host) (g.H.Host.agrees l.host) seen
      → left_by (g.H.Host.left_of l.fn.host) seen ≡ before (take l.done l.buf) (left_by (g.H.Host.left_of l.host) seen);
  contents : g.H.Host.contents l.host ≡ g.H.Host.contents l.fn.host;
  earlier : (seen : Option Files)
      → MaySee (g.H.Host.contents l.host) (g.H.Host.agrees l.host) seen
      → MaySee (g.H.Host.contents l.fn.host) (g.H.Host.agrees l.fn.host) seen;
  opens : g.H.Host.opens l.host ≡ g.H.Host.opens l.fn.host;
  same : g.H.Host.faults l.host ≡ g.H.Host.faults l.fn.host;
}

abbrev pub decreases-loop-done : goal.decreases-loop-done
decreases-loop-done g l = length l.buf - l.done
