-- The blocks that were read so far are skipped.
use Rattle.std.proofs.Common.{◌≡◌, ◌≤◌, ◌-◌, Option}
use Rattle.edge_io.specs.Files.{Files, MaySee, left_by}
use Rattle.pcapng_input.specs.Blocks.{last_place}
use Rattle.pcapng_input.specs.Reader.{HasPassed}
use Rattle.pcapng_input.proofs.reader.read_next.Given as goal

abbrev pub invariant-each : goal.invariant-each
invariant-each g l = record {
  passed : (seen : Option Files)
      → MaySee (g.H.Host.contents l.host) (g.H.Host.agrees l.host) seen
      → HasPassed l.fn.walk l.walk (left_by (g.H.Host.left_of l.fn.host) seen) (left_by (g.H.Host.left_of l.host) seen);
  contents : g.H.Host.contents l.host ≡ g.H.Host.contents l.fn.host;
  earlier : (seen : Option Files)
      → MaySee (g.H.Host.contents l.host) (g.H.Host.agrees l.host) seen
      → MaySee (g.H.Host.contents l.fn.host) (g.H.Host.agrees l.fn.host) seen;
  opens : g.H.Host.opens l.host ≡ g.H.Host.opens l.fn.host;
  same : g.H.Host.faults l.host ≡ g.H.Host.faults l.fn.host;
}

abbrev pub decreases-each : goal.decreases-each
decreases-each g l = last_place - l.walk.at
