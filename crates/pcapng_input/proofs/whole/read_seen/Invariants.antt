-- The records so far are those that the calls after the opening gave.
use Rattle.std.proofs.Common.{◌≡◌, ◌≤◌, ◌-◌, Option, None, length}
use Rattle.edge_io.specs.Files.{Files, MaySee, left_by}
use Rattle.edge_io.specs.Told.{one_more}
use Rattle.pcapng_input.specs.Calls.{HasRead}
use Rattle.pcapng_input.proofs.whole.read_seen.Given as goal

abbrev pub invariant-each : goal.invariant-each
invariant-each g l = record {
  read : (seen : Option Files) → MaySee (g.H.Host.contents l.host) (g.H.Host.agrees l.host) seen → HasRead seen l.fn.name l.records l.reader (left_by (g.H.Host.left_of l.host) seen);
  within : length l.records ≤ l.limit;
  fresh : l.reader.refused ≡ None;
  contents : g.H.Host.contents l.host ≡ g.H.Host.contents l.fn.host;
  earlier : (seen : Option Files) → MaySee (g.H.Host.contents l.host) (g.H.Host.agrees l.host) seen → MaySee (g.H.Host.contents l.fn.host) (g.H.Host.agrees l.fn.host) seen;
  opens : g.H.Host.opens l.host ≡ one_more (g.H.Host.opens l.fn.host);
  same : g.H.Host.faults l.host ≡ g.H.Host.faults l.fn.host;
}

abbrev pub decreases-each : goal.decreases-each
decreases-each g l = l.limit - length l.records
