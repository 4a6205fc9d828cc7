-- The bytes that are not left were taken.
use Rattle.std.proofs.Common.{◌≡◌, ◌≤◌, ◌-◌, Option}
use Rattle.edge_io.specs.Files.{Files, MaySee, left_by}
use Rattle.pcapng_input.specs.Steps.{TakesBytes}
use Rattle.pcapng_input.proofs.piece.skip.Given as goal

abbrev pub invariant-loop-left : goal.invariant-loop-left
invariant-loop-left g l = record {
  within : l.left ≤ l.count;
  passed : (seen : Option Files)
      → MaySee (g.H.Host.contents l.host) (g.H.Host.agrees l.host) seen
      → TakesBytes (l.count - l.left) (left_by (g.H.Host.left_of l.fn.host) seen) (left_by (g.H.Host.left_of l.host) seen);
  contents : g.H.Host.contents l.host ≡ g.H.Host.contents l.fn.host;
  earlier : (seen : Option Files)
      → MaySee (g.H.Host.contents l.host) (g.H.Host.agrees l.host) seen
      → MaySee (g.H.Host.contents l.fn.host) (g.H.Host.agrees l.fn.host) seen;
  opens : g.H.Host.opens l.host ≡ g.H.Host.opens l.fn.host;
  same : g.H.Host.faults l.host ≡ g.H.Host.faults l.fn.host;
}

abbrev pub decreases-loop-left : goal.decreases-loop-left
decreases-loop-left g l = l.left
