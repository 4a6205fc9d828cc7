-- What came so far, and no count rose.
use Rattle.std.proofs.Common.{◌≡◌, ◌-◌, ◌^◌, ◌<◌, length}
use Rattle.edge_io.specs.Files.{Files}
use Rattle.snort_eve.specs.Copies.{Comes, point}
use Rattle.snort_eve.proofs.copy.copy_pieces.Given as goal

abbrev pub invariant-pieces : goal.invariant-pieces
invariant-pieces g l = record {
  comes : Comes (g.F.InputForm.means l.form) (g.H.Host.left_of l.fn.host) (g.A.Sink.written l.fn.alerts)
      (point (g.F.InputForm.came l.form l.state) (g.H.Host.agrees l.host) (g.H.Host.left_of l.host) l.read (g.A.Sink.written l.alerts));
  room : 0 < length l.block;
  earlier : (files : Files) → g.H.Host.agrees l.host files → g.H.Host.agrees l.fn.host files;
  same_contents : g.H.Host.contents l.host ≡ g.H.Host.contents l.fn.host;
  quiet : g.H.Host.faults l.host ≡ g.H.Host.faults l.fn.host;
  quiet_alerts : g.A.Sink.faults l.alerts ≡ g.A.Sink.faults l.fn.alerts;
}

abbrev pub decreases-pieces : goal.decreases-pieces
decreases-pieces g l = 2 ^ 64 - l.read
