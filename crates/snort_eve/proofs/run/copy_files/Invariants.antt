-- The files so far are done, and no count rose.
use Rattle.std.proofs.Common.{◌≡◌, take}
use Rattle.edge_io.specs.Files.{Files}
use Rattle.snort_eve.proofs.Running.{DoneBy, lent}
use Rattle.snort_eve.proofs.run.copy_files.Given as goal

abbrev pub invariant-loop-name : goal.invariant-loop-name
invariant-loop-name g l = record {
  done : DoneBy (g.F.InputForm.means l.form) (g.H.Host.agrees l.host) (lent (take l.name-index l.names))
      (g.A.Sink.written l.fn.alerts) (g.A.Sink.written l.alerts);
  earlier : (files : Files) → g.H.Host.agrees l.host files → g.H.Host.agrees l.fn.host files;
  same_contents : g.H.Host.contents l.host ≡ g.H.Host.contents l.fn.host;
  quiet : g.H.Host.faults l.host ≡ g.H.Host.faults l.fn.host;
  quiet_alerts : g.A.Sink.faults l.alerts ≡ g.A.Sink.faults l.fn.alerts;
}
