-- The texts so far were told, or the sink failed.
use Rattle.std.proofs.Common.{◌≤◌, true, take}
use Rattle.std.specs.List.{concat}
use Rattle.edge_io.specs.Told.{Rose}
use Rattle.snort_engine.specs.Steps.Reporting.{TellsOn}
use Rattle.snort_engine.proofs.report.tell_all.Given as goal

abbrev pub invariant-loop-text : goal.invariant-loop-text
invariant-loop-text g l = record {
  tells : TellsOn (concat (take l.text-index l.texts)) true (g.E.Sink.written l.fn.errors) (g.E.Sink.written l.errors) (Rose (g.E.Sink.faults l.fn.errors) (g.E.Sink.faults l.errors)) l.well;
  later : g.E.Sink.faults l.fn.errors ≤ g.E.Sink.faults l.errors;
}
