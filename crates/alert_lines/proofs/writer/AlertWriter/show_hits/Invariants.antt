-- The items of the jobs so far were shown.
use Rattle.std.proofs.Common.{◌≡◌, Ok, take}
use Rattle.alert_lines.specs.Showing.{Shows, showing, shown_by}
use Rattle.alert_lines.specs.Beside.{by_place}
use Rattle.alert_lines.specs.Sourcing.{source_by, sourced_items}
use Rattle.alert_lines.proofs.writer.AlertWriter.show_hits.Given as goal

abbrev pub invariant-loop-job : goal.invariant-loop-job
invariant-loop-job g l = record {
  shown : Shows (shown_by l.by) (sourced_items (by_place (source_by l.sources) 0 (take l.job-index l.jobs)))
      (showing g.A.Sink l.fn.self l.fn.alerts) (showing g.A.Sink l.self l.alerts) (Ok (tt {0}));
  at : l.place ≡ l.job-index;
}
