-- The items so far were shown.
use Rattle.std.proofs.Common.{Ok, map, take}
use Rattle.alert_lines.specs.Beside.{beside}
use Rattle.alert_lines.specs.Showing.{Shows, showing, shown_by}
use Rattle.alert_lines.proofs.writer.AlertWriter.show_items.Given as goal

abbrev pub invariant-loop-hits : goal.invariant-loop-hits
invariant-loop-hits g l = Shows (shown_by l.by) (map (beside l.origin) (take l.hits-index l.items))
    (showing g.A.Sink l.fn.self l.fn.alerts) (showing g.A.Sink l.self l.alerts) (Ok (tt {0}))
