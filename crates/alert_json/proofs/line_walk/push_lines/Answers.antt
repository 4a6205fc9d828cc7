-- Each line that is taken carries the records on (`walk-on`), and there are no more lines than bytes (`walk-room`).
use Rattle.std.proofs.Common.{refl, arith}
use Rattle.alert_json.specs.Facts.{run_facts}
use Rattle.alert_json.proofs.LineMoments.Walks.{walk-on, walk-room}
use Rattle.alert_json.proofs.line_walk.push_lines.Goals as goal

pub overflow_add-taken-in-Took : goal.overflow_add-taken-in-Took
overflow_add-taken-in-Took c =
    omega (arith, walk-room (run_facts c.args.run.now) c.args.from c.args.bytes.now c.args.out.now.items c.lines.out.items c.lines.taken c.lines.invariant.walks)

pub lines-preserved : goal.lines-preserved
lines-preserved c = record {
  walks = walk-on (run_facts c.args.run.now) c.args.from c.in-Took.next c.args.bytes.now _ c.args.out.now.items c.lines.out.items _ c.lines.taken _ c.in-Took.size c.in_ok-size.field-0
      c.lines.invariant.walks refl c.in-Took.is c.in_ok-size.ensures refl refl refl;
  own = c.lines.invariant.own;
}
