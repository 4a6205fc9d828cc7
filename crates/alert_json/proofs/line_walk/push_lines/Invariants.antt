-- The lines up to this place gave their records.
use Rattle.std.proofs.Common.{◌≡◌, ◌-◌, length, false}
use Rattle.alert_json.specs.Facts.{run_facts}
use Rattle.alert_json.specs.LineWalks.{WalksLines}
use Rattle.alert_json.proofs.line_walk.push_lines.Given as goal

abbrev pub invariant-lines : goal.invariant-lines
invariant-lines l = record {
  walks : WalksLines (run_facts l.run) l.fn.from l.bytes l.fn.out.items l.out.items l.taken;
  own : l.taken.is_foreign ≡ false;
}

abbrev pub decreases-lines : goal.decreases-lines
decreases-lines l = length l.bytes - l.taken.size
