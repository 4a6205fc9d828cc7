-- Before any bytes none wait, no line is counted, and the first year follows from what the form tells: `lines-empty`.
use Rattle.std.proofs.Common.{refl}
use Rattle.alert_json.specs.Facts.{run_facts}
use Rattle.snort_eve.proofs.LineForming.{lines-empty}
use Rattle.snort_eve.proofs.line_form.start_lines.Goals as goal

pub returns : goal.returns
returns c = lines-empty (run_facts c.args.form.now.run) c.args.form.now.from _ c.new.ensures.items refl refl
