-- The end appends nothing, and bytes that wait are of the line after those counted; fewer than 2^64 bytes were read, so that
-- the count of lines is exact: `lines-close`.
use Rattle.std.proofs.Common.{arith}
use Rattle.alert_json.specs.Facts.{run_facts}
use Rattle.snort_eve.proofs.LineForming.{lines-close}
use Rattle.snort_eve.proofs.line_form.finish_lines.Goals as goal

pub returns : goal.returns
returns c =
    lines-close (run_facts c.args.form.now.run) c.args.form.now.from c.args.state.now c.args._read c.args.out.now.items c.ending_of.result
    (rw c.deref.ensures.value at c.ending_of.ensures) (omega arith)
