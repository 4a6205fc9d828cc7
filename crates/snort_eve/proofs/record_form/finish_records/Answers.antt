-- The event that waits gives the last line, after which the lines are those of all records; no record begins at the bytes
-- that wait, and their place is the number of bytes read before them: `end-closes`.
use Rattle.snort_eve.specs.Events.{line_by}
use Rattle.snort_eve.proofs.Recording.{end-closes}
use Rattle.snort_eve.proofs.record_form.finish_records.Goals as goal

pub returns : goal.returns
returns c =
    end-closes (line_by c.args.lines.now) c.args.state.now.rest.items c.args.state.now.held c.args.read _ _ c.ending_of.result c.in_ok-finish.ensures (rw c.deref.ensures.value at c.ending_of.ensures)
