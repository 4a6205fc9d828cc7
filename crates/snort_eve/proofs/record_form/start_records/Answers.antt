-- A new stream keeps no bytes and no event, as it does where no bytes have come, at which no record begins: `come-empty`.
use Rattle.snort_eve.specs.Events.{line_by}
use Rattle.snort_eve.proofs.Recording.{come-empty}
use Rattle.snort_eve.proofs.record_form.start_records.Goals as goal

pub returns : goal.returns
returns c = come-empty (line_by c.args.lines.now) _ _ c.new.ensures.rest c.new.ensures.held
