-- The lines that `record_lines` gives of bytes are those of the records that they are, which is the way of such a
-- file: the lemma `are_listed`.
use Rattle.snort_engine.proofs.Courses.Loaded.{are_listed}
use Rattle.snort_engine.proofs.listing.lines_of.Goals as goal

pub returns-in-Ok : goal.returns-in-Ok
returns-in-Ok c = are_listed c.args.bytes.now c.in-Ok.lines c.in-Ok.ensures.told
