-- A part that has room for all keeps the flows, fragments and first moment of its own pairs, so its records' items are those
-- in the whole (`same-items`), those at its end included (`part-items`).
use Rattle.record_jobs.proofs.Splits.Closed.{part-items}
use Rattle.record_jobs.proofs.Splits.Items.{same-items}
use Rattle.record_jobs.proofs.split_laws.parts_have_their_items.Goals as goal

pub returns-clause-each : goal.returns-clause-each
returns-clause-each c = λ d way part records before r rest split are of. same-items way part records split d before r rest are of

pub returns-clause-closed : goal.returns-clause-closed
returns-clause-closed c = part-items
