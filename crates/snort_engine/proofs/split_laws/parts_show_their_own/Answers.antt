-- Alerts go by a record's items and by what is counted under their keys; where both are the same after the part's earlier
-- records as after all, the part shows its own alerts of the whole.
use Rattle.snort_engine.proofs.Splits.Captures.{part-shows}
use Rattle.snort_engine.proofs.Splits.Closed.{part-shows-all}
use Rattle.snort_engine.proofs.split_laws.parts_show_their_own.Goals as goal

pub returns-clause-going : goal.returns-clause-going
returns-clause-going c = λ plan part records split. part-shows plan part records split

pub returns-clause-closed : goal.returns-clause-closed
returns-clause-closed c = part-shows-all
