-- Of the segments that cover a place, under `First` the older of two is taken each time, so the earliest is left; under
-- `Last` the newer is, so the first of the reversed list is left.
use Rattle.overlap_core.proofs.Segments.Agreeing.{first-kept, last-kept}
use Rattle.overlap_core.proofs.laws.first_and_last_go_by_arrival.Goals as goal

pub returns-clause-first : goal.returns-clause-first
returns-clause-first c = first-kept

pub returns-clause-last : goal.returns-clause-last
returns-clause-last c = last-kept
