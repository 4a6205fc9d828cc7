-- Without a record no key was touched, so no flow lives that could end (`finishes-none`), and there is nothing to count
-- (`counts-none`).
use Rattle.record_jobs.proofs.NoRecords.{counts-none, finishes-none}
use Rattle.record_jobs.proofs.laws.no_records_no_jobs.Goals as goal

pub returns-clause-finishes : goal.returns-clause-finishes
returns-clause-finishes c = finishes-none

pub returns-clause-counts : goal.returns-clause-counts
returns-clause-counts c = counts-none
