-- What is read of bytes fits, and so do fragments and the datagrams that they complete; jobs carry nothing else
-- (`jobs_fit`), and the end of a flow carries no packet (`last_fits`).
use Rattle.record_jobs.proofs.Fits.Jobs.{jobs_fit, last_fits}
use Rattle.record_jobs.proofs.laws.jobs_fit.Goals as goal

pub returns-clause-each : goal.returns-clause-each
returns-clause-each c = jobs_fit

pub returns-clause-last : goal.returns-clause-last
returns-clause-last c = last_fits
