-- Each record's jobs are numbered from the count of the earlier ones on, and what a packet's flow goes by depends on its key
-- alone, so all jobs, one record's after another's, are numbered and sound.
use Rattle.record_jobs.proofs.Ready.Running.{in_order}
use Rattle.record_jobs.proofs.laws.jobs_are_in_order.Goals as goal

pub returns : goal.returns
returns c = in_order
