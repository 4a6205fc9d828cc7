-- A front's counts are those of the records it stands for, and the definition counts each once (`records-counted`).
use Rattle.record_jobs.proofs.Fronts.Counting.{records-counted}
use Rattle.record_jobs.proofs.laws.records_are_counted.Goals as goal

pub returns : goal.returns
returns c = records-counted
