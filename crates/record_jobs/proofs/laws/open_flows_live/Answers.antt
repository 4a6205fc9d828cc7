-- A flow that a record's jobs leave open was open and isn't told as ended, so it lives on (`flow-stays`), or it is that of
-- the record's key, which lives (`own-lives`); so all that are open live (`open-live`).
use Rattle.record_jobs.proofs.Held.Open.{open-live}
use Rattle.record_jobs.proofs.laws.open_flows_live.Goals as goal

pub returns : goal.returns
returns c = λ way records flow tcp udp is. open-live way tcp udp records flow is
