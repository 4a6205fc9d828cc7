-- A live flow is that of a live key, which a touch leaves live with its number unless it tells the flow as ended
-- (`flow-stays`); a key just touched lives (`own-lives`).
use Rattle.stream5_sessions.proofs.Liveness.Lasting.{flow-stays, own-lives}
use Rattle.stream5_sessions.proofs.laws.flows_live_until_told.Goals as goal

pub returns-clause-stays : goal.returns-clause-stays
returns-clause-stays c = flow-stays

pub returns-clause-own : goal.returns-clause-own
returns-clause-own c = own-lives
