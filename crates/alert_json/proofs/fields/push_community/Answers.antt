-- Without a hash no member is due, and none is written: the lemma `none`.
use Rattle.alert_json.proofs.Adding.{none}
use Rattle.alert_json.proofs.fields.push_community.Goals as goal

pub returns-in-None-clause-added : goal.returns-in-None-clause-added
returns-in-None-clause-added c = rw c.in-None.is (none _)
