-- Without a number the definition has no member, and no token is appended: the lemma `none`.
use Rattle.alert_json.proofs.Adding.{none}
use Rattle.alert_json.proofs.members.push_maybe_number.Goals as goal

pub returns-in-None-clause-added : goal.returns-in-None-clause-added
returns-in-None-clause-added c = rw c.in-None.is (none _)
