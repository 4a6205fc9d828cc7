-- A name that isn't given has no member, so that the tokens stay as they are; one that is given is written by `push_bytes`.
use Rattle.alert_json.proofs.Adding.{none}
use Rattle.alert_json.proofs.fields.push_name.Goals as goal

pub returns-in-None-clause-added : goal.returns-in-None-clause-added
returns-in-None-clause-added c = rw c.in-None.is (none _)
