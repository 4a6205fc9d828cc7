-- A packet in which no payload was read has no such member, so that no token is appended; any other
-- is printed by `push_printed`.
use Rattle.alert_json.proofs.Adding.{none}
use Rattle.alert_json.proofs.fields.push_payload.Goals as goal

pub returns-in-None-clause-added : goal.returns-in-None-clause-added
returns-in-None-clause-added c = rw c.in-None.is (none _)
