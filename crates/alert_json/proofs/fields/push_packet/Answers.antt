-- Where no packet is known its group has no member, and the tokens stay as they are: `no-packet`.
use Rattle.alert_json.proofs.Groups.{no-packet}
use Rattle.alert_json.proofs.fields.push_packet.Goals as goal

pub returns-in-None-clause-added : goal.returns-in-None-clause-added
returns-in-None-clause-added c = rw c.in-None.is (no-packet _)
