-- The printable payload, the bytes in base64 and the link type, added in this order, are the members of a packet
-- that is known: `packet-group`.
use Rattle.std.proofs.lemmas.Result.{on_ok_weaker}
use Rattle.alert_json.specs.Facts.{packet_facts}
use Rattle.alert_json.proofs.Groups.{packet-group}
use Rattle.alert_json.proofs.fields.push_captured.Goals as goal

pub returns-clause-added : goal.returns-clause-added
returns-clause-added c =
    on_ok_weaker c.push_link.result
    (λ e. packet-group (packet_facts c.args.packet) _ _ _ _ c.in_ok-push_payload.ensures.added c.in_ok-push_base64.ensures.added e)
    c.push_link.ensures.added
