-- Each of eight calls goes on from the tokens that the one before it left, and ports, type, code and the community ID's hash
-- are the definition's own: so all of the flow's members are added (`flow-group`).
use Rattle.alert_json.proofs.Groups.{flow-group, same-community}
use Rattle.alert_json.proofs.fields.push_flow.Goals as goal

pub returns-clause-added : goal.returns-clause-added
returns-clause-added c =
    flow-group c.args.seed c.args.flow _ _ _ _ _ _ _ _ _ _ _ _ _ c.source_port.ensures c.target_port.ensures c.message_kind.ensures c.message_code.ensures
    c.in_ok-push_end.ensures.added c.in_ok-push_maybe_number.ensures.added c.in_ok-push_end-2.ensures.added c.in_ok-push_maybe_number-2.ensures.added
    c.in_ok-push_protocol.ensures.added c.in_ok-push_maybe_number-3.ensures.added c.in_ok-push_maybe_number-4.ensures.added
    (same-community c.args.seed c.args.flow _ _ _ c.community_hash.ensures c.in_ok-push_community.ensures.added)
