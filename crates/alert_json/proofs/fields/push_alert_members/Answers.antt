-- Seven members are added one after another, of which action, category and severity have the values that the definition
-- computes (`alert-group`).
use Rattle.std.proofs.lemmas.Result.{on_ok_weaker}
use Rattle.alert_json.specs.Facts.{alert_facts}
use Rattle.alert_json.proofs.Groups.{alert-group}
use Rattle.alert_json.proofs.fields.push_alert_members.Goals as goal

pub returns-clause-added : goal.returns-clause-added
returns-clause-added c =
    on_ok_weaker c.push_number-4.result
    (λ e. alert-group (alert_facts c.args.alert) _ _ _ _ _ _ _ _ _ _ _ c.action.ensures c.category.ensures c.severity.ensures
    c.in_ok-push_text.ensures.added c.in_ok-push_number.ensures.added c.in_ok-push_number-2.ensures.added
    c.in_ok-push_number-3.ensures.added c.in_ok-push_bytes.ensures.added c.in_ok-push_bytes-2.ensures.added e)
    c.push_number-4.ensures.added
