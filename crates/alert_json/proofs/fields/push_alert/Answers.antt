-- What `push_alert_members` adds, put between two brackets after the key, is a member whose value is an
-- object: the lemma `object_member`.
use Rattle.std.proofs.lemmas.Result.{on_ok_weaker}
use Rattle.alert_json.proofs.Adding.{object_member}
use Rattle.alert_json.proofs.fields.push_alert.Goals as goal

pub returns-clause-added : goal.returns-clause-added
returns-clause-added c =
    on_ok_weaker c.end_object.result
    (λ e. object_member _ _ _ _ _ _ _ c.in_ok-key.ensures.ok c.in_ok-begin_object.ensures.ok c.in_ok-push_alert_members.ensures.added e)
    c.end_object.ensures.ok
