-- A member whose value is a text is two tokens, its key and the string, appended one after the other: `text_member`.
use Rattle.std.proofs.lemmas.Result.{on_ok_weaker}
use Rattle.alert_json.proofs.Adding.{text_member}
use Rattle.alert_json.proofs.members.push_text.Goals as goal

pub returns-clause-added : goal.returns-clause-added
returns-clause-added c =
    on_ok_weaker c.string.result (λ e. text_member _ _ _ c.args.key.now c.args.text.now c.in_ok-key.ensures.ok e) c.string.ensures.ok
