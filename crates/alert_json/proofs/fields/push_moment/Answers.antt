-- The bytes that `timestamp` gives are the moment's text, so that the member of these bytes is that of the text.
use Rattle.std.proofs.lemmas.Result.{on_ok_weaker}
use Rattle.alert_json.proofs.Adding.{text-same}
use Rattle.alert_json.proofs.fields.push_moment.Goals as goal

pub returns-clause-added : goal.returns-clause-added
returns-clause-added c = on_ok_weaker c.push_ascii.result (λ e. text-same _ _ _ _ _ c.timestamp.ensures.text e) c.push_ascii.ensures.added
