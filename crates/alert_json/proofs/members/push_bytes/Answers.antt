-- Bytes that are UTF-8 are their own text (`text_of-utf8`), and the text of any others is what they are in Latin-1
-- (`text_of-other`): the two branches write just these.
use Rattle.std.proofs.Common.{◌∙◌, sym}
use Rattle.std.proofs.lemmas.Result.{on_ok_weaker}
use Rattle.alert_json.proofs.Latin.{text_of-utf8, text_of-other}
use Rattle.alert_json.proofs.Adding.{text-same}
use Rattle.alert_json.proofs.members.push_bytes.Goals as goal

pub returns-in-Ok-clause-added : goal.returns-in-Ok-clause-added
returns-in-Ok-clause-added c =
    on_ok_weaker c.push_text.result
    (λ e. text-same _ _ c.args.key.now _ _ (c.in-Ok.ensures.cases.0 ∙ sym (text_of-utf8 c.args.bytes.now c.in-Ok.ensures.cases.1)) e)
    c.push_text.ensures.added

pub returns-in-Err-clause-added : goal.returns-in-Err-clause-added
returns-in-Err-clause-added c =
    on_ok_weaker c.push_latin1.result
    (λ e. text-same _ _ c.args.key.now _ _ (sym (text_of-other c.args.bytes.now c.in-Err.ensures.cases.0)) e)
    c.push_latin1.ensures.added
