-- The key and then the digits as a string are the two tokens of a member whose text is these digits.
use Rattle.std.specs.Prelude.{decimal}
use Rattle.std.proofs.lemmas.Result.{on_ok_weaker}
use Rattle.alert_json.proofs.Adding.{text_member}
use Rattle.alert_json.proofs.members.push_digits.Goals as goal

pub returns-clause-added : goal.returns-clause-added
returns-clause-added c =
    on_ok_weaker c.quoted_u64.result (λ e. text_member _ _ _ c.args.key.now (decimal c.args.value) c.in_ok-key.ensures.ok e) c.quoted_u64.ensures.ok
