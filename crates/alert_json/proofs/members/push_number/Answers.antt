-- The key and the number's digits are the two tokens of such a member, whose number, a `u64`, is below 2^64 as it has to be:
-- the lemma `number_member`.
use Rattle.std.proofs.Common.{arith}
use Rattle.std.proofs.lemmas.Result.{on_ok_weaker}
use Rattle.alert_json.proofs.Adding.{number_member}
use Rattle.alert_json.proofs.members.push_number.Goals as goal

pub returns-clause-added : goal.returns-clause-added
returns-clause-added c =
    on_ok_weaker c.u64.result (λ e. number_member _ _ _ c.args.key.now c.args.value c.in_ok-key.ensures.ok e (omega arith)) c.u64.ensures.ok
