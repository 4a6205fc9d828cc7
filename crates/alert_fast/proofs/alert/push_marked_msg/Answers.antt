-- The pieces, joined, are the marks around the rule's three numbers and its message: `marked_msg-pieces`.
use Rattle.std.proofs.lemmas.Result.{on_ok_weaker}
use Rattle.std.proofs.Common.{ℕ, List, ◌++◌, ap, ◌∙◌}
use Rattle.alert_fast.proofs.LineTexts.{marked_msg-pieces}
use Rattle.alert_fast.proofs.alert.push_marked_msg.Goals as goal

pub returns-clause-appended : goal.returns-clause-appended
returns-clause-appended c =
    let rule = c.args.rule.now in
    on_ok_weaker c.push_pieces.result
    (λ e. e ∙ ap (λ (x : List ℕ). c.args.out.now.items ++ x) (rw c.bytes.ensures (marked_msg-pieces rule.gid rule.sid rule.rev rule.msg)))
    c.push_pieces.ensures.appended
