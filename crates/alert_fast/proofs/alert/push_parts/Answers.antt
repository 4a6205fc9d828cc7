-- Nine parts are appended, one after another, and joined they are the line of the definition: `line_text-parts`.
use Rattle.std.proofs.lemmas.Result.{on_ok_weaker}
use Rattle.alert_fast.proofs.LineTexts.{line_text-parts}
use Rattle.alert_fast.proofs.alert.push_parts.Goals as goal

pub returns-clause-appended : goal.returns-clause-appended
returns-clause-appended c =
    on_ok_weaker c.push_port-2.result
    (λ e. line_text-parts c.args.head.now c.args.rule.now c.args.classes.now c.args.out.now.items _ _ _ _ _ _ _ _ _
    c.in_ok-push_time.ensures.appended c.in_ok-push_marked_msg.ensures.appended c.in_ok-push_class.ensures.appended
    c.in_ok-push_priority.ensures.appended c.in_ok-push_protocol.ensures.appended c.in_ok-push_address.ensures.appended
    (rw c.source_port.ensures at c.in_ok-push_port.ensures.appended)
    c.in_ok-push_address-2.ensures.appended (rw c.destination_port.ensures at e))
    c.push_port-2.ensures.appended
