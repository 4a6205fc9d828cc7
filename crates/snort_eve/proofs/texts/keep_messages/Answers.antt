-- The rules that are left, added to what is kept so far, give what all rules give; keeping the next rule's message under its
-- mark leaves that as it is (`kept-more`).
use Rattle.std.proofs.Common.{◌∙◌}
use Rattle.std.specs.Ordering.{nat_cmp}
use Rattle.std.specs.BTreeMap.{get}
use Rattle.snort_eve.proofs.Texting.{kept-more}
use Rattle.snort_eve.proofs.texts.keep_messages.Goals as goal

pub loop-rule-preserved : goal.loop-rule-preserved
loop-rule-preserved c mark =
    kept-more c.args.rules.now c.loop-rule.rule-index c.rule-item.result mark c.mark_of.result c.in_ok-text.text
    (get nat_cmp c.loop-rule.messages mark) (get nat_cmp c.insert.new.self mark) c.loop-rule-test.true c.rule-item.is
    c.mark_of.ensures (c.in_ok-text.ensures ∙ c.bytes.ensures) (c.in_ok-insert.ensures.updates.0 mark)
    ∙ c.loop-rule.invariant mark
