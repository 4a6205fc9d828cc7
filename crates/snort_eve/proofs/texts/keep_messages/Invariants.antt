-- With the rules that are left, the messages so far are those of all.
use Rattle.std.proofs.Common.{◌≡◌, ℕ, drop}
use Rattle.std.specs.Ordering.{nat_cmp}
use Rattle.std.specs.BTreeMap.{get}
use Rattle.snort_eve.specs.Texts.{message_in}
use Rattle.snort_eve.proofs.texts.keep_messages.Given as goal

abbrev pub invariant-loop-rule : goal.invariant-loop-rule
invariant-loop-rule l =
    (mark : ℕ) → message_in (drop l.rule-index l.rules) mark (get nat_cmp l.messages mark) ≡ message_in l.rules mark (get nat_cmp l.fn.messages mark)
