-- The derived comparison of ends is the definition's order (`lt-before`), which is total, so the two ends named the other
-- way round give the same key (`key_of-then`, `key_of-else`).
use Rattle.std.proofs.Common.{Bool, cond, ap, ◌∙◌, sym}
use Rattle.stream5_sessions.specs.Keys.{key_of}
use Rattle.stream5_sessions.proofs.KeyLaws.{key_at}
use Rattle.stream5_sessions.proofs.EndOrder.{lt-before, key_of-then, key_of-else}
use Rattle.stream5_sessions.proofs.key.Key.of.Goals as goal

pub returns-then-lt-clause-value : goal.returns-then-lt-clause-value
unfolding key_of
returns-then-lt-clause-value c =
    ap (λ (x : Bool). cond x (key_at c.args.tcp c.args.b c.args.a) (key_at c.args.tcp c.args.a c.args.b)) (c.if-lt.ensures ∙ lt-before c.args.b c.args.a)

pub returns-then-lt-clause-either_order : goal.returns-then-lt-clause-either_order
returns-then-lt-clause-either_order c = sym (key_of-then c.args.tcp c.args.a c.args.b (sym (c.if-lt.ensures ∙ lt-before c.args.b c.args.a)))

pub returns-else-lt-clause-value : goal.returns-else-lt-clause-value
unfolding key_of
returns-else-lt-clause-value c =
    ap (λ (x : Bool). cond x (key_at c.args.tcp c.args.b c.args.a) (key_at c.args.tcp c.args.a c.args.b)) (c.if-lt.ensures ∙ lt-before c.args.b c.args.a)

pub returns-else-lt-clause-either_order : goal.returns-else-lt-clause-either_order
returns-else-lt-clause-either_order c = sym (key_of-else c.args.tcp c.args.a c.args.b (sym (c.if-lt.ensures ∙ lt-before c.args.b c.args.a)))
