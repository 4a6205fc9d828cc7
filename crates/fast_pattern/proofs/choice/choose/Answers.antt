-- Place, beginning and length of what is chosen fit 32 bits, since a rule that may be tried has small numbers (`small-at`).
use Rattle.std.proofs.Common.{sym, ◌∙◌, arith}
use Rattle.fast_pattern.proofs.Candidates.Sizes.{small-at}
use Rattle.fast_pattern.proofs.choice.choose.Goals as goal

pub overflow_cast-result : goal.overflow_cast-result
overflow_cast-result c =
    omega (arith, (small-at c.args.rule.now c.in_ok-sought.sought c.as_slice.result.now c.requires c.as_slice.ensures (sym c.chosen.ensures ∙ c.in_ok-sought.was)).place)

pub overflow_cast-result-2 : goal.overflow_cast-result-2
overflow_cast-result-2 c =
    omega (arith, (small-at c.args.rule.now c.in_ok-sought.sought c.as_slice.result.now c.requires c.as_slice.ensures (sym c.chosen.ensures ∙ c.in_ok-sought.was)).from)

pub overflow_cast-result-3 : goal.overflow_cast-result-3
overflow_cast-result-3 c =
    omega (arith, (small-at c.args.rule.now c.in_ok-sought.sought c.as_slice.result.now c.requires c.as_slice.ensures (sym c.chosen.ensures ∙ c.in_ok-sought.was)).len)
