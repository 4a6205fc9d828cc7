-- A digit more makes a number ten times as large at least, so one
-- capped stays capped; a cap below 2 ^ 60 leaves room for the step.
use Rattle.std.proofs.Common.{◌+◌, ◌*◌, ◌-◌, arith}
use Rattle.std.proofs.lemmas.List.Sums.{fold_more}
use Rattle.net_lists.specs.Numbers.{decimal_value}
use Rattle.net_lists.proofs.decimal.capped_value.Goals as goal

pub loop-digit-init : goal.loop-digit-init
unfolding decimal_value
loop-digit-init c = omega arith

pub loop-digit-preserved : goal.loop-digit-preserved
unfolding decimal_value
loop-digit-preserved c =
    omega (
      arith,
      fold_more (λ value digit. 10 * value + (digit - 48)) 0 c.args.digits.now c.loop-digit.digit-index 0 c.loop-digit-test.true,
      c.saturating_sub.ensures,
      c.from.ensures,
      c.min-value.ensures,
      c.loop-digit.invariant,
    )
