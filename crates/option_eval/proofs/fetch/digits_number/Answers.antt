-- After i digits the sum is below 17 ^ i, so ten digits stay below 2 ^ 41, and no step overflows.
use Rattle.std.proofs.Common.{arith}
use Rattle.option_eval.proofs.Digits.{digits_small, digits_fit}
use Rattle.option_eval.proofs.fetch.digits_number.Goals as goal

pub overflow_mul-sum : goal.overflow_mul-sum
overflow_mul-sum c =
    omega (arith, digits_fit c.loop-byte.sum c.from.result c.loop-byte.byte-index c.loop-byte.invariant.below (omega arith) (omega (arith, c.from.ensures)))

pub overflow_add-sum : goal.overflow_add-sum
overflow_add-sum c =
    omega (
      arith,
      digits_fit c.loop-byte.sum c.from.result c.loop-byte.byte-index c.loop-byte.invariant.below (omega arith)
          (omega (arith, c.from.ensures)),
      c.digit_of.ensures.small,
      c.from-in-loop-byte.ensures,
    )

pub returns-clause-small : goal.returns-clause-small
returns-clause-small c = digits_small c.loop-byte.sum c.loop-byte.byte-index c.loop-byte.invariant.below (omega arith)
