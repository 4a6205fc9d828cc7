-- A digit more makes a number sixteen times as large at least, so one
-- capped at 65535 stays there: to cap at each digit is to cap once.
use Rattle.std.proofs.Common.{◌+◌, ◌*◌, arith}
use Rattle.std.proofs.lemmas.List.Sums.{fold_more}
use Rattle.net_lists.specs.Addresses.{hex_value, hex_digit}
use Rattle.net_lists.proofs.address6.capped_hex_value.Goals as goal

pub loop-digit-init : goal.loop-digit-init
unfolding hex_value
loop-digit-init c = omega arith

pub loop-digit-preserved : goal.loop-digit-preserved
unfolding hex_value
loop-digit-preserved c = omega (
  arith,
  fold_more (λ value digit. value * 16 + hex_digit digit) 0 c.args.digits.now c.loop-digit.digit-index 0 c.loop-digit-test.true,
  c.hex_digit.ensures,
  c.min-value.ensures,
  c.loop-digit.invariant,
)
