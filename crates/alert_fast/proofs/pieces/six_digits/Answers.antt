-- A number below 1,000,000 has the three digits of its thousands and then those of the rest: `digits-6`, with
-- `digits-3` for each half.
use Rattle.std.proofs.Common.{◌<◌, ◌/◌, ◌%◌, arith}
use Rattle.alert_fast.proofs.PaddedDigits.{digits-3, digits-6}
use Rattle.alert_fast.proofs.pieces.six_digits.Goals as goal

pub returns : goal.returns
returns c =
    let high : c.args.number / 1000 < 1000 = omega arith in
    let low : c.args.number % 1000 < 1000 = omega arith in
    rw (c.three_digits.ensures, c.three_digits-2.ensures, digits-6 c.args.number c.requires, digits-3 (c.args.number / 1000) high, digits-3 (c.args.number % 1000) low)
