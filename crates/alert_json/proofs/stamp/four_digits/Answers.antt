-- The four digits of a number below 10,000 are the two of its hundreds and then the two of the rest: `digits-4`.
use Rattle.std.proofs.Common.{◌<◌, ◌/◌, ◌%◌, arith}
use Rattle.alert_fast.proofs.PaddedDigits.{digits-2}
use Rattle.alert_json.proofs.Times.{digits-4}
use Rattle.alert_json.proofs.stamp.four_digits.Goals as goal

pub returns : goal.returns
returns c =
    let high : c.args.number / 100 < 100 = omega arith in
    let low : c.args.number % 100 < 100 = omega arith in
    rw (c.two_digits.ensures, c.two_digits-2.ensures, digits-4 c.args.number c.requires, digits-2 (c.args.number / 100) high, digits-2 (c.args.number % 100) low)
