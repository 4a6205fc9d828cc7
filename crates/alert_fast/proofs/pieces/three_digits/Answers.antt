-- A number below 1000 has its hundreds, its tens and its units as its digits: `digits-3`.
use Rattle.alert_fast.proofs.PaddedDigits.{digits-3}
use Rattle.std.proofs.Common.{sym}
use Rattle.alert_fast.proofs.pieces.three_digits.Goals as goal

pub returns : goal.returns
returns c = sym (digits-3 c.args.number c.requires)
