-- A number below 100 has its tens and its units as its digits: `digits-2`.
use Rattle.alert_fast.proofs.PaddedDigits.{digits-2}
use Rattle.std.proofs.Common.{sym}
use Rattle.alert_fast.proofs.pieces.two_digits.Goals as goal

pub returns : goal.returns
returns c = sym (digits-2 c.args.number c.requires)
