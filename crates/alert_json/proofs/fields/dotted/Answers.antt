-- The address has 32 bits, so that its four numbers are small, and their decimal digits and the dots are
-- ASCII: the lemma `IsAscii-dotted`.
use Rattle.std.proofs.Common.{◌<◌, ◌^◌, arith}
use Rattle.alert_fast.specs.Line.{address_text}
use Rattle.alert_json.proofs.AsciiTexts.{IsAscii-dotted}
use Rattle.alert_json.proofs.fields.dotted.Goals as goal

pub returns-clause-ascii : goal.returns-clause-ascii
unfolding address_text
returns-clause-ascii c =
    let small : c.args.address < 2 ^ 32 = omega arith in
    rw (c.in_ok-push_dots.ensures, c.in_ok-text.ensures.items) (IsAscii-dotted c.args.address small)
