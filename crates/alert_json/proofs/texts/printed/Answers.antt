-- Each byte of the printable form is printable itself or a full stop, and so below 128: `IsAscii-printable`.
use Rattle.alert_json.proofs.AsciiTexts.{IsAscii-printable}
use Rattle.alert_json.proofs.texts.printed.Goals as goal

pub returns-clause-ascii : goal.returns-clause-ascii
returns-clause-ascii c = rw c.in_ok-text.ensures (IsAscii-printable c.args.payload.now)
