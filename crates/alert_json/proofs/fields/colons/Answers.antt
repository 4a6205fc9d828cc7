-- An address of version 6 is written with hexadecimal digits and colons alone, which are ASCII: `IsAscii-colon`.
use Rattle.alert_json.proofs.AsciiTexts.{IsAscii-colon}
use Rattle.alert_json.proofs.fields.colons.Goals as goal

pub returns-clause-ascii : goal.returns-clause-ascii
returns-clause-ascii c = rw (c.in_ok-push_address.ensures.appended, c.in_ok-text.ensures.items) (IsAscii-colon c.args.address)
