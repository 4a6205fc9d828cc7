-- The text of a moment is digits and signs alone, each of them ASCII: `IsAscii-timestamp`.
use Rattle.alert_json.proofs.AsciiTexts.{IsAscii-timestamp}
use Rattle.alert_json.proofs.stamp.timestamp.Goals as goal

pub returns-clause-ascii : goal.returns-clause-ascii
returns-clause-ascii c = rw c.stamp.ensures (IsAscii-timestamp c.args.moment.nanos)
