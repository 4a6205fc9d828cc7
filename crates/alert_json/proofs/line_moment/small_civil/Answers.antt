-- `DateTime::new` refuses parts that are no date or no time of day, and those of a moment are both: so where it
-- refuses, there is no such moment.
use Rattle.std.proofs.Common.{rules}
use Rattle.alert_json.proofs.LineMoments.{date-of, time-of}
use Rattle.alert_json.proofs.line_moment.small_civil.Goals as goal

-- the calendar has the date of a moment, and a clock its time
pub returns-in-Err : goal.returns-in-Err
returns-in-Err c nanos few m =
    let date = date-of c.args.year c.args.time nanos few m in
    let clock = time-of c.args.year c.args.time nanos m in
    search rules
