-- A moment of 64 bits has a year of four digits (`small-of`), so the next line's year follows from one of 16 bits.
use Rattle.std.proofs.Common.{arith}
use Rattle.alert_json.proofs.LineMoments.{small-of}
use Rattle.alert_json.proofs.line_walk.push_alert.Goals as goal

pub overflow_cast-result : goal.overflow_cast-result
overflow_cast-result c =
    let small = small-of c.year_of-year.result c.args.alert.time c.in-Some.moment.nanos (omega arith) c.in-Some.ensures in
    omega (arith, small.0)
