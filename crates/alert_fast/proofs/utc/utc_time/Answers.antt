-- The civil time has as many nanoseconds as the moment: so its date is that of the whole days, its clock is what is left of
-- a day, and each number fits its type.
use Rattle.std.proofs.Common.{arith, ◌<◌, ◌^◌, ◌∙◌, ℕ, ap, ◌/◌}
use Rattle.alert_fast.proofs.Dates.{date_of-moment, time_nanos-moment, hour-moment, minute-moment, second-moment, micros-moment, cast_u8, cast_u32, size_u16}
use Rattle.alert_fast.proofs.utc.utc_time.Goals as goal

pub returns-clause-utc : goal.returns-clause-utc
returns-clause-utc c =
    let nanos = c.args.moment.nanos in
    let civil = c.utc_datetime-civil.result in
    let fits : nanos < 2 ^ 64 = omega arith in
    let date = date_of-moment civil nanos fits c.utc_datetime-civil.ensures in
    let clock = time_nanos-moment civil nanos c.utc_datetime-civil.ensures in
    record {
      year = c.unsigned_abs.ensures.value ∙ size_u16 c.year.result _ (c.year.ensures ∙ date.year) (omega (arith, date.small));
      month = cast_u8 c.month.result _ c.month.ensures (omega arith) ∙ date.month;
      day = cast_u8 c.day.result _ c.day.ensures (grind arith) ∙ date.day;
      hour = cast_u8 c.hour.result _ c.hour.ensures (omega arith) ∙ hour-moment civil.time nanos clock;
      minute = cast_u8 c.minute.result _ c.minute.ensures (omega arith) ∙ minute-moment civil.time nanos clock;
      second = cast_u8 c.second.result _ c.second.ensures (omega arith) ∙ second-moment civil.time nanos clock;
      microsecond = ap (λ (n : ℕ). n / 1000) (cast_u32 c.subsec_nanosecond.result _ c.subsec_nanosecond.ensures (omega arith)) ∙ micros-moment civil.time nanos clock;
    }

pub returns-clause-year_fits : goal.returns-clause-year_fits
returns-clause-year_fits c =
    let fits : c.args.moment.nanos < 2 ^ 64 = omega arith in
    let is = date_of-moment c.utc_datetime-civil.result c.args.moment.nanos fits c.utc_datetime-civil.ensures in
    let same = c.unsigned_abs.ensures.value ∙ size_u16 c.year.result _ (c.year.ensures ∙ is.year) (omega (arith, is.small)) in
    omega (arith, is.small, same)
