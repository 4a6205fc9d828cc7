-- The moment of a line's time, by the kit's calendar.
-- lines one after another, each at its moment
pub mod Walks
use Rattle.std.proofs.Common.{◌≡◌, ℕ, ◌+◌, ◌*◌, ◌/◌, ◌%◌, ◌<◌, ◌≤◌, ◌^◌, inl, inr, refl, sym, ◌∙◌, subst, arith, rules, pos}
use Rattle.std.proofs.lemmas.Bool.{cases_lt}
use Rattle.jiff_core.specs.declared.civil.datetime.DateTime.{DateTime}
use Rattle.jiff_core.specs.Calendar.{IsDate}
use Rattle.jiff_core.specs.Date.{epoch_day}
use Rattle.jiff_core.specs.DateTime.{civil_nanos}
use Rattle.jiff_core.specs.Time.{IsTime, time_nanos}
use Rattle.jiff_core.proofs.SignedLemmas.{signed_arith}
use Rattle.jiff_core.proofs.CalendarLemmas.{days_from_civil-day_count, day_count-lt_year, days_in_month_bounds}
use Rattle.jiff_core.proofs.DateLemmas.{days_from_civil-max}
use Rattle.jiff_core.proofs.DateTimeLemmas.{civil_nanos-parts}
use Rattle.alert_fast.specs.declared.told.LineTime.{LineTime}
use Rattle.alert_fast.specs.Calendar.{CivilDate, date_of}
use Rattle.alert_fast.proofs.Dates.{IsCounted, date_of_counted, date_of-moment, time_nanos-moment, hour-moment, minute-moment, second-moment, micros-moment}
use Rattle.alert_json.specs.LineMoments.{AreSmall, IsCivilOf, IsMomentOf, NoMomentOf}

-- a day has this many nanoseconds
abbrev DAY : ℕ
DAY = 86_400_000_000_000

-- ---- the parts of a moment

-- a moment's day is a day of the calendar
counted-of : (year : ℕ) (time : LineTime) (nanos : ℕ) → IsMomentOf year time nanos
    → IsCounted (nanos / DAY) (record { year = year; month = time.month; day = time.day })
counted-of year time nanos m = subst (IsCounted (nanos / DAY)) m.date (date_of_counted (nanos / DAY))

-- the years of the first 2,932,896 days have four digits
four_digits : (number : ℕ) (date : CivilDate) → IsCounted number date → number ≤ 2_932_896 → date.year ≤ 9999
four_digits number date h le =
    elim (cases_lt 9999 date.year) [
      | inl late ↦ absurd (omega (
        arith,
        signed_arith,
        h.counted,
        days_from_civil-max,
        days_from_civil-day_count,
        day_count-lt_year (pos 9999) 12 31 (pos date.year) date.month date.day (search rules) h.day_from (omega (arith, signed_arith)),
      ))
      | inr within ↦ within
    ]

pub small-of : (year : ℕ) (time : LineTime) (nanos : ℕ) → nanos < 2 ^ 64 → IsMomentOf year time nanos → AreSmall year time
small-of year time nanos few m =
    let c = counted-of year time nanos m in
    let year_small = four_digits (nanos / DAY) _ c (omega arith) in
    let bounds = days_in_month_bounds (pos year) time.month in (
      omega (arith, year_small),
      omega (arith, c.month_to),
      omega (arith, c.day_to, bounds.0),
      omega (arith, m.hour),
      omega (arith, m.minute),
      omega (arith, m.second),
      omega (arith, m.microsecond),
    )

-- the calendar has the date, and a clock the time
pub date-of : (year : ℕ) (time : LineTime) (nanos : ℕ) → nanos < 2 ^ 64 → IsMomentOf year time nanos → IsDate (pos year) (pos time.month) (pos time.day)
date-of year time nanos few m =
    let c = counted-of year time nanos m in
    let year_small = four_digits (nanos / DAY) _ c (omega arith) in (
      (omega (arith, signed_arith), omega (arith, signed_arith, year_small)),
      (omega (arith, signed_arith, c.month_from), omega (arith, signed_arith, c.month_to)),
      (omega (arith, signed_arith, c.day_from), omega (arith, signed_arith, c.day_to)),
    )

pub time-of : (year : ℕ) (time : LineTime) (nanos : ℕ) → IsMomentOf year time nanos → IsTime (pos time.hour) (pos time.minute) (pos time.second) (pos (time.microsecond * 1_000))
time-of year time nanos m = (
  (omega (arith, signed_arith), omega (arith, signed_arith, m.hour)),
  (omega (arith, signed_arith), omega (arith, signed_arith, m.minute)),
  (omega (arith, signed_arith), omega (arith, signed_arith, m.second)),
  (omega (arith, signed_arith), omega (arith, signed_arith, m.microsecond)),
)

-- what a clock shows is what is left of the day
clock-sum : (nanos : ℕ) → nanos % 1_000 ≡ 0
    → ((nanos / 3_600_000_000_000 % 24) * 3600 + (nanos / 60_000_000_000 % 60) * 60 + nanos / 1_000_000_000 % 60) * 1_000_000_000
    + (nanos / 1_000 % 1_000_000) * 1_000 ≡ nanos % DAY
clock-sum nanos whole =
    let seconds = nanos / 1_000_000_000 in
    let hours : nanos / 3_600_000_000_000 ≡ seconds / 3600 = omega arith in
    let minutes : nanos / 60_000_000_000 ≡ seconds / 60 = omega arith in
    let clock : (seconds / 3600 % 24) * 3600 + (seconds / 60 % 60) * 60 + seconds % 60 ≡ seconds % 86400 = omega arith in
    let left : nanos % DAY ≡ (seconds % 86400) * 1_000_000_000 + nanos % 1_000_000_000 = omega arith in
    let fraction : nanos % 1_000_000_000 ≡ (nanos / 1_000 % 1_000_000) * 1_000 = omega (arith, whole) in
    omega (arith, hours, minutes, clock, left, fraction)

-- ---- a date and a time of day with these parts

-- have the nanoseconds of such a moment
pub civil-at : (year : ℕ) (time : LineTime) (nanos : ℕ) (civil : DateTime) → IsCivilOf year time civil → IsMomentOf year time nanos → civil_nanos civil ≡ pos nanos
civil-at year time nanos civil is m =
    let c = counted-of year time nanos m in
    let month : civil.date.month ≡ time.month = omega (arith, signed_arith, is.0.1) in
    let day : civil.date.day ≡ time.day = omega (arith, signed_arith, is.0.2) in
    let number : epoch_day civil.date ≡ pos (nanos / DAY) = rw (is.0.0, month, day) c.counted in
    let hour : civil.time.hour ≡ nanos / 3_600_000_000_000 % 24 = omega (arith, signed_arith, is.1.0, m.hour) in
    let minute : civil.time.minute ≡ nanos / 60_000_000_000 % 60 = omega (arith, signed_arith, is.1.1, m.minute) in
    let second : civil.time.second ≡ nanos / 1_000_000_000 % 60 = omega (arith, signed_arith, is.1.2, m.second) in
    let fraction : civil.time.subsec_nanosecond ≡ (nanos / 1_000 % 1_000_000) * 1_000 = omega (arith, signed_arith, is.1.3, m.microsecond) in
    let clock : time_nanos civil.time ≡ nanos % DAY = rw (hour, minute, second, fraction) (clock-sum nanos m.whole) in
    omega (arith, signed_arith, civil_nanos-parts civil, number, clock)

date-is : (date : CivilDate) (year month day : ℕ) → date.year ≡ year → date.month ≡ month → date.day ≡ day → date ≡ record { year = year; month = month; day = day }
date-is date year month day a b c = rw (sym a, sym b, sym c) refl

-- the nanoseconds of a time in a year are those of its moment
pub moment-at : (year : ℕ) (time : LineTime) (nanos : ℕ) (civil : DateTime) → nanos < 2 ^ 64 → IsCivilOf year time civil → civil_nanos civil ≡ pos nanos → IsMomentOf year time nanos
moment-at year time nanos civil few is same =
    let on = date_of-moment civil nanos few same in
    let at = time_nanos-moment civil nanos same in
    let number = nanos / DAY in
    let year_is : (date_of number).year ≡ year = omega (arith, signed_arith, on.year, is.0.0) in
    let month_is : (date_of number).month ≡ time.month = omega (arith, signed_arith, on.month, is.0.1) in
    let day_is : (date_of number).day ≡ time.day = omega (arith, signed_arith, on.day, is.0.2) in
    let fraction : civil.time.subsec_nanosecond ≡ time.microsecond * 1_000 = omega (arith, signed_arith, is.1.3) in
    record {
      date = date-is (date_of number) year time.month time.day year_is month_is day_is;
      hour = omega (arith, signed_arith, hour-moment civil.time nanos at, is.1.0);
      minute = omega (arith, signed_arith, minute-moment civil.time nanos at, is.1.1);
      second = omega (arith, signed_arith, second-moment civil.time nanos at, is.1.2);
      microsecond = omega (arith, signed_arith, micros-moment civil.time nanos at, fraction);
      whole = omega (arith, at, fraction);
    }
