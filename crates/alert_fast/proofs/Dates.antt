-- The date that the calendar counts to is the date of jiff with that day number.
use Rattle.std.proofs.Common.{w8, w16, w32, to_z, of_z, nat_abs, FitsSigned, ◌≡◌, ℕ, zero, suc, ◌+◌, ◌/◌, ◌%◌, ◌<◌, ◌≤◌, ◌^◌, inl, inr, refl, sym, ◌∙◌, arith, rules, ℤ, pos}
use Rattle.std.specs.Prelude.{unsigned_abs}
use Rattle.std.proofs.lemmas.Bool.{cases_lt}
use Rattle.std.proofs.lemmas.Int.{to_z-of_z}
use Rattle.std.proofs.lemmas.Bool.Decides.{nat_tests}
use Rattle.jiff_core.specs.Calendar.{days_from_civil}
use Rattle.jiff_core.specs.declared.civil.date.Date.{Date}
use Rattle.jiff_core.specs.declared.civil.time.Time.{Time}
use Rattle.jiff_core.specs.declared.civil.datetime.DateTime.{DateTime}
use Rattle.jiff_core.specs.Date.{epoch_day}
use Rattle.jiff_core.specs.Time.{time_nanos}
use Rattle.jiff_core.specs.DateTime.{civil_nanos}
use Rattle.jiff_core.proofs.SignedLemmas.{signed_arith}
use Rattle.jiff_core.proofs.CalendarLemmas.{days_from_civil-day_count, day_count-epoch, day_count-lt_year}
use Rattle.jiff_core.proofs.DateLemmas.{days_from_civil-day, days_from_civil-next_month, days_from_civil-next_year, days_from_civil-max, epoch_day_injective}
use Rattle.jiff_core.proofs.DateTimeLemmas.{civil_nanos-parts, time_nanos_bound}
use Rattle.alert_fast.specs.Calendar.{CivilDate, days_in_month, day_after, date_of}

-- the calendar has the date, and it has this day number
pub record IsCounted (number : ℕ) (date : CivilDate) : Type 0 where
  pub from_1970 : 1970 ≤ date.year
  pub month_from : 1 ≤ date.month
  pub month_to : date.month ≤ 12
  pub day_from : 1 ≤ date.day
  pub day_to : date.day ≤ days_in_month date.year date.month
  pub counted : days_from_civil (pos date.year) date.month date.day ≡ pos number

first_counted : IsCounted 0 (record { year = 1970; month = 1; day = 1 })
first_counted = record {
  from_1970 = omega arith;
  month_from = omega arith;
  month_to = omega arith;
  day_from = omega arith;
  day_to = omega arith;
  counted = omega (arith, signed_arith, days_from_civil-day_count (pos 1970) 1 1, day_count-epoch);
}

next_in_month : (number : ℕ) (date : CivilDate) → IsCounted number date → date.day < days_in_month date.year date.month → IsCounted (suc number) (record date { day = date.day + 1 })
next_in_month number date h lt = record {
  from_1970 = h.from_1970;
  month_from = h.month_from;
  month_to = h.month_to;
  day_from = omega arith;
  day_to = omega arith;
  counted = omega (arith, signed_arith, days_from_civil-day (pos date.year) date.month date.day (date.day + 1) h.day_from (omega arith), h.counted);
}

first_of_month : (number : ℕ) (date : CivilDate)
    → IsCounted number date
    → days_in_month date.year date.month ≤ date.day
    → date.month < 12
    → IsCounted (suc number) (record { year = date.year; month = date.month + 1; day = 1 })
first_of_month number date h le lt = record {
  from_1970 = h.from_1970;
  month_from = omega arith;
  month_to = omega arith;
  day_from = omega arith;
  day_to = grind (arith, nat_tests);
  counted = omega (arith, signed_arith, days_from_civil-next_month (pos date.year) date.month date.day h.month_from (omega arith), h.counted);
}

first_of_year : (number : ℕ) (date : CivilDate)
    → IsCounted number date
    → days_in_month date.year date.month ≤ date.day
    → 12 ≤ date.month
    → IsCounted (suc number) (record { year = date.year + 1; month = 1; day = 1 })
first_of_year number date h le last =
    let december : date.month ≡ 12 = omega arith in
    let days : days_in_month date.year date.month ≡ 31 = rw december refl in
    let day : date.day ≡ 31 = omega arith in
    let here = rw (december, day) at h.counted in
    record {
      from_1970 = omega arith;
      month_from = omega arith;
      month_to = omega arith;
      day_from = omega arith;
      day_to = omega arith;
      counted = omega (arith, signed_arith, days_from_civil-next_year (pos date.year) (pos (date.year + 1)) (omega (arith, signed_arith)) (omega (arith, signed_arith)), here);
    }

day_after-in_month : (date : CivilDate) → date.day < days_in_month date.year date.month → day_after date ≡ record date { day = date.day + 1 }
unfolding day_after
day_after-in_month date lt = grind (arith, nat_tests)

day_after-month : (date : CivilDate) → days_in_month date.year date.month ≤ date.day → date.month < 12 → day_after date ≡ record { year = date.year; month = date.month + 1; day = 1 }
unfolding day_after
day_after-month date le lt = grind (arith, nat_tests)

day_after-year : (date : CivilDate) → days_in_month date.year date.month ≤ date.day → 12 ≤ date.month → day_after date ≡ record { year = date.year + 1; month = 1; day = 1 }
unfolding day_after
day_after-year date le last = grind (arith, nat_tests)

day_after_counted : (number : ℕ) (date : CivilDate) → IsCounted number date → IsCounted (suc number) (day_after date)
day_after_counted number date h =
    elim (cases_lt date.day (days_in_month date.year date.month)) [
      | inl lt ↦ rw (day_after-in_month date lt) (next_in_month number date h lt)
      | inr le ↦ elim (cases_lt date.month 12) [
        | inl early ↦ rw (day_after-month date le early) (first_of_month number date h le early)
        | inr last ↦ rw (day_after-year date le last) (first_of_year number date h le last)
      ]
    ]

-- the date of each day number is a date of the calendar with that number
pub date_of_counted : (number : ℕ) → IsCounted number (date_of number)
unfolding date_of
date_of_counted zero = first_counted
date_of_counted (suc number) = day_after_counted number (date_of number) (date_of_counted number)

-- the years of the first 2,932,896 days have four digits
year_of_counted : (number : ℕ) (date : CivilDate) → IsCounted number date → number ≤ 2_932_896 → date.year ≤ 9999
year_of_counted number date h le =
    elim (cases_lt 9999 date.year) [
      | inl late ↦ absurd (omega (
        arith,
        signed_arith,
        h.counted,
        days_from_civil-max,
        days_from_civil-day_count,
        day_count-lt_year (pos 9999) 12 31 (pos date.year) date.month date.day (search rules) h.day_from (omega (arith, signed_arith)),
      ))
      | inr within ↦ within
    ]

-- the date is the one with this day number, and its year has four digits
pub record IsDateOf (date : Date) (number : ℕ) : Type 0 where
  pub year : date.year ≡ pos (date_of number).year
  pub month : date.month ≡ (date_of number).month
  pub day : date.day ≡ (date_of number).day
  pub small : (date_of number).year < 10000

-- a date of jiff with that day number is the one that the calendar counts to
pub date_of-epoch_day : (date : Date) (number : ℕ) → number ≤ 2_932_896 → epoch_day date ≡ pos number → IsDateOf date number
date_of-epoch_day date number le same =
    let h = date_of_counted number in
    let late = year_of_counted number (date_of number) h le in
    let own : Date = record {
      year = pos (date_of number).year;
      month = (date_of number).month;
      day = (date_of number).day;
      year_in = omega (arith, signed_arith);
      month_in = (h.month_from, h.month_to);
      day_in = (h.day_from, h.day_to);
    } in
    let parts = epoch_day_injective date own (same ∙ sym h.counted) in
    record { year = parts.0; month = parts.1; day = parts.2; small = omega arith }

-- a day has this many nanoseconds
abbrev DAY : ℕ
DAY = 86_400_000_000_000

-- the date of a moment: its whole days are the day number
pub date_of-moment : (dt : DateTime) (nanos : ℕ) → nanos < 2 ^ 64 → civil_nanos dt ≡ pos nanos → IsDateOf dt.date (nanos / DAY)
date_of-moment dt nanos small same =
    let parts = civil_nanos-parts dt in
    let within = time_nanos_bound dt.time in
    let day : epoch_day dt.date ≡ pos (nanos / DAY) = omega (arith, signed_arith) in
    date_of-epoch_day dt.date (nanos / DAY) (omega arith) day

-- the time of day of a moment has the nanoseconds that its whole days leave
pub time_nanos-moment : (dt : DateTime) (nanos : ℕ) → civil_nanos dt ≡ pos nanos → time_nanos dt.time ≡ nanos % DAY
time_nanos-moment dt nanos same =
    let parts = civil_nanos-parts dt in
    let within = time_nanos_bound dt.time in
    omega (arith, signed_arith)

-- what a clock shows that many nanoseconds after midnight, in a moment's own terms
pub hour-moment : (t : Time) (nanos : ℕ) → time_nanos t ≡ nanos % DAY → t.hour ≡ nanos / 3_600_000_000_000 % 24
hour-moment t nanos same = omega arith

pub minute-moment : (t : Time) (nanos : ℕ) → time_nanos t ≡ nanos % DAY → t.minute ≡ nanos / 60_000_000_000 % 60
minute-moment t nanos same = omega arith

pub second-moment : (t : Time) (nanos : ℕ) → time_nanos t ≡ nanos % DAY → t.second ≡ nanos / 1_000_000_000 % 60
second-moment t nanos same = omega arith

pub micros-moment : (t : Time) (nanos : ℕ) → time_nanos t ≡ nanos % DAY → t.subsec_nanosecond / 1000 ≡ nanos / 1000 % 1_000_000
micros-moment t nanos same = omega arith

-- a signed number that is not negative keeps its value where it is taken as unsigned
pub cast_u8 : (z : ℤ) (n : ℕ) → z ≡ pos n → n < 128 → nat_abs (to_z w8 (of_z w8 z)) ≡ n
cast_u8 z n is small =
    let fits : FitsSigned w8 (pos n) = omega (arith, signed_arith) in
    rw (is, to_z-of_z w8 (pos n) fits)

pub cast_u32 : (z : ℤ) (n : ℕ) → z ≡ pos n → n < 2 ^ 31 → nat_abs (to_z w32 (of_z w32 z)) ≡ n
cast_u32 z n is small =
    let fits : FitsSigned w32 (pos n) = omega (arith, signed_arith) in
    rw (is, to_z-of_z w32 (pos n) fits)

-- a signed number that is not negative is its own size
pub size_u16 : (z : ℤ) (n : ℕ) → z ≡ pos n → n < 2 ^ 15 → unsigned_abs (to_z w16 (of_z w16 z)) ≡ n
size_u16 z n is small =
    let fits : FitsSigned w16 (pos n) = omega (arith, signed_arith) in
    rw (is, to_z-of_z w16 (pos n) fits)
