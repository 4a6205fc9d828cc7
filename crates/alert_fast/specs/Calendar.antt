-- The date of a day number: the Gregorian calendar from 1970-01-01 on.
--
-- ISO 8601-1, "The Gregorian calendar": months and their lengths, leap years. The day numbers are the
-- whole days of the POSIX epoch (IEEE Std 1003.1, Base Definitions, "Seconds Since the Epoch").
-- To try it on: day 58 is 1970-02-28 and day 59 is 1970-03-01; day 14288 is 2009-02-13.
use Rattle.std.specs.Prelude.{◌≡◌, ℕ, zero, suc, ◌+◌, ◌/◌, ◌%◌, Bool, not, ◌&&◌, ◌||◌, ◌==◌, nat_lt, if◌then◌else◌}
use Rattle.alert_fast.specs.declared.utc.UtcTime.{UtcTime}

-- a day of the calendar: its year, its month from 1 to 12, its day of the month from 1
pub record CivilDate : Type 0 where
  pub year : ℕ
  pub month : ℕ
  pub day : ℕ

-- every fourth year, but of the centuries only every fourth
abbrev pub is_leap_year : ℕ → Bool
is_leap_year year = (year % 4 == 0) && (not (year % 100 == 0) || (year % 400 == 0))

-- 30 days have April, June, September and November; February has 28, and 29 in a leap year
abbrev pub days_in_month : ℕ → ℕ → ℕ
days_in_month year month =
    if month == 2 then (if is_leap_year year then 29 else 28)
    else (if (month == 4) || (month == 6) || (month == 9) || (month == 11) then 30 else 31)

-- the next day of the month, or else the first of the next month, or else of the next year
unfoldable pub day_after : CivilDate → CivilDate
day_after date =
    if nat_lt date.day (days_in_month date.year date.month) then record date { day = date.day + 1 }
    else (if nat_lt date.month 12 then record { year = date.year; month = date.month + 1; day = 1 }
    else record { year = date.year + 1; month = 1; day = 1 })

-- day 0 is 1970-01-01, and each day follows the one before
unfoldable pub date_of : ℕ → CivilDate
date_of zero = record { year = 1970; month = 1; day = 1 }
date_of (suc number) = day_after (date_of number)

-- the time in UTC this many nanoseconds after 1970-01-01 00:00:00: the day's date, and the time of day; what is less
-- than a microsecond is cut off
pub record IsUtc (nanos : ℕ) (time : UtcTime) : Type 0 where
  pub year : time.year ≡ (date_of (nanos / 86_400_000_000_000)).year
  pub month : time.month ≡ (date_of (nanos / 86_400_000_000_000)).month
  pub day : time.day ≡ (date_of (nanos / 86_400_000_000_000)).day
  pub hour : time.hour ≡ nanos / 3_600_000_000_000 % 24
  pub minute : time.minute ≡ nanos / 60_000_000_000 % 60
  pub second : time.second ≡ nanos / 1_000_000_000 % 60
  pub microsecond : time.microsecond ≡ nanos / 1_000 % 1_000_000
