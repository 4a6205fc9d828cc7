-- The moment of an alert line, in a year that the line doesn't tell.
--
-- The time of a line has no year (alert_fast specs/Told). In a year it is the moment of whole microseconds whose UTC time
-- has that year, and else is the line's.
-- To try it on: in 1972 `02/29-00:00:00.000000` is the moment 68,169,600 seconds after 1970 began, and in 1973 none.
use Rattle.std.specs.Prelude.{◌≡◌, ℕ, ◌*◌, ◌/◌, ◌%◌, ◌^◌, ◌<◌, ℤ, pos}
use Rattle.jiff_core.specs.declared.civil.datetime.DateTime.{DateTime}
use Rattle.jiff_core.specs.Date.{IsYmd}
use Rattle.jiff_core.specs.DateTime.{civil_nanos}
use Rattle.jiff_core.specs.Time.{IsHms}
use Rattle.alert_fast.specs.declared.told.LineTime.{LineTime}
use Rattle.alert_fast.specs.Calendar.{date_of}

-- the moment, in nanoseconds since 1970-01-01 00:00:00 UTC, is that of this time in this year
pub record IsMomentOf (year : ℕ) (time : LineTime) (nanos : ℕ) : Type 0 where
  pub date : date_of (nanos / 86_400_000_000_000) ≡ record { year = year; month = time.month; day = time.day }
  pub hour : nanos / 3_600_000_000_000 % 24 ≡ time.hour
  pub minute : nanos / 60_000_000_000 % 60 ≡ time.minute
  pub second : nanos / 1_000_000_000 % 60 ≡ time.second
  pub microsecond : nanos / 1_000 % 1_000_000 ≡ time.microsecond
  pub whole : nanos % 1_000 ≡ 0

-- no moment of 64 bits is that of this time in this year
abbrev pub NoMomentOf : ℕ → LineTime → Type 0
NoMomentOf year time = (nanos : ℕ) → nanos < 2 ^ 64 → IsMomentOf year time nanos → ⊥

-- ---- on the way

-- the parts have no more digits than those of a date and a clock
abbrev pub AreSmall : ℕ → LineTime → Type 0
AreSmall year time =
    (year < 10000) × (time.month < 100) × (time.day < 100)
    × (time.hour < 100) × (time.minute < 100) × (time.second < 100) × (time.microsecond < 1_000_000)

-- the date and the time of day of the kit's calendar
abbrev pub IsCivilOf : ℕ → LineTime → DateTime → Type 0
IsCivilOf year time civil =
    IsYmd (pos year) (pos time.month) (pos time.day) civil.date
    × IsHms (pos time.hour) (pos time.minute) (pos time.second) (pos (time.microsecond * 1_000)) civil.time

-- no number of 64 bits is that of its nanoseconds since 1970
abbrev pub NoNanosOf : DateTime → Type 0
NoNanosOf civil = (nanos : ℕ) → nanos < 2 ^ 64 → civil_nanos civil ≡ pos nanos → ⊥
