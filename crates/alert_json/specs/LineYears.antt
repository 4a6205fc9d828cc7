-- The year of an alert line, which counts on from line to line.
--
-- A line's time has no year. Own: the first line has the year that is given, or comes after a date that is known, and each
-- further line comes after the one before. A day that is more than half a year earlier in the year is in the next one, and
-- one that is more than eleven months later is in the one before, since times may run back over New Year.
-- To try it on: after 2023-12-31 the day 01/01 is in 2024; after 2024-01-01 the day 12/31 is in 2023, and 12/01 in 2024.
use Rattle.std.specs.Prelude.{ℕ, ◌+◌, ◌-◌, if◌then◌else◌, List, [], ◌∷◌, nat_lt, slice_get, unwrap_or}
use Rattle.alert_fast.specs.declared.told.LineTime.{LineTime}
use Rattle.alert_fast.specs.Calendar.{CivilDate}
use Rattle.alert_json.specs.declared.line_year.YearFrom.{YearFrom}
use Rattle.alert_json.specs.declared.line_year.YearFrom.TheVariants as from

-- how many days of a leap year lie before each month, from 1 on
abbrev pub days_before : List ℕ
days_before = 0 ∷ 0 ∷ 31 ∷ 60 ∷ 91 ∷ 121 ∷ 152 ∷ 182 ∷ 213 ∷ 244 ∷ 274 ∷ 305 ∷ 335 ∷ []

-- the place of a day in a leap year, from 1 on
unfoldable pub place_of : ℕ → ℕ → ℕ
place_of month day = unwrap_or (slice_get days_before month) 0 + day

-- the year of a day at this place that comes after one at the last place, in this year
unfoldable pub year_after : ℕ → ℕ → ℕ → ℕ
year_after year last place =
    if nat_lt (place + 183) last then year + 1 else (if nat_lt (last + 335) place then year - 1 else year)

-- the year of a line
abbrev pub year_of : YearFrom → LineTime → ℕ
year_of (from.Given year) time = year
year_of (from.After year month day) time = year_after year (place_of month day) (place_of time.month time.day)
