-- The time of a record, as ISO 8601 writes it, in UTC.
--
-- To try it on: moment 0 is `1970-01-01T00:00:00.000000+0000`.
use Rattle.std.specs.Prelude.{ℕ, ◌/◌, List, ◌++◌, codes}
use Rattle.alert_fast.specs.Calendar.{CivilDate, date_of}
use Rattle.alert_fast.specs.Pieces.{digits}
use Rattle.alert_fast.specs.Line.{clock_text}

-- a date, as 2009-02-13
unfoldable pub full_date_text : CivilDate → List ℕ
full_date_text date = digits 4 date.year ++ codes "-" ++ digits 2 date.month ++ codes "-" ++ digits 2 date.day

-- a moment, in nanoseconds since 1970-01-01 00:00:00 UTC; what is less than a microsecond is cut off
unfoldable pub timestamp_text : ℕ → List ℕ
timestamp_text nanos = full_date_text (date_of (nanos / 86_400_000_000_000)) ++ codes "T" ++ clock_text nanos ++ codes "+0000"
