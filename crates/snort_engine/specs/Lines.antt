-- The text of a capture's alerts, in the form that is wanted, and the laws that say how they follow one another.
--
-- An alert is a line, or two Unified2 records. A line goes by its item, its rule and the classes alone; the
-- records of an alert also by how many alerts come before it in the run, and by its packet. What is said below
-- of lines is said of either form.
-- To try it on: where a plan shows one alert of each of three records, the lines of the three are the
-- line of the first and then those of the other two after the first.
use Rattle.std.specs.Prelude.{◌≡◌, ℕ, ◌+◌, ◌≤◌, List, [], ◌++◌, length, take}
use mathlib.Core.List.{IsPrefix}
use Rattle.record_jobs.specs.Way.{LinkedRecord}
use Rattle.command_words.specs.declared.asked.AlertForm.TheVariants as form
use Rattle.alert_lines.specs.Lines.{text_of, texts_from}
use Rattle.snort_engine.specs.Course.{Plan}
use Rattle.snort_engine.specs.Trace.{CaptureState, Open, trace}

-- how many alerts there were before, of these records
unfoldable pub alert_count : Plan → List LinkedRecord → ℕ
alert_count plan before = length (trace plan [] before Open)

-- the lines of records after these records
unfoldable pub lines : Plan → List LinkedRecord → List LinkedRecord → CaptureState → List ℕ
lines plan before records state =
    texts_from (text_of plan.form plan.config.classes) (alert_count plan before) (trace plan before records state)

-- the one law: the lines of records joined to others are those of the first, while the capture goes
-- on, and then those of the others after the first
abbrev pub LinesJoin : Type 0
LinesJoin = (plan : Plan) (before first others : List LinkedRecord) (state : CaptureState)
    → lines plan before (first ++ others) state ≡ lines plan before first Open ++ lines plan (before ++ first) others state

-- the prefix law: the lines of the first records, while the capture goes on, are a beginning of those
-- of more of its records, whether it goes on or has ended
abbrev pub PrefixLaw : Type 0
PrefixLaw = (plan : Plan) (records : List LinkedRecord) (r s : ℕ) (state : CaptureState) → r ≤ s
    → IsPrefix (lines plan [] (take r records) Open) (lines plan [] (take s records) state)
