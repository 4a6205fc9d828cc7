-- What is kept of an interval: when it began, and its number of events as far as its line can tell.
--
-- To try it on: a limit of 2 tells the numbers 1, 2 and 3 apart, and 3 stands for all from 3 on; a
-- threshold of 2 tells 1 and 2 apart, and 1 stands for 3, 5 and so on.
use Rattle.std.specs.Prelude.{◌≡◌, ℕ, ◌+◌, ◌-◌, ◌*◌, ◌%◌, ◌==◌, ⊤, Bool, true, if◌then◌else◌, nat_lt, nat_le, min, List, [], ◌∷◌, Option, None, Some, length}
use Rattle.std.specs.Map.{lookup}
use Rattle.event_filters.specs.declared.counting.Count.{Count}
use Rattle.event_filters.specs.declared.counting.CountKey.{CountKey}
use Rattle.event_filters.specs.declared.counting.CountKind.{CountKind}
use Rattle.event_filters.specs.declared.counting.CountKind.TheVariants.{Limit, Threshold, Both, Above}
use Rattle.event_filters.specs.declared.counting.CountLine.{CountLine}
use Rattle.event_filters.specs.declared.counting.Window.{Window}
use Rattle.event_filters.specs.Counting.{Event, interval_of, moments_of}
use Rattle.event_filters.specs.Keys.{same_key}

-- the number that follows
abbrev pub next_number : CountKind → ℕ → ℕ → ℕ
next_number Threshold count number = if nat_lt number count then number + 1 else 1
next_number Limit count number = min number count + 1
next_number Both count number = min number count + 1
next_number Above count number = min number count + 1

-- the window once an event has come at this moment
abbrev pub next_window : CountLine → Option Window → ℕ → Window
next_window line None moment = record { start = moment; number = 1 }
next_window line (Some window) moment =
    if nat_lt moment (window.start + line.seconds * 1000000000)
    then record { start = window.start; number = next_number line.kind line.count window.number }
    else record { start = moment; number = 1 }

-- whether the line lets through the event that made the window so
abbrev pub shows : CountKind → ℕ → ℕ → Bool
shows Limit count number = nat_le number count
shows Threshold count number = number == count
shows Both count number = number == count
shows Above count number = nat_lt count number

-- the windows by their keys
abbrev pub Windows : Type 0
Windows = CountKey → Option Window

-- the window of a key among these entries
abbrev pub window_at : List (CountKey × Window) → Windows
window_at entries key = lookup (same_key key) entries

-- whether an event is let through, where it is counted so
abbrev pub answer_of : Windows → Option Count → ℕ → Bool
answer_of windows None moment = true
answer_of windows (Some count) moment =
    shows count.line.kind count.line.count (next_window count.line (windows count.key) moment).number

-- the windows after an event that is counted so
abbrev pub windows_after : Windows → Option Count → ℕ → Windows
windows_after windows None moment key = windows key
windows_after windows (Some count) moment key =
    if same_key count.key key then Some (next_window count.line (windows count.key) moment) else windows key

-- what a line can tell of the number of an interval's events
abbrev pub shown : CountKind → ℕ → ℕ → ℕ
shown Threshold count number = (number - 1) % count + 1
shown Limit count number = min number (count + 1)
shown Both count number = min number (count + 1)
shown Above count number = min number (count + 1)

-- the window stands for the interval
abbrev pub IsWindowOf : CountLine → List ℕ → Option Window → Type 0
IsWindowOf line [] window = window ≡ None
IsWindowOf line (start ∷ later) window =
    window ≡ Some (record { start = start; number = shown line.kind line.count (length (start ∷ later)) })

-- the windows stand for these events, counted by these keys and lines
unfoldable pub AreAfter : (Event → Option CountKey) → (CountKey → CountLine) → List Event → Windows → Type 0
AreAfter key_of line_at events windows =
    (key : CountKey) → IsWindowOf (line_at key) (interval_of (line_at key).seconds (moments_of key_of key events)) (windows key)

-- the event is counted so, by its key and the key's line; one that has no key is not
abbrev pub IsCountOf : (Event → Option CountKey) → (CountKey → CountLine) → Event → Option Count → Type 0
IsCountOf key_of line_at event None = key_of event ≡ None
IsCountOf key_of line_at event (Some count) = (key_of event ≡ Some count.key) × (line_at count.key ≡ count.line)
