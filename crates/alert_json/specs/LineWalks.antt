-- Alert lines one after another, and the records that they give.
--
-- A line is the bytes up to a line feed, with it, 1,048,576 at most. It gives the record of an alert if it is read as one
-- (alert_fast specs/Told) whose time has a moment in the line's year; the next line's year follows from its date.
-- To try it on: two alert lines and half of a third give two records, and the half waits; where the second is no alert, the
-- first gives its record, and nothing more is taken.
use Rattle.std.specs.Prelude.{◌≡◌, ◌≢◌, ◌⊎◌, ℕ, ◌<◌, ◌≤◌, List, [], ◌∷◌, ◌++◌, length, take}
use Rattle.std.specs.List.{concat}
use Rattle.alert_fast.specs.Fronts.{Lacks}
use Rattle.alert_fast.specs.Told.{IsReading, LineFacts, NoReading}
use Rattle.alert_json.specs.declared.line_year.YearFrom.{YearFrom}
use Rattle.alert_json.specs.declared.line_year.YearFrom.TheVariants.{After}
use Rattle.alert_json.specs.declared.line_walk.LinesTaken.{LinesTaken}
use Rattle.alert_json.specs.declared.line_walk.FrontLine.{FrontLine}
use Rattle.alert_json.specs.declared.line_walk.FrontLine.TheVariants as front
use Rattle.alert_json.specs.declared.line_walk.LineStep.{LineStep}
use Rattle.alert_json.specs.declared.line_walk.LineStep.TheVariants as step
use Rattle.alert_json.specs.Facts.{EventFacts, RunFacts}
use Rattle.alert_json.specs.Value.{event_line}
use Rattle.alert_json.specs.LineEvents.{event_of_line}
use Rattle.alert_json.specs.LineMoments.{IsMomentOf, NoMomentOf}
use Rattle.alert_json.specs.LineYears.{year_of}

-- ---- a line

abbrev pub most_line_bytes : ℕ
most_line_bytes = 1048576

pub record IsLine (line : List ℕ) : Type 0 where
  pub text : List ℕ
  pub lacks : Lacks 10 text
  pub is : line ≡ text ++ 10 ∷ []
  pub short : length text < most_line_bytes

-- no line is at the front of these bytes
abbrev pub NoLine : List ℕ → Type 0
NoLine bytes = (line more : List ℕ) → IsLine line → bytes ≢ line ++ more

-- a line of this length is at the front, or none yet, or none whatever follows
abbrev pub IsFrontLine : List ℕ → FrontLine → Type 0
IsFrontLine bytes (front.Line size) = IsLine (take size bytes) × (size ≤ length bytes)
IsFrontLine bytes front.Waits = NoLine bytes
IsFrontLine bytes front.Foreign = (0 < length bytes) × ((more : List ℕ) → NoLine (bytes ++ more))

-- ---- what it tells

-- the line is read as an alert, of which this event is told
pub record IsDated (from : YearFrom) (line : List ℕ) (event : EventFacts) (next : YearFrom) : Type 0 where
  pub told : LineFacts
  pub nanos : ℕ
  pub read : IsReading line told
  pub moment : IsMomentOf (year_of from told.time) told.time nanos
  pub event_is : event ≡ event_of_line nanos told
  pub next_is : next ≡ After (year_of from told.time) told.time.month told.time.day

-- the line is read as an alert whose time has no moment in its year
pub record IsUndated (from : YearFrom) (line : List ℕ) : Type 0 where
  pub told : LineFacts
  pub read : IsReading line told
  pub none : NoMomentOf (year_of from told.time) told.time

-- the line gives no record
abbrev pub IsUntold : YearFrom → List ℕ → Type 0
IsUntold from line = NoReading line ⊎ IsUndated from line

-- the record of a line was added
pub record AddsLine (run : RunFacts) (from : YearFrom) (line old new : List ℕ) (next : YearFrom) : Type 0 where
  pub event : EventFacts
  pub dated : IsDated from line event next
  pub added : new ≡ old ++ event_line event run

-- ---- lines

-- the records of lines, one after another, and what the next line's year follows from
abbrev pub AreTold : RunFacts → YearFrom → List (List ℕ) → List ℕ → YearFrom → Type 0
AreTold run from [] wrote last = (wrote ≡ []) × (last ≡ from)
AreTold run from (line ∷ lines) wrote last =
    (event : EventFacts) × (next : YearFrom) × (later : List ℕ) × IsLine line × IsDated from line event next
    × (wrote ≡ event_line event run ++ later) × AreTold run next lines later last

-- bytes begin with a line that gives no record
pub record BeginsUntold (from : YearFrom) (bytes : List ℕ) : Type 0 where
  pub line : List ℕ
  pub more : List ℕ
  pub is : IsLine line
  pub untold : IsUntold from line
  pub begins : bytes ≡ line ++ more

-- no line that gives a record is at the front of bytes
abbrev pub NoneTold : YearFrom → List ℕ → Type 0
NoneTold from bytes = NoLine bytes ⊎ BeginsUntold from bytes

-- no line that gives a record is at the front of bytes, whatever follows them
pub record NeverTold (from : YearFrom) (bytes : List ℕ) : Type 0 where
  pub some : 0 < length bytes
  pub none : (more : List ℕ) → NoneTold from (bytes ++ more)

-- a line was taken at the front of bytes, or none was
abbrev pub IsStep : RunFacts → YearFrom → List ℕ → List ℕ → List ℕ → LineStep → Type 0
IsStep run from bytes old new (step.Took size next) =
    IsLine (take size bytes) × (size ≤ length bytes) × AddsLine run from (take size bytes) old new next
IsStep run from bytes old new step.Waits = NoLine bytes × (new ≡ old)
IsStep run from bytes old new step.Foreign = NeverTold from bytes × (new ≡ old)

-- a line was taken of bytes that are one line, or none was
abbrev pub IsWholeStep : RunFacts → YearFrom → List ℕ → List ℕ → List ℕ → LineStep → Type 0
IsWholeStep run from line old new (step.Took size next) = (size ≡ length line) × AddsLine run from line old new next
IsWholeStep run from line old new step.Waits = ⊥
IsWholeStep run from line old new step.Foreign = IsUntold from line × (new ≡ old)

-- lines at the front of bytes gave their records, up to a place, and were counted
pub record WalksLines (run : RunFacts) (from : YearFrom) (bytes old new : List ℕ) (taken : LinesTaken) : Type 0 where
  pub lines : List (List ℕ)
  pub wrote : List ℕ
  pub told : AreTold run from lines wrote taken.next
  pub split : take taken.size bytes ≡ concat lines
  pub within : taken.size ≤ length bytes
  pub counted : taken.count ≡ length lines
  pub added : new ≡ old ++ wrote
