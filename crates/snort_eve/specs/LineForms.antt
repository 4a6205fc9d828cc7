-- Alert lines as a form of input: how their bytes come piece by piece, and how they end.
--
-- The bytes that have come are lines that gave their records (alert_json specs/LineWalks), and bytes that wait, at which no
-- line begins that gives one. A file is done where no bytes wait at its end.
-- To try it on: of two alert lines, the second without its line feed, one record is written, and the file ends at line 2.
use Rattle.std.specs.Prelude.{◌≡◌, ℕ, ◌+◌, ◌-◌, ◌^◌, ◌<◌, List, [], ◌++◌, length, min}
use Rattle.std.specs.List.{concat}
use Rattle.alert_json.specs.declared.line_year.YearFrom.{YearFrom}
use Rattle.alert_json.specs.Facts.{RunFacts, run_facts}
use Rattle.snort_eve.specs.declared.line_form.AlertLines.{AlertLines}
use Rattle.snort_eve.specs.declared.line_form.LineState.{LineState}
use Rattle.alert_json.specs.LineWalks.{AreTold, NoneTold}
use Rattle.snort_eve.specs.declared.form.Ending.{Ending}
use Rattle.snort_eve.specs.declared.form.Ending.TheVariants.{Done, Bad, NoLine}
use Rattle.snort_eve.specs.Forms.{BeginsWith, Meaning}

-- bytes are lines that gave these records, and bytes that are left
pub record LinesCame (run : RunFacts) (from : YearFrom) (bytes rest wrote : List ℕ) (next : YearFrom) : Type 0 where
  pub lines : List (List ℕ)
  pub told : AreTold run from lines wrote next
  pub split : bytes ≡ concat lines ++ rest
  pub none : NoneTold next rest

-- all bytes are alert lines
pub record LinesDone (run : RunFacts) (from : YearFrom) (bytes wrote : List ℕ) : Type 0 where
  pub next : YearFrom
  pub are : LinesCame run from bytes [] wrote next

-- bytes are left behind lines, and at these the line of this number doesn't begin, or it gives no record
pub record LinesBad (run : RunFacts) (from : YearFrom) (bytes wrote : List ℕ) (number : ℕ) : Type 0 where
  pub rest : List ℕ
  pub next : YearFrom
  pub are : LinesCame run from bytes rest wrote next
  pub left : 0 < length rest
  pub place : number ≡ length are.lines + 1

abbrev pub LinesEnd : RunFacts → YearFrom → List ℕ → List ℕ → Ending → Type 0
LinesEnd run from bytes wrote Done = LinesDone run from bytes wrote
LinesEnd run from bytes wrote (Bad at) = ⊥
LinesEnd run from bytes wrote (NoLine number) = LinesBad run from bytes wrote number

-- how it ends behind so many lines where these bytes wait
abbrev pub LinesEndBy : List ℕ → ℕ → Ending → Type 0
LinesEndBy rest count Done = rest ≡ []
LinesEndBy rest count (Bad at) = ⊥
LinesEndBy rest count (NoLine number) = (0 < length rest) × (number ≡ min (count + 1) (2 ^ 64 - 1))

-- bytes begin with lines whose records begin so
pub record LinesBegin (run : RunFacts) (from : YearFrom) (bytes wrote : List ℕ) : Type 0 where
  pub lines : List (List ℕ)
  pub rest : List ℕ
  pub all : List ℕ
  pub next : YearFrom
  pub told : AreTold run from lines all next
  pub split : bytes ≡ concat lines ++ rest
  pub begins : BeginsWith all wrote

abbrev pub of_lines : RunFacts → YearFrom → Meaning
of_lines run from = record { ends = LinesEnd run from; begins = LinesBegin run from }

-- so many lines are counted, where a number of 64 bits has them
abbrev pub AreCounted : List (List ℕ) → ℕ → Type 0
AreCounted lines count = length lines < 2 ^ 64 → count ≡ length lines

-- what has come, by what is kept between two pieces
pub record CameBy (run : RunFacts) (from : YearFrom) (state : LineState) (bytes wrote : List ℕ) : Type 0 where
  pub came : LinesCame run from bytes state.rest.items wrote state.next
  pub counted : AreCounted came.lines state.count

abbrev pub AlertLinesCame : AlertLines → LineState → List ℕ → List ℕ → Type 0
AlertLinesCame form state bytes wrote = CameBy (run_facts form.run) form.from state bytes wrote
