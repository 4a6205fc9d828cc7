-- How bytes end that are records of Unified2, and which lines they have.
--
-- All bytes are records, or from a place on none begins; the lines are those of the events of the records.
-- To try it on: of an event and half of its packet the line of the event is written, and the bytes are bad at the packet.
use Rattle.std.specs.Prelude.{◌≡◌, ℕ, ◌-◌, ◌<◌, List, [], length}
use Rattle.unified2_out.specs.declared.record.U2.{U2}
use Rattle.unified2_out.specs.Reading.{joined_text}
use Rattle.snort_eve.specs.Joins.{Joined, joined, lines_of}
use Rattle.snort_eve.specs.Streams.{HasCome, IsSplit}
use Rattle.snort_eve.specs.Events.{line_by}
use Rattle.snort_eve.specs.declared.events.JsonLines.{JsonLines}
use Rattle.snort_eve.specs.declared.stream.Stream.{Stream}
use Rattle.snort_eve.specs.Forms.{BeginsWith, Meaning}
use Rattle.snort_eve.specs.declared.form.Ending.{Ending}
use Rattle.snort_eve.specs.declared.form.Ending.TheVariants.{Done, Bad, NoLine}

-- how it ends where so many bytes were read, and these wait
abbrev pub EndsBy : List ℕ → ℕ → Ending → Type 0
EndsBy rest read Done = rest ≡ []
EndsBy rest read (Bad at) = (0 < length rest) × (at ≡ read - length rest)
EndsBy rest read (NoLine at) = ⊥

-- the lines of the records at the front of these bytes, and of the event that waits for its packet behind them
pub record AreLinesOf (line : Joined → List ℕ) (bytes : List ℕ) (entries : List U2) (rest wrote : List ℕ) : Type 0 where
  pub split : IsSplit bytes entries rest
  pub lines : wrote ≡ lines_of line (joined entries)

-- all bytes are records
pub record IsDone (line : Joined → List ℕ) (bytes wrote : List ℕ) : Type 0 where
  pub entries : List U2
  pub are : AreLinesOf line bytes entries [] wrote

-- bytes are left at this place, and no record begins there
pub record IsBad (line : Joined → List ℕ) (bytes wrote : List ℕ) (at : ℕ) : Type 0 where
  pub entries : List U2
  pub rest : List ℕ
  pub are : AreLinesOf line bytes entries rest wrote
  pub left : 0 < length rest
  pub place : at ≡ length (joined_text entries)

abbrev pub IsEnding : (Joined → List ℕ) → List ℕ → List ℕ → Ending → Type 0
IsEnding line bytes wrote Done = IsDone line bytes wrote
IsEnding line bytes wrote (Bad at) = IsBad line bytes wrote at
IsEnding line bytes wrote (NoLine at) = ⊥

-- the lines are a beginning of those that all of the bytes have
abbrev pub IsBeginning : (Joined → List ℕ) → List ℕ → List ℕ → Type 0
IsBeginning line bytes wrote =
    (entries : List U2) (rest : List ℕ) → IsSplit bytes entries rest → BeginsWith (lines_of line (joined entries)) wrote

abbrev pub of_records : (Joined → List ℕ) → Meaning
of_records line = record { ends = IsEnding line; begins = IsBeginning line }

-- what has come, by what is kept between two pieces
abbrev pub RecordsCame : JsonLines → Stream → List ℕ → List ℕ → Type 0
RecordsCame lines stream bytes wrote = HasCome (line_by lines) bytes stream.rest.items stream.held wrote
