-- Which records bytes are, and how far bytes are records.
--
-- A list of records stands for its texts, one after another (`Records`). Of all lists whose text the
-- bytes begin with one is the longest; where it leaves bytes over, these begin no record.
-- To try it on: of the 60 bytes of an event and the first 80 of a packet of 81 the event is read, and
-- the bytes are bad at 60.
use Rattle.std.specs.Prelude.{◌≡◌, ℕ, ◌<◌, ◌≤◌, List, ◌++◌, length, take, ⊤}
use Rattle.std.specs.List.{All, flat_map}
use Rattle.unified2_out.specs.declared.record.U2.{U2}
use Rattle.unified2_out.specs.declared.record.U2Fault.{U2Fault}
use Rattle.unified2_out.specs.declared.record.U2Fault.TheVariants.{Bad, NoMemory}
use Rattle.unified2_out.specs.Records.{unified2_text, IsWritable, NumbersFit}

-- a record that has a text of its own
pub record IsRecord (entry : U2) : Type 0 where
  pub writable : IsWritable entry
  pub fits : NumbersFit entry

-- the texts of records, joined
abbrev pub joined_text : List U2 → List ℕ
joined_text entries = flat_map unified2_text entries

-- the records whose joined texts are these bytes
pub record AreRecordsOf (bytes : List ℕ) (entries : List U2) : Type 0 where
  pub each : All IsRecord entries
  pub joined : joined_text entries ≡ bytes

-- a list of records ends at a place of the bytes: its joined text is all that comes before it
pub record RecordsEndAt (bytes : List ℕ) (place : ℕ) : Type 0 where
  pub within : place ≤ length bytes
  pub entries : List U2
  pub are : AreRecordsOf (take place bytes) entries

-- the longest list of records that the bytes begin with ends at a place, and leaves bytes over
pub record IsBadAt (bytes : List ℕ) (place : ℕ) : Type 0 where
  pub reached : RecordsEndAt bytes place
  pub furthest : (other : ℕ) → RecordsEndAt bytes other → other ≤ place
  pub left : place < length bytes

-- the records that the bytes are were added to a list
pub record AddsRecords (bytes : List ℕ) (old new : List U2) : Type 0 where
  pub entries : List U2
  pub are : AreRecordsOf bytes entries
  pub added : new ≡ old ++ entries

-- what a refusal says of the bytes: nothing where memory lacked
abbrev pub IsCauseOf : List ℕ → U2Fault → Type 0
IsCauseOf bytes (Bad place) = IsBadAt bytes place
IsCauseOf bytes NoMemory = ⊤
