-- Records of bytes that come piece by piece.
--
-- What came so far is the text of whole records (unified2_out specs/Reading) and bytes that wait for more. Each
-- record is taken as soon as it is whole; at the end no bytes may wait.
-- To try it on: of an event's 60 bytes in pieces of 50 and 10 the first leaves 50 bytes waiting, the second none.
use Rattle.std.specs.Prelude.{◌≡◌, ℕ, ◌+◌, ◌<◌, ◌≤◌, List, ◌++◌, length, drop, Option, None}
use Rattle.std.specs.List.{All}
use Rattle.byteorder.specs.Endian.{big_number}
use Rattle.unified2_out.specs.declared.record.U2Event.{U2Event}
use Rattle.unified2_out.specs.declared.record.U2.{U2}
use Rattle.unified2_out.specs.Records.{most_body_bytes}
use Rattle.unified2_out.specs.Reading.{IsRecord, joined_text, RecordsEndAt}
use Rattle.unified2_out.specs.Fronts.{HasNoRecord, AddsFront}
use Rattle.snort_eve.specs.declared.records.FrontHeader.{FrontHeader}
use Rattle.snort_eve.specs.declared.records.FrontHeader.TheVariants as frame
use Rattle.snort_eve.specs.declared.records.FrontRecord.{FrontRecord}
use Rattle.snort_eve.specs.declared.records.FrontRecord.TheVariants as front
use Rattle.snort_eve.specs.Joins.{Joined, held_after, completed_by, lines_of}

-- the length of a body, which stands behind the kind
abbrev pub body_length : List ℕ → ℕ
body_length bytes = big_number 4 (drop 4 bytes)

-- what the header at the front of bytes tells
abbrev pub IsFrameAt : List ℕ → FrontHeader → Type 0
IsFrameAt bytes (frame.Whole size) = (8 ≤ length bytes) × (size ≡ 8 + body_length bytes) × (size ≤ length bytes)
IsFrameAt bytes frame.Waits = (8 ≤ length bytes → length bytes < 8 + body_length bytes)
IsFrameAt bytes frame.Foreign = (8 ≤ length bytes) × (most_body_bytes < body_length bytes)

-- a header is there, and whatever follows them, the bytes begin with no record
pub record IsForeign (bytes : List ℕ) : Type 0 where
  pub long : 8 ≤ length bytes
  pub none : (more : List ℕ) → HasNoRecord (bytes ++ more)

-- the record at the front of bytes was added to a list, or there is none yet, or none ever
abbrev pub IsFront : List ℕ → List U2 → List U2 → FrontRecord → Type 0
IsFront bytes old new (front.Record size) = AddsFront bytes old new size
IsFront bytes old new front.Waits = HasNoRecord bytes × (new ≡ old)
IsFront bytes old new front.Foreign = IsForeign bytes × (new ≡ old)

-- the records at the front of bytes were added to a list, up to a place where none begins
pub record Takes (bytes : List ℕ) (old new : List U2) (size : ℕ) : Type 0 where
  pub reached : RecordsEndAt bytes size
  pub added : new ≡ old ++ reached.entries
  pub none : HasNoRecord (drop size bytes)

-- bytes that have come are these records, and these wait
pub record IsSplit (bytes : List ℕ) (entries : List U2) (rest : List ℕ) : Type 0 where
  pub each : All IsRecord entries
  pub split : bytes ≡ joined_text entries ++ rest
  pub none : HasNoRecord rest

-- a piece came behind bytes that waited, these records were taken, and they gave these lines
pub record Feeds (line : Joined → List ℕ) (waited : List ℕ) (held : Option U2Event) (piece rest : List ℕ)
    (now : Option U2Event) (lines : List ℕ) : Type 0 where
  pub entries : List U2
  pub taken : IsSplit (waited ++ piece) entries rest
  pub waits : now ≡ held_after held entries
  pub written : lines ≡ lines_of line (completed_by held entries)

-- all bytes that came so far are these records and what waits, and the lines are those of the events so far
pub record HasCome (line : Joined → List ℕ) (bytes rest : List ℕ) (held : Option U2Event) (written : List ℕ) : Type 0 where
  pub entries : List U2
  pub split : IsSplit bytes entries rest
  pub waits : held ≡ held_after None entries
  pub lines : written ≡ lines_of line (completed_by None entries)
