-- What a reader of a capture stands for, in either format, and what reading several records, one after
-- another, knows of the bytes that were left.
--
-- A reader has the records that the bytes left hold for it. It opens after the first bytes of a capture, and
-- whatever follows these, the records of the whole are then those that it has yet to give. Reading takes
-- some bytes and gives some records, and whatever follows those bytes, what the first reader had is these
-- records and then what the reader after them has. Where reading ends, the records that are whole within
-- the bytes taken are those that were given.
-- To try it on: after a section header, an interface and one packet, and 3 bytes of a further block, the
-- first reader gives that packet and then Truncated; the bytes of all three were taken, and those 3, and the
-- one record is all that is whole within them.
use Rattle.std.specs.Prelude.{◌≡◌, ℕ, ◌+◌, ◌<◌, ◌≤◌, List, [], ◌∷◌, ◌++◌, Option, Some, None, option_map, Result, Ok, Err, ⊤, ◌⊎◌}
use Rattle.edge_io.specs.Told.{before, one_more}
use Rattle.edge_io.specs.Files.{Files}
use Rattle.std.specs.FinMap.{get}
use Rattle.pcap_input.specs.Savefile.{most_records}
use Rattle.pcap_input.specs.Reading.{cut_for}
use Rattle.pcapng_input.specs.Blocks.{records_left}
use Rattle.record_jobs.specs.Way.{LinkedRecord}
use Rattle.pcapng_input.specs.declared.fault.ReadFault.{ReadFault}
use Rattle.pcapng_input.specs.declared.fault.ReadFault.TheVariants as fault
use Rattle.snort_engine.specs.declared.reader.RecordReader.{RecordReader}
use Rattle.snort_engine.specs.declared.reader.RecordReader.TheVariants.{Savefile, Blocks}
use Rattle.pcap_input.specs.Cut.{Ending, Clean, Refused, first_records, with_front}
use Rattle.pcapng_input.specs.Faults.{of_savefile, of_blocks}
use Rattle.snort_engine.specs.Records.{Recording, recording_of, recording_of_blocks}
use Rattle.snort_engine.specs.Records.{records_in, IsOther, IsToldOther}

-- ---- a reader

-- a reader has refused nothing
abbrev pub IsFresh : RecordReader → Type 0
IsFresh (Savefile reader) = reader.refused ≡ None
IsFresh (Blocks reader) = reader.refused ≡ None

-- what a reader has refused
abbrev pub refusal_of : RecordReader → Option ReadFault
refusal_of (Savefile reader) = option_map of_savefile reader.refused
refusal_of (Blocks reader) = option_map of_blocks reader.refused

-- how many records it has given
abbrev pub number_of : RecordReader → ℕ
number_of (Savefile reader) = reader.number
number_of (Blocks reader) = reader.walk.number

-- what these bytes hold for a reader
unfoldable pub recording_for : RecordReader → List ℕ → Recording
recording_for (Savefile reader) rest = recording_of reader.head.link (cut_for reader rest)
recording_for (Blocks reader) rest = recording_of_blocks (records_left reader.walk rest)

-- a reader goes on, one record further
pub record IsNext (reader next : RecordReader) : Type 0 where
  pub number : number_of next ≡ number_of reader + 1
  pub within : number_of reader < most_records

-- a reader may be asked for records: it has refused nothing, and has given no more of them than a capture may have
pub record IsReadable (reader : RecordReader) : Type 0 where
  pub fresh : IsFresh reader
  pub within : number_of reader ≤ most_records

-- a reader has given `count` records more, and may be asked for others
pub record HasGoneOn (old new : RecordReader) (count : ℕ) : Type 0 where
  pub number : number_of new ≡ number_of old + count
  pub readable : IsReadable new

-- ---- reading

-- the first reader has become the second, and has not refused: it took some bytes and gave these records;
-- whatever follows, the rest of the records and the ending are the second one's
pub record HasRead (first reader : RecordReader) (given : List LinkedRecord) (left_first left : Option (List ℕ)) : Type 0 where
  pub fresh : IsFresh reader
  pub taken : List ℕ
  pub took : left_first ≡ before taken left
  pub goes : (more : List ℕ) → recording_for first (taken ++ more) ≡ with_front given (recording_for reader more)

-- some bytes were taken, and the records that are whole within them are these
pub record AreWhole (first : RecordReader) (given : List LinkedRecord) (left_first left : Option (List ℕ)) : Type 0 where
  pub taken : List ℕ
  pub took : left_first ≡ before taken left
  pub are : (recording_for first taken).records ≡ given

-- where the bytes that were left are told, these are all their records, and this is their ending
abbrev pub EndsWith : RecordReader → List LinkedRecord → Option (List ℕ) → Ending ReadFault → Type 0
EndsWith first given left_first ending =
    (whole : List ℕ) → left_first ≡ Some whole → recording_for first whole ≡ record { records = given; ending = ending }

-- a refusal is the ending of what was left, unless the host failed or memory lacked
abbrev pub IsRefusedBy : RecordReader → List LinkedRecord → Option (List ℕ) → ReadFault → Type 0
IsRefusedBy first given left_first fault.Failed = ⊤
IsRefusedBy first given left_first fault.NoMemory = ⊤
IsRefusedBy first given left_first why = EndsWith first given left_first (Refused why)

-- what an answer says of the reader before and after it, and of what was left: a record and no byte after it
-- was taken; or no further record is whole within the bytes taken
abbrev pub Gives : RecordReader → RecordReader → Result (Option LinkedRecord) ReadFault
    → Option (List ℕ) → Option (List ℕ) → Type 0
Gives old new (Ok (Some given)) left_old left_new = HasRead old new (given ∷ []) left_old left_new × IsNext old new
Gives old new (Ok None) left_old left_new = AreWhole old [] left_old left_new × EndsWith old [] left_old Clean
Gives old new (Err why) left_old left_new = AreWhole old [] left_old left_new × IsRefusedBy old [] left_old why

-- ---- opening

-- whatever follows these first bytes of a capture, and whatever the limit, its records are those that the
-- reader has yet to give
abbrev pub BeginsAfter : List ℕ → RecordReader → Type 0
BeginsAfter front reader =
    (limit : Option ℕ) (more : List ℕ) → records_in limit (front ++ more) ≡ first_records limit (recording_for reader more)

-- the capture that holds these bytes was opened, and the reader begins after those that were taken
pub record IsBegun (held : Option (List ℕ)) (reader : RecordReader) (left : Option (List ℕ)) : Type 0 where
  pub front : List ℕ
  pub rest : List ℕ
  pub of : held ≡ Some (front ++ rest)
  pub still : left ≡ Some rest
  pub begins : BeginsAfter front reader

-- a capture was opened, and no record is whole within the bytes that were taken
pub record IsBarelyOpen (held left : Option (List ℕ)) : Type 0 where
  pub taken : List ℕ
  pub rest : List ℕ
  pub of : held ≡ Some (taken ++ rest)
  pub still : left ≡ Some rest
  pub none : (limit : Option ℕ) → (records_in limit taken).records ≡ []

-- the capture has no record, and this ending
abbrev pub IsRefusedAtOnce : Option (List ℕ) → ReadFault → Type 0
IsRefusedAtOnce held why =
    (bytes : List ℕ) → held ≡ Some bytes → (limit : Option ℕ)
    → records_in limit bytes ≡ record { records = []; ending = Refused why }

-- a refusal is the capture's ending, unless the host failed or memory lacked
abbrev pub IsRefusedOpening : Option (List ℕ) → ReadFault → Type 0
IsRefusedOpening held fault.Failed = ⊤
IsRefusedOpening held fault.NoMemory = ⊤
IsRefusedOpening held why = IsRefusedAtOnce held why

-- what the opening of a capture that holds these bytes, if it is there, answers, and what is left of it then
abbrev pub Opens : Option (List ℕ) → Result RecordReader ReadFault → Option (List ℕ) → Type 0
Opens held (Ok reader) left = IsBegun held reader left
Opens held (Err why) left = IsRefusedOpening held why × (IsBarelyOpen held left ⊎ ((why ≡ fault.Failed) × (left ≡ None)))

-- the file of this name begins as no savefile does, or the files aren't told
abbrev pub MayBeOther : Option Files → List ℕ → Type 0
MayBeOther None name = ⊤
MayBeOther (Some files) name = IsOther (get files name)

-- how often the file of this name was opened: once, and a second time exactly where it begins as no savefile
-- does, unless the host failed at the first
abbrev pub OpensSo : Option Files → List ℕ → Type 0 → ℕ → ℕ → Type 0
OpensSo told name failed old new =
    ((new ≡ one_more old) × (IsToldOther told name → failed))
    ⊎ ((new ≡ one_more (one_more old)) × MayBeOther told name)
