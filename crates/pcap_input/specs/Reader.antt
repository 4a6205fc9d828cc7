-- What a reader of a capture stands for, and how its answers follow from the bytes of the file.
--
-- A reader has a head, has given some records, and is at the place after them; or it has
-- refused, and answers that refusal from then on. Its answers are those of the libpcap savefile
-- format (`Savefile`), but that memory may lack and the host may fail.
-- To try it on: a reader that has given no record is at 24; where a record of 5 bytes is
-- there, it gives that record, has taken 21 bytes and is at 45.
use Rattle.std.specs.Prelude.{◌≡◌, ℕ, ◌+◌, ◌≤◌, List, ◌++◌, length, Option, Some, None, Result, Ok, Err, ⊤}
use Rattle.std.specs.FinMap.{get}
use Rattle.edge_io.specs.Told.{before}
use Rattle.edge_io.specs.Files.{Files, IsOpened}
use Rattle.pcap_input.specs.declared.capture.CaptureHead.{CaptureHead}
use Rattle.pcap_input.specs.declared.capture.Record.{Record}
use Rattle.pcap_input.specs.declared.capture.CaptureFault.{CaptureFault}
use Rattle.pcap_input.specs.declared.capture.CaptureFault.TheVariants as fault
use Rattle.pcap_input.specs.Cut.{Ending, Clean, Refused}
use Rattle.pcap_input.specs.Savefile.{file_header, record_header, head_of, Next, Ends, Follows, next_of, place_after}

-- a reader: its head, how many records it has given, where it is, and what it has refused
pub record Reading : Type 0 where
  pub head : CaptureHead
  pub number : ℕ
  pub at : ℕ
  pub refused : Option CaptureFault

-- a reader that has given `number` records and is at this place
abbrev pub reader_at : CaptureHead → ℕ → ℕ → Reading
reader_at head number place = record { head = head; number = number; at = place; refused = None }

-- a reader that has given no record
abbrev pub new_reader : CaptureHead → Reading
new_reader head = reader_at head 0 file_header

-- the reader after a record, or where it was
abbrev pub after_next : Reading → Option Record → Reading
after_next reader None = reader
after_next reader (Some given) =
    record { head = reader.head; number = reader.number + 1; at = place_after reader.at given; refused = reader.refused }

-- the reader with a refusal, which it keeps
abbrev pub after_refusal : Reading → CaptureFault → Reading
after_refusal reader why = record { head = reader.head; number = reader.number; at = reader.at; refused = Some why }

-- the reader that a head gives
abbrev pub reader_of : Result CaptureHead CaptureFault → Result Reading CaptureFault
reader_of (Ok head) = Ok (new_reader head)
reader_of (Err why) = Err why

-- the answer is what the head says, unless the host failed
abbrev pub Opens : Result Reading CaptureFault → Result CaptureHead CaptureFault → Type 0
Opens (Ok reader) head = reader_of head ≡ Ok reader
Opens (Err fault.Failed) head = ⊤
Opens (Err why) head = head ≡ Err why

-- contents are told, and these bytes are what the name holds
abbrev pub Tells : Option Files → List ℕ → List ℕ → Type 0
Tells None name bytes = ⊥
Tells (Some files) name bytes = get files name ≡ Some bytes

-- at most 24 bytes were taken off the front of what the name held, and the answer is theirs
pub record TakesHead (contents : Option Files) (name : List ℕ) (answer : Result Reading CaptureFault)
    (left : Option (List ℕ)) : Type 0 where
  pub whole : Option (List ℕ)
  pub opened : IsOpened contents name whole
  pub taken : List ℕ
  pub took : whole ≡ before taken left
  pub few : length taken ≤ file_header
  pub answers : Opens answer (head_of taken)

-- the faults of a file header, and that the host failed
abbrev pub IsOfHead : CaptureFault → Type 0
IsOfHead fault.NotPcap = ⊤
IsOfHead (fault.LinkType link_type) = ⊤
IsOfHead (fault.Truncated place) = place ≡ 0
IsOfHead (fault.TooLong place len) = ⊥
IsOfHead fault.TooMany = ⊥
IsOfHead fault.Failed = ⊤
IsOfHead fault.NoMemory = ⊥

-- the answer is what comes next, unless memory lacked or the host failed
abbrev pub Gives : Result (Option Record) CaptureFault → Next → Type 0
Gives (Ok None) next = next ≡ Ends Clean
Gives (Ok (Some given)) next = (rest : List ℕ) × (next ≡ Follows given rest)
Gives (Err fault.NoMemory) next = ⊤
Gives (Err fault.Failed) next = ⊤
Gives (Err why) next = next ≡ Ends (Refused why)

-- exactly the bytes of the record were taken: whatever follows them, that record comes first
pub record TakesRecord (reader : Reading) (given : Record) (old new : Option (List ℕ)) : Type 0 where
  pub taken : List ℕ
  pub took : old ≡ before taken new
  pub size : length taken ≡ record_header + length given.bytes
  pub goes : (more : List ℕ) → next_of reader.head reader.number reader.at (taken ++ more) ≡ Follows given more

-- these bytes alone show the refusal; where memory lacked or the host failed, they hold no record
abbrev pub Shows : CaptureFault → Next → Type 0
Shows fault.NoMemory next = (ending : Ending CaptureFault) × (next ≡ Ends ending)
Shows fault.Failed next = (ending : Ending CaptureFault) × (next ≡ Ends ending)
Shows why next = next ≡ Ends (Refused why)

-- no record is whole within the bytes that were taken, and they show the refusal
pub record TakesNone (reader : Reading) (why : CaptureFault) (old new : Option (List ℕ)) : Type 0 where
  pub taken : List ℕ
  pub took : old ≡ before taken new
  pub shows : Shows why (next_of reader.head reader.number reader.at taken)
