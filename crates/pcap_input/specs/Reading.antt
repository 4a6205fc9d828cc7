-- What reading several records, one after another, knows of the bytes that were left.
--
-- Some bytes were taken off the front, some records were given, and whatever follows those bytes, the
-- capture (`Savefile`) goes on as it does for the reader after these records. Where reading ended, the
-- records that are whole within the bytes taken are those that were given.
-- To try it on: where a record of 5 bytes and then 3 bytes of a header are left, reading gives that
-- record and then Truncated; 24 bytes were taken, and the one record is all that is whole within them.
use Rattle.std.specs.Prelude.{◌≡◌, ℕ, List, ◌++◌, Option, Some, None, ⊤}
use Rattle.edge_io.specs.Told.{before}
use Rattle.pcap_input.specs.declared.capture.Record.{Record}
use Rattle.pcap_input.specs.declared.capture.CaptureFault.{CaptureFault}
use Rattle.pcap_input.specs.declared.capture.CaptureFault.TheVariants as fault
use Rattle.pcap_input.specs.Cut.{Cut, Ending, Refused, with_front}
use Rattle.pcap_input.specs.Savefile.{records_left}
use Rattle.pcap_input.specs.Reader.{Reading}

-- the records and the ending that these bytes hold for a reader
abbrev pub cut_for : Reading → List ℕ → Cut Record CaptureFault
cut_for reader rest = records_left reader.head reader.number reader.at rest

-- The first reader has become the second, and has not refused: it took some bytes and gave these
-- records; whatever follows, the rest of the records and the ending are the second one's.
pub record HasRead (first reader : Reading) (given : List Record) (left_first left : Option (List ℕ)) : Type 0 where
  pub fresh : reader.refused ≡ None
  pub head : reader.head ≡ first.head
  pub taken : List ℕ
  pub took : left_first ≡ before taken left
  pub cut : (more : List ℕ) → cut_for first (taken ++ more) ≡ with_front given (cut_for reader more)

-- some bytes were taken, and the records that are whole within them are these
pub record AreWhole (first : Reading) (given : List Record) (left_first left : Option (List ℕ)) : Type 0 where
  pub taken : List ℕ
  pub took : left_first ≡ before taken left
  pub are : (cut_for first taken).records ≡ given

-- where the bytes that were left are told, these are all their records, and this is their ending
abbrev pub EndsWith : Reading → List Record → Option (List ℕ) → Ending CaptureFault → Type 0
EndsWith first given left_first ending = (whole : List ℕ) → left_first ≡ Some whole
    → cut_for first whole ≡ record { records = given; ending = ending }

-- a refusal is the ending of what was left, unless the host failed or memory lacked
abbrev pub IsRefusedBy : Reading → List Record → Option (List ℕ) → CaptureFault → Type 0
IsRefusedBy first given left_first fault.Failed = ⊤
IsRefusedBy first given left_first fault.NoMemory = ⊤
IsRefusedBy first given left_first why = EndsWith first given left_first (Refused why)
