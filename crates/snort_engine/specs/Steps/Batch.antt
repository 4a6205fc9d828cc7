-- What reading a batch of records knows of the capture.
--
-- Reading goes on from a place: the reader, the records that were read since the last batch was shown,
-- and what is left of the capture. It reaches a further place, from which more records may be read, or
-- the capture's end, or a fault after the records that were read; these are whole, whatever comes.
-- To try it on: of three records and 3 bytes of a fourth's header, reading reaches three places and then
-- Truncated, and the three records are all that are whole within the bytes taken.
use Rattle.std.specs.Prelude.{◌≡◌, ◌≢◌, ◌<◌, ◌≤◌, ◌⊎◌, ℕ, Bool, true, false, List, ◌++◌, Option, Some, Result, Ok, Err}
use Rattle.edge_io.specs.Told.{Rose}
use Rattle.edge_io.specs.declared.host.Host.{Ghosts as HostOf}
use Rattle.record_jobs.specs.Way.{LinkedRecord}
use Rattle.snort_engine.specs.declared.reader.RecordReader.{RecordReader}
use Rattle.pcapng_input.specs.declared.fault.ReadFault.{ReadFault}
use Rattle.pcapng_input.specs.declared.fault.ReadFault.TheVariants as fault
use Rattle.pcap_input.specs.Cut.{Clean}
use Rattle.snort_engine.specs.Steps.Reader.{IsFresh, HasRead, AreWhole, EndsWith, IsRefusedBy, refusal_of}
use Rattle.snort_engine.specs.declared.batch.BatchEnd.{BatchEnd}
use Rattle.snort_engine.specs.declared.batch.BatchEnd.TheVariants.{More, End, Fault}
use Rattle.snort_engine.specs.declared.stop.RunStop.{RunStop}
use Rattle.snort_engine.specs.declared.stop.RunStop.TheVariants.{Capture}

-- the place of a reading: the reader, the records of the batch so far, and what is left, where it is told
pub record Place : Type 0 where
  pub reader : RecordReader
  pub records : List LinkedRecord
  pub left : Option (List ℕ)

-- the place of a reading, by what a host has left
abbrev pub place : {H : Type 0} → HostOf H → RecordReader → List LinkedRecord → H → Place
place h reader records host = record { reader = reader; records = records; left = h.left host }

-- reading was at a reader after these records, and went no record further
pub record HasStopped (first : RecordReader) (given : List LinkedRecord) (left_first left : Option (List ℕ)) : Type 0 where
  pub following : RecordReader
  pub still : Option (List ℕ)
  pub read : HasRead first following given left_first still
  pub whole : AreWhole first given left_first left

-- the first reader gave these records, and what it reached after them
abbrev pub Reaches : RecordReader → List LinkedRecord → Option (List ℕ) → Place → BatchEnd → Type 0
Reaches first given left_first now More = HasRead first now.reader given left_first now.left
Reaches first given left_first now End =
    HasStopped first given left_first now.left × EndsWith first given left_first Clean
Reaches first given left_first now (Fault why) =
    HasStopped first given left_first now.left × IsRefusedBy first given left_first why

-- whatever was read before a place, reading went on from it to what it reached
abbrev pub ReadsOn : Place → Place → BatchEnd → Type 0
ReadsOn old new reached = (first : RecordReader) (shown : List LinkedRecord) (left_first : Option (List ℕ))
    → HasRead first old.reader (shown ++ old.records) left_first old.left
    → Reaches first (shown ++ new.records) left_first new reached

-- of at most `most` records a batch has all where more may follow, and fewer elsewhere
pub record IsFilled (most count : ℕ) (reached : BatchEnd) : Type 0 where
  pub few : count ≤ most
  pub full : reached ≡ More → count ≡ most
  pub fewer : reached ≢ More → count < most

-- a fault is what the reader refused; or memory was lacking for a record that the reader wasn't asked for
abbrev pub IsFaultOf : RecordReader → ReadFault → Type 0
IsFaultOf reader why = (refusal_of reader ≡ Some why) ⊎ ((why ≡ fault.NoMemory) × IsFresh reader)

-- what was reached has its reason: a fault is the reader's own, or want of memory; it is one of the host only where its
-- count rose, and elsewhere the count stays
pub record HasReason (reader : RecordReader) (old new : ℕ) (reached : BatchEnd) : Type 0 where
  pub own : (why : ReadFault) → reached ≡ Fault why → IsFaultOf reader why
  pub failed : reached ≡ Fault fault.Failed → Rose old new
  pub quiet : reached ≢ Fault fault.Failed → new ≡ old

-- reading stopped for want of memory
abbrev pub lacks_memory : BatchEnd → Bool
lacks_memory (Fault fault.NoMemory) = true
lacks_memory reached = false

-- whether more records may follow, or how what was reached stops a run
abbrev pub more_of : BatchEnd → Result Bool RunStop
more_of More = Ok true
more_of End = Ok false
more_of (Fault why) = Err (Capture why)
