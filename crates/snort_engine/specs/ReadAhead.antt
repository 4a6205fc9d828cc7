-- How far a run reads ahead of what it writes: one batch of records.
--
-- It goes by the course. Where the course stops, nothing is opened and no line is written. Where it
-- goes on with a plan for a file, that capture is open at the end and has lost some bytes: of the records
-- that are whole within these the lines of all batches before the one that the last of them is in were written, and
-- maybe more. A run that is cut off before has opened nothing, or has nothing open, and has written no line. Where
-- the capture is made, nothing is opened or read, and so no fault of reading ends the run; so it is where the
-- lines of a Unified2 file are written, which was read before.
-- Under a limit no more records than it lets are whole within the bytes that were taken. After a write fault in the
-- lines of a batch no record is read after it, since its lines would be due then; and it was read whole, unless the
-- capture was read to its end or the host failed.
-- To try it on: where 600 records with a line each were taken, at least the lines of the first 512
-- are in the alerts; under `-n 5` at most five of them were taken. Of 1000 records with a line each, where the
-- write of the 300th fails, 512 were taken: the batch whose lines were written, and the one whose lines were offered.
-- Of 300, where the write of the 200th fails, 256 were taken, and not the 44 that were left.
use Rattle.std.specs.Prelude.{◌≡◌, ℕ, ◌-◌, ◌*◌, ◌/◌, List, [], ◌++◌, length, take, Option, Some, None, ◌⊎◌}
use Rattle.std.specs.FinMap.{get}
use Rattle.edge_io.specs.Told.{grown, Rose}
use Rattle.edge_io.specs.Files.{Files}
use Rattle.snort_engine.specs.declared.status.Status.{Status}
use Rattle.snort_engine.specs.declared.status.Status.TheVariants as status
use Rattle.record_jobs.specs.Way.{LinkedRecord}
use Rattle.snort_engine.specs.Course.{Plan, Way, Stops, Goes, Makes, Lists, Course}
use Rattle.pcap_input.specs.Cut.{AreWithin}
use Rattle.snort_engine.specs.Records.{records_in, records_of}
use Rattle.snort_engine.specs.Trace.{Open}
use Rattle.snort_engine.specs.Lines.{lines}
use Rattle.snort_engine.specs.Outside.{Work}

-- how many records are read before their lines are offered
abbrev pub batch : ℕ
batch = 256

-- as many records as some batches have
abbrev pub AreBatches : List LinkedRecord → Type 0
AreBatches records = (count : ℕ) × (length records ≡ count * batch)

-- of a capture whose rest follows the bytes taken, whole batches were read; or all records; or the host failed
abbrev pub IsReadInBatches : Plan → List ℕ → List ℕ → Type 0 → Type 0
IsReadInBatches plan taken rest failed =
    AreBatches (records_of plan taken).records
    ⊎ (((records_of plan (taken ++ rest)).records ≡ (records_of plan taken).records) ⊎ failed)

-- how many records lie before the batch that the last one of `count` is in
abbrev pub before_last_batch : ℕ → ℕ
before_last_batch count = (count - 1) / batch * batch

-- the records of all batches before the one that the last record is in
abbrev pub earlier_batches : List LinkedRecord → List LinkedRecord
earlier_batches records = take (before_last_batch (length records)) records

-- of the records that are whole within these first bytes of the capture, the lines of all batches before the last one's
unfoldable pub lines_due : Plan → List ℕ → List ℕ
lines_due plan taken = lines plan [] (earlier_batches (records_of plan taken).records) Open

-- no capture was opened, and no line was written
pub record IsUntouched (before after : Work) : Type 0 where
  pub left : after.left ≡ before.left
  pub opens : after.opens ≡ before.opens
  pub alerts : after.alerts ≡ before.alerts

-- no capture is open, and no line was written
pub record IsShut (before after : Work) : Type 0 where
  pub left : after.left ≡ None
  pub alerts : after.alerts ≡ before.alerts

-- the capture that holds these bytes is open, and the lines due of those that were taken were written
pub record IsReadAhead (plan : Plan) (held : Option (List ℕ)) (before after : Work) (ended : Status) : Type 0 where
  pub taken : List ℕ
  pub rest : List ℕ
  pub of : held ≡ Some (taken ++ rest)
  pub still : after.left ≡ Some rest
  pub more : List ℕ
  pub wrote : after.alerts ≡ grown before.alerts (lines_due plan taken ++ more)
  -- under a limit no record beyond it was read, the records being counted without it
  pub within : AreWithin plan.limit (records_in None taken).records
  -- nothing was read after a write fault
  pub in_batches : ended ≡ status.WriteFault
      → IsReadInBatches plan taken rest (Rose before.host_faults after.host_faults)

-- the host was left alone, and no fault of it ends the run
pub record IsApart (before after : Work) (ended : Status) : Type 0 where
  pub left : after.left ≡ before.left
  pub opens : after.opens ≡ before.opens
  pub no_host_fault : ¬ (ended ≡ status.HostFault)

-- the statuses of a run that may be cut off before a capture is open
abbrev pub IsCutStatus : Status → Type 0
IsCutStatus ended = (ended ≡ status.HostFault) ⊎ (ended ≡ status.NoMemory)

-- how far was read ahead, by the way of the course; no other status comes without an open capture
abbrev pub ReadsAheadOn : Files → Way → Work → Work → Status → Type 0
ReadsAheadOn files (Stops message status_then) before after ended =
    IsUntouched before after × ((ended ≡ status_then) ⊎ IsCutStatus ended)
ReadsAheadOn files (Goes plan) before after ended =
    IsReadAhead plan (get files plan.source) before after ended
    ⊎ (IsCutStatus ended × (IsUntouched before after ⊎ IsShut before after))
ReadsAheadOn files (Makes plan seed count) before after ended = IsApart before after ended
ReadsAheadOn files (Lists lines) before after ended = IsApart before after ended

-- how far was read ahead on a course
unfoldable pub ReadsAhead : Files → Course → Work → Work → Status → Type 0
ReadsAhead files course before after ended = ReadsAheadOn files course.way before after ended
