-- The steps of reading a batch, one lemma for each answer of `next`.
use Rattle.std.proofs.Common.{◌≡◌, ℕ, zero, suc, ◌+◌, ◌<◌, ◌≤◌, Bool, true, List, [], ◌∷◌, ◌++◌, Option, Ok, Err, refl, sym, ap, subst, append_assoc, ◌∙◌, arith}
use Rattle.record_jobs.specs.Way.{LinkedRecord}
use Rattle.alert_lines.specs.declared.fault.WriteFault.{WriteFault}
use Rattle.alert_lines.specs.declared.fault.WriteFault.TheVariants as write
use Rattle.pcapng_input.specs.declared.fault.ReadFault.{ReadFault}
use Rattle.pcapng_input.specs.declared.fault.ReadFault.TheVariants as fault
use Rattle.snort_engine.specs.declared.reader.RecordReader.{RecordReader}
use Rattle.pcap_input.specs.Cut.{Clean}
use Rattle.snort_engine.specs.Steps.Reader.{HasRead, AreWhole, EndsWith, IsRefusedBy}
use Rattle.snort_engine.proofs.Records.Reading.{reading-joined, reading-whole, reading-stopped, reading-refused, reading-ended}
use Rattle.snort_engine.specs.declared.batch.BatchEnd.{BatchEnd}
use Rattle.snort_engine.specs.declared.batch.BatchEnd.TheVariants.{More, End, Fault}
use Rattle.snort_engine.specs.Steps.Batch.{Place, HasStopped, Reaches, ReadsOn, more_of}
use Rattle.snort_engine.specs.Steps.Stop.{is_whole, write_stop}

-- reading went no record further than what was read so far
still_there : (first : RecordReader) (given : List LinkedRecord) (left_first : Option (List ℕ)) (reader : RecordReader)
    (left : Option (List ℕ))
    → HasRead first reader given left_first left
    → HasStopped first given left_first left
still_there first given left_first reader left read = record {
  following = reader;
  still = left;
  read = read;
  whole = reading-whole first reader given left_first left read;
}

-- nothing was read yet
pub reads_nothing : (old : Place) → ReadsOn old old More
reads_nothing old = λ first shown left_first read. read

-- reading went on, and on
pub reads_further : (old middle new : Place) (reached : BatchEnd) → ReadsOn old middle More → ReadsOn middle new reached → ReadsOn old new reached
reads_further old middle new reached one two = λ first shown left_first read. two first shown left_first (one first shown left_first read)

-- a record was given
pub reads_record : (old new : Place) (given : LinkedRecord) → HasRead old.reader new.reader (given ∷ []) old.left new.left → new.records ≡ old.records ++ given ∷ [] → ReadsOn old new More
reads_record old new given reads more = λ first shown left_first read.
    let own : (shown ++ old.records) ++ given ∷ [] ≡ shown ++ new.records = append_assoc shown old.records (given ∷ []) ∙ ap (λ (x : List LinkedRecord). shown ++ x) (sym more) in
    subst (λ (records : List LinkedRecord). HasRead first new.reader records left_first new.left) own
    (reading-joined first old.reader new.reader (shown ++ old.records) (given ∷ []) left_first old.left new.left read reads)

-- no record was left
pub reads_end : (old new : Place) → new.records ≡ old.records → AreWhole old.reader [] old.left new.left → EndsWith old.reader [] old.left Clean → ReadsOn old new End
reads_end old new same whole ends = λ first shown left_first read.
    let given = shown ++ old.records in
    let stopped : HasStopped first given left_first new.left =
    record { following = old.reader; still = old.left; read = read; whole = reading-stopped first old.reader given left_first old.left new.left read whole } in
    let P : List LinkedRecord → Type 0 = λ records. Reaches first (shown ++ records) left_first (let place : Place = record { reader = new.reader; records = records; left = new.left } in place) End in
    subst P (sym same) (stopped, reading-ended first old.reader given left_first old.left Clean read ends)

-- the capture was refused, or could not be read on
pub reads_fault : (old new : Place) (why : ReadFault) → new.records ≡ old.records → AreWhole old.reader [] old.left new.left → IsRefusedBy old.reader [] old.left why → ReadsOn old new (Fault why)
reads_fault old new why same whole refused = λ first shown left_first read.
    let given = shown ++ old.records in
    let stopped : HasStopped first given left_first new.left =
    record {
      following = old.reader;
      still = old.left;
      read = read;
      whole = reading-stopped first old.reader given left_first old.left new.left read whole;
    } in
    let P : List LinkedRecord → Type 0 = λ records.
    Reaches first (shown ++ records) left_first
    (let place : Place = record { reader = new.reader; records = records; left = new.left } in place)
    (Fault why) in
    subst P (sym same) (stopped, reading-refused first old.reader given why left_first old.left read refused)

-- memory was lacking for a record more, and nothing was taken
pub reads_lacking : (old new : Place) → new.records ≡ old.records → new.left ≡ old.left → ReadsOn old new (Fault fault.NoMemory)
reads_lacking old new same still = λ first shown left_first read.
    let P : List LinkedRecord → Type 0 = λ records.
    Reaches first (shown ++ records) left_first
    (let place : Place = record { reader = new.reader; records = records; left = old.left } in place)
    (Fault fault.NoMemory) in
    let Q : Option (List ℕ) → Type 0 = λ left.
    Reaches first (shown ++ new.records) left_first
    (let place : Place = record { reader = new.reader; records = new.records; left = left } in place)
    (Fault fault.NoMemory) in
    subst Q (sym still) (subst P (sym same) (still_there first (shown ++ old.records) left_first old.reader old.left read, tt))

-- ---- what was reached, as an answer

-- showing lines leaves nothing to close where it stops
pub showing_cuts : (why : WriteFault) → is_whole {A = Bool} (Err (write_stop why)) ≡ true → ⊥
showing_cuts write.Unwritten whole = cc
showing_cuts write.NoMemory whole = cc

-- more may follow only where a batch is full
pub more_reached : (reached : BatchEnd) → more_of reached ≡ Ok true → reached ≡ More
more_reached More is = refl
more_reached End is = absurd cc
more_reached (Fault why) is = absurd cc

-- after a batch no more records were shown than a capture may have
pub within_batch : (shown number count most : ℕ) → shown ≤ number → number ≤ most → (0 < count → number + count ≤ most) → shown + count ≤ most
within_batch shown number zero most following within more = omega arith
within_batch shown number (suc count) most following within more = let most_read = more (omega arith) in omega (arith, most_read)
