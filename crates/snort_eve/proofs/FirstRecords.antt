-- What the readers of captures answer is the first record of the capture's bytes, or why there is none.
use Rattle.std.proofs.Common.{◌≡◌, ◌∙◌, ℕ, inl, inr, List, [], ◌∷◌, Option, None, Some, Result, Ok, Err, drop, refl, sym, subst, ap, arith}
use Rattle.std.specs.Prelude.{◌⊎◌, IsSome, IsErrOf}
use Rattle.std.specs.FinMap.{get}
use Rattle.edge_io.specs.Files.{Files}
use Rattle.edge_io.specs.declared.moment.Moment.{Moment}
use Rattle.pcap_input.specs.Cut.{Cut, Clean, Refused, first_records, no_more, with_first}
use Rattle.pcap_input.specs.Savefile.{Next, Ends, Follows, head_of, next_of, records_left, place_after}
use Rattle.pcap_input.specs.Reader.{Reading, Gives, Opens, TakesHead, new_reader}
use Rattle.pcap_input.specs.declared.capture.CaptureHead.{CaptureHead}
use Rattle.pcap_input.specs.declared.capture.CaptureFault.{CaptureFault}
use Rattle.pcap_input.specs.declared.capture.CaptureFault.TheVariants as savefile_fault
use Rattle.pcap_input.specs.declared.capture.Record.{Record}
use Rattle.pcap_input.proofs.Cuts.{first_records-below, first_records-enough}
use Rattle.pcap_input.proofs.Endings.{savefile-ok, savefile-err}
use Rattle.pcap_input.proofs.Records.{records_left-ends, records_left-follows}
use Rattle.pcapng_input.specs.Blocks.{ng_records}
use Rattle.pcapng_input.specs.Whole.{IsHeld}
use Rattle.pcapng_input.specs.declared.capture.NgRecord.{NgRecord}
use Rattle.pcapng_input.specs.declared.capture.NgFault.{NgFault}
use Rattle.pcapng_input.specs.declared.capture.NgFault.TheVariants as blocks_fault
use Rattle.pcapng_input.specs.declared.fault.ReadFault.TheVariants as fault
use Rattle.pcapng_input.specs.declared.whole.Found.{Found}
use Rattle.snort_eve.specs.declared.capture.CaptureStop.{CaptureStop}
use Rattle.snort_eve.specs.declared.capture.CaptureStop.TheVariants as stop
use Rattle.snort_eve.specs.Captures.{GivesFirst, Meets, first_found, first_moment, first_next, first_of_blocks, first_of_savefile, stop_of_blocks, stop_of_savefile}

-- ---- a savefile

-- what stands next for a reader is what it answers
pub next-refused : (why : CaptureFault) (next : Next) → Gives (Err why) next → Meets (Err (stop_of_savefile why)) (first_next next)
next-refused savefile_fault.NotPcap next is = ap first_next is
next-refused (savefile_fault.LinkType link) next is = ap first_next is
next-refused (savefile_fault.Truncated at) next is = ap first_next is
next-refused (savefile_fault.TooLong at len) next is = ap first_next is
next-refused savefile_fault.TooMany next is = ap first_next is
next-refused savefile_fault.Failed next is = tt
next-refused savefile_fault.NoMemory next is = tt

-- the first record is the one that stands next after the head
first_left : (head : CaptureHead) (rest : List ℕ) (next : Next) → next_of head 0 24 rest ≡ next
    → first_of_savefile (first_records (Some 1) (records_left head 0 24 rest)) ≡ first_next next
first_left head rest (Ends ending) is =
    ap (λ (c : Cut Record CaptureFault). first_of_savefile (first_records (Some 1) c)) (records_left-ends head 0 24 rest ending is)
    ∙ ap first_of_savefile (first_records-below 1 (no_more ending) (omega arith))
first_left head rest (Follows first more) is =
    let later : Cut Record CaptureFault = records_left head 1 (place_after 24 first) more in
    ap (λ (c : Cut Record CaptureFault). first_of_savefile (first_records (Some 1) c)) (records_left-follows head 0 24 rest first more is)
    ∙ ap first_of_savefile (first_records-enough 1 (with_first first later) (omega arith))

pub first-savefile : (bytes : List ℕ) (head : CaptureHead) → head_of bytes ≡ Ok head
    → first_moment bytes ≡ first_next (next_of head 0 24 (drop 24 bytes))
unfolding first_moment
first-savefile bytes head is =
    rw (savefile-ok bytes (Some 1) head is) (first_left head (drop 24 bytes) (next_of head 0 24 (drop 24 bytes)) refl)

pub first-blocks : (bytes : List ℕ) → head_of bytes ≡ Err savefile_fault.NotPcap → first_moment bytes ≡ first_of_blocks (ng_records bytes (Some 1))
unfolding first_moment
first-blocks bytes is = rw (savefile-err bytes (Some 1) savefile_fault.NotPcap is) refl

-- ---- blocks

pub found-meets : (found : Found) (bytes : List ℕ) → IsHeld (Ok found) 1 bytes → Meets (first_found found) (first_of_blocks (ng_records bytes (Some 1)))
found-meets found bytes held = by found.records found.refused held
  where
    at : (records : List NgRecord) (refused : Option NgFault) → Found
    at records refused = record { records = records; refused = refused }

    by : (records : List NgRecord) (refused : Option NgFault) → IsHeld (Ok (at records refused)) 1 bytes
        → Meets (first_found (at records refused)) (first_of_blocks (ng_records bytes (Some 1)))
    by [] None is = ap first_of_blocks (is Clean refl)
    by (given ∷ others) None is = ap first_of_blocks (is Clean refl)
    by records (Some blocks_fault.NotPcapng) is = ap first_of_blocks (is (Refused blocks_fault.NotPcapng) (tt, refl))
    by records (Some (blocks_fault.Truncated at)) is = ap first_of_blocks (is (Refused (blocks_fault.Truncated at)) (tt, refl))
    by records (Some (blocks_fault.BadBlock at)) is = ap first_of_blocks (is (Refused (blocks_fault.BadBlock at)) (tt, refl))
    by records (Some (blocks_fault.LinkType at link)) is = ap first_of_blocks (is (Refused (blocks_fault.LinkType at link)) (tt, refl))
    by records (Some (blocks_fault.TooLong at len)) is = ap first_of_blocks (is (Refused (blocks_fault.TooLong at len)) (tt, refl))
    by records (Some blocks_fault.TooMany) is = ap first_of_blocks (is (Refused blocks_fault.TooMany) (tt, refl))
    by records (Some blocks_fault.Failed) is = tt
    by records (Some blocks_fault.NoMemory) is = tt

pub refused-meets : (why : NgFault) (bytes : List ℕ) → IsHeld (Err why) 1 bytes → Meets (Err (stop_of_blocks why)) (first_of_blocks (ng_records bytes (Some 1)))
refused-meets blocks_fault.NotPcapng bytes held = ap first_of_blocks (held tt)
refused-meets (blocks_fault.Truncated at) bytes held = ap first_of_blocks (held tt)
refused-meets (blocks_fault.BadBlock at) bytes held = ap first_of_blocks (held tt)
refused-meets (blocks_fault.LinkType at link) bytes held = ap first_of_blocks (held tt)
refused-meets (blocks_fault.TooLong at len) bytes held = ap first_of_blocks (held tt)
refused-meets blocks_fault.TooMany bytes held = ap first_of_blocks (held tt)
refused-meets blocks_fault.Failed bytes held = tt
refused-meets blocks_fault.NoMemory bytes held = tt

-- ---- a file

-- the file of this name is there
record IsThere (files : Files) (name : List ℕ) : Type 0 where
  bytes : List ℕ
  has : get files name ≡ Some bytes

there : (held : Option (List ℕ)) → IsSome held → (bytes : List ℕ) × (held ≡ Some bytes)
there None some = absurd cc
there (Some bytes) some = (bytes, refl)

taken-there : (files : Files) (name : List ℕ) (answer : Result Reading CaptureFault) (left : Option (List ℕ)) → TakesHead (Some files) name answer left → IsThere files name
taken-there files name answer left takes =
    let here = there takes.whole takes.opened.1 in
    record { bytes = here.0; has = sym takes.opened.0 ∙ here.1 }

-- what is so of the bytes of a file is so of the file
of-file : (files : Files) (name bytes : List ℕ) (answer : Result Moment CaptureStop) → get files name ≡ Some bytes → Meets answer (first_moment bytes) → GivesFirst files name answer
of-file files name bytes (Ok moment) has meets = record { bytes = bytes; has = has; is = meets }
of-file files name bytes (Err stop.Empty) has meets = record { bytes = bytes; has = has; is = meets }
of-file files name bytes (Err (stop.Fault (fault.Bad why))) has meets = record { bytes = bytes; has = has; is = meets }
of-file files name bytes (Err (stop.Fault fault.Failed)) has meets = tt
of-file files name bytes (Err (stop.Fault fault.NoMemory)) has meets = tt

-- a reader that was opened has refused nothing
pub reader-fresh : (head : Result CaptureHead CaptureFault) (reader : Reading) → Opens (Ok reader) head → reader.refused ≡ None
reader-fresh (Ok head) reader is = let same : new_reader head ≡ reader = cc in ap (λ (r : Reading). r.refused) (sym same)
reader-fresh (Err why) reader is = absurd cc

-- the first record of a file whose head was read
pub of-savefile : (files : Files) (name : List ℕ) (reader : Reading) (left : Option (List ℕ)) (answer : Result Moment CaptureStop)
    → TakesHead (Some files) name (Ok reader) left
    → ((bytes : List ℕ) → get files name ≡ Some bytes → Opens (Ok reader) (head_of bytes))
    → ((bytes : List ℕ) → get files name ≡ Some bytes → left ≡ Some (drop 24 bytes))
    → ((rest : List ℕ) → left ≡ Some rest → Meets answer (first_next (next_of reader.head reader.number reader.at rest)))
    → GivesFirst files name answer
of-savefile files name reader left answer takes opens stays meets =
    of-file files name here.bytes answer here.has (by (head_of here.bytes) refl (opens here.bytes here.has))
  where
    here : IsThere files name
    here = taken-there files name (Ok reader) left takes

    by : (head : Result CaptureHead CaptureFault) → head_of here.bytes ≡ head → Opens (Ok reader) head → Meets answer (first_moment here.bytes)
    by (Err why) is opened = absurd cc
    by (Ok head) is opened =
        let same : new_reader head ≡ reader = cc in
        subst (λ (m : Result Moment CaptureStop). Meets answer m) (sym (first-savefile here.bytes head is))
        (subst (λ (r : Reading). Meets answer (first_next (next_of r.head r.number r.at (drop 24 here.bytes)))) (sym same)
        (meets (drop 24 here.bytes) (stays here.bytes here.has)))

-- of one that begins as no savefile does
pub of-blocks : (files : Files) (name : List ℕ) (why : CaptureFault) (left : Option (List ℕ)) (answer : Result Moment CaptureStop) → why ≡ savefile_fault.NotPcap
    → TakesHead (Some files) name (Err why) left ⊎ (IsErrOf {T = Reading} (Err why) savefile_fault.Failed × (left ≡ None))
    → ((bytes : List ℕ) → get files name ≡ Some bytes → Opens (Err why) (head_of bytes))
    → ((bytes : List ℕ) → get files name ≡ Some bytes → Meets answer (first_of_blocks (ng_records bytes (Some 1))))
    → GivesFirst files name answer
of-blocks files name why left answer is (inl takes) opens meets =
    let here = taken-there files name (Err why) left takes in
    let head = subst (λ (w : CaptureFault). Opens (Err w) (head_of here.bytes)) is (opens here.bytes here.has) in
    of-file files name here.bytes answer here.has
    (subst (λ (m : Result Moment CaptureStop). Meets answer m) (sym (first-blocks here.bytes head)) (meets here.bytes here.has))
of-blocks files name why left answer is (inr failed) opens meets = let apart = failed.0 in absurd cc

-- and of one whose head is refused
first-refused : (bytes : List ℕ) (why : CaptureFault) → (why ≡ savefile_fault.NotPcap → ⊥) → Opens (Err why) (head_of bytes)
    → Meets (Err (stop_of_savefile why)) (first_moment bytes)
unfolding first_moment
first-refused bytes savefile_fault.NotPcap other is = absurd (other refl)
first-refused bytes (savefile_fault.LinkType link) other is = rw (savefile-err bytes (Some 1) (savefile_fault.LinkType link) is) refl
first-refused bytes (savefile_fault.Truncated at) other is = rw (savefile-err bytes (Some 1) (savefile_fault.Truncated at) is) refl
first-refused bytes (savefile_fault.TooLong at len) other is = rw (savefile-err bytes (Some 1) (savefile_fault.TooLong at len) is) refl
first-refused bytes savefile_fault.TooMany other is = rw (savefile-err bytes (Some 1) savefile_fault.TooMany is) refl
first-refused bytes savefile_fault.Failed other is = tt
first-refused bytes savefile_fault.NoMemory other is = tt

pub of-refused : (files : Files) (name : List ℕ) (why : CaptureFault) (left : Option (List ℕ)) → (why ≡ savefile_fault.NotPcap → ⊥)
    → TakesHead (Some files) name (Err why) left ⊎ (IsErrOf {T = Reading} (Err why) savefile_fault.Failed × (left ≡ None))
    → ((bytes : List ℕ) → get files name ≡ Some bytes → Opens (Err why) (head_of bytes))
    → GivesFirst files name (Err (stop_of_savefile why))
of-refused files name why left other (inl takes) opens =
    let here = taken-there files name (Err why) left takes in
    of-file files name here.bytes (Err (stop_of_savefile why)) here.has (first-refused here.bytes why other (opens here.bytes here.has))
of-refused files name why left other (inr failed) opens =
    let is = failed.0 in
    let same : savefile_fault.Failed ≡ why = cc in
    subst (λ (w : CaptureFault). GivesFirst files name (Err (stop_of_savefile w))) same tt
