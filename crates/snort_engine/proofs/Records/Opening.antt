-- What the opening of a capture gives, in either format.
use Rattle.std.proofs.Common.{◌≡◌, ℕ, zero, suc, ◌<◌, ◌≤◌, Bool, true, false, List, [], ◌++◌, length, take, drop, Option, Some}
use Rattle.std.proofs.Common.{None, Result, Ok, Err, refl, sym, ap, subst, ◌∙◌, arith, inl, inr, ◌⊎◌, ⊎_elim}
use Rattle.std.specs.Prelude.{nat_le}
use Rattle.std.specs.FinMap.{get}
use Rattle.std.proofs.Math.ListN.{drop_of_length-le}
use Rattle.std.proofs.lemmas.List.{append-nil, drop_at}
use Rattle.std.proofs.lemmas.Bool.Decides.{nat_tests}
use Rattle.edge_io.specs.Told.{one_more, Rose}
use Rattle.edge_io.specs.Files.{Files, IsOpened, Lacks}
use Rattle.pcap_input.specs.declared.capture.CaptureHead.{CaptureHead}
use Rattle.pcap_input.specs.declared.capture.CaptureFault.{CaptureFault}
use Rattle.pcap_input.specs.declared.capture.CaptureFault.TheVariants as savefile_fault
use Rattle.pcap_input.specs.Savefile as classic
use Rattle.pcap_input.specs.Savefile.{number_at, head_of, savefile}
use Rattle.pcap_input.specs.Reader as classic_reader
use Rattle.pcap_input.proofs.Cuts.{first_records-told}
use Rattle.pcap_input.proofs.Endings.{savefile-ok, savefile-err}
use Rattle.pcap_input.proofs.Pieces.Heads.{head_of_truncated}
use Rattle.pcap_input.proofs.Laws.{head_of-append, next_of_nothing}
use Rattle.pcap_input.proofs.Records as classic_records
use Rattle.pcap_input.proofs.Sections.{section-head}
use Rattle.pcap_input.proofs.Told.{split_told}
use Rattle.pcapng_input.specs.declared.capture.NgFault.{NgFault}
use Rattle.pcapng_input.specs.declared.capture.NgFault.TheVariants as blocks_fault
use Rattle.pcapng_input.specs.declared.walk.Walk.{Walk}
use Rattle.pcapng_input.specs.Blocks as blocks
use Rattle.pcapng_input.specs.Blocks.{section_type, opening, ng_records}
use Rattle.pcapng_input.specs.Steps.{HoldsNone}
use Rattle.pcapng_input.specs.Reader as blocks_reader
use Rattle.pcapng_input.proofs.Blocks.Begins.{step_nothing}
use Rattle.pcapng_input.proofs.Captures.Endings.{ng_records-skips, ng_records-refused}
use Rattle.pcapng_input.proofs.Blocks.Heads.{IsHeadStep, opening_head}
use Rattle.pcapng_input.proofs.Captures.Nexts.{next_of-stops}
use Rattle.pcapng_input.proofs.Blocks.Openings.{opening_other}
use Rattle.pcapng_input.proofs.Captures.Records as blocks_records
use Rattle.pcapng_input.proofs.Captures.Numbers.{opening_section}
use Rattle.record_jobs.specs.Way.{linked, LinkedRecord}
use Rattle.pcapng_input.specs.declared.fault.BadCapture.TheVariants as bad
use Rattle.pcapng_input.specs.declared.fault.ReadFault.{ReadFault}
use Rattle.pcapng_input.specs.declared.fault.ReadFault.TheVariants as fault
use Rattle.snort_engine.specs.declared.reader.RecordReader.TheVariants.{Savefile, Blocks}
use Rattle.pcap_input.specs.declared.capture.Record.{Record}
use Rattle.pcapng_input.specs.declared.capture.NgRecord.{NgRecord}
use Rattle.pcap_input.specs.Cut.{Refused, no_more, first_records, Cut, Clean}
use Rattle.pcapng_input.specs.Faults.{of_savefile, of_blocks}
use Rattle.snort_engine.specs.Records.{Recording, recording_of, recording_in, recording_of_blocks, recording_in_blocks, with_link, is_of_blocks, records_in}
use Rattle.snort_engine.specs.Steps.Reader.{IsFresh, number_of, recording_for, BeginsAfter, IsBarelyOpen, IsRefusedAtOnce, IsRefusedOpening, Opens, MayBeOther, OpensSo}
use Rattle.snort_engine.specs.Records.{IsOther, IsToldOther}

-- ---- which of the two a file is

-- blocks begin as no savefile does
pub other_head : (bytes : List ℕ) → is_of_blocks bytes ≡ true → head_of bytes ≡ Err savefile_fault.NotPcap
other_head bytes is =
    let begins : number_at false 0 4 bytes ≡ section_type = grind (arith, nat_tests, is) in
    let long : 24 ≤ length bytes = grind (arith, nat_tests, is) in
    section-head bytes long begins

-- a file that begins otherwise isn't of blocks
not_blocks_by : (bytes : List ℕ) (read : Result CaptureHead CaptureFault) (test : Bool)
    → head_of bytes ≡ read
    → (read ≡ Err savefile_fault.NotPcap → ⊥)
    → is_of_blocks bytes ≡ test
    → is_of_blocks bytes ≡ false
not_blocks_by bytes read true is apart blocks_are = absurd (apart (sym is ∙ other_head bytes blocks_are))
not_blocks_by bytes read false is apart blocks_are = blocks_are

not_blocks : (bytes : List ℕ) (read : Result CaptureHead CaptureFault) → head_of bytes ≡ read → (read ≡ Err savefile_fault.NotPcap → ⊥) → is_of_blocks bytes ≡ false
not_blocks bytes read is apart = not_blocks_by bytes read (is_of_blocks bytes) is apart refl

-- what is read of it
as_blocks : (limit : Option ℕ) (bytes : List ℕ) → is_of_blocks bytes ≡ true → records_in limit bytes ≡ recording_in_blocks (ng_records bytes limit)
unfolding records_in
as_blocks limit bytes is = rw is refl

as_savefile : (limit : Option ℕ) (bytes : List ℕ) → is_of_blocks bytes ≡ false → records_in limit bytes ≡ recording_in (savefile bytes limit)
unfolding records_in
as_savefile limit bytes is = rw is refl

-- ---- a savefile

-- bytes whose head is accepted
pub records_in-ok : (limit : Option ℕ) (bytes : List ℕ) (head : CaptureHead)
    → head_of bytes ≡ Ok head
    → records_in limit bytes ≡ first_records limit (recording_for (Savefile (classic_reader.new_reader head)) (drop 24 bytes))
unfolding recording_for
records_in-ok limit bytes head is =
    as_savefile limit bytes (not_blocks bytes (Ok head) is (λ e. cc)) ∙ ap recording_in (savefile-ok bytes limit head is)
    ∙ first_records-told (linked head.link) of_savefile limit (classic.records_left head 0 24 (drop 24 bytes))

-- bytes whose head is refused, unless they begin as no savefile does
records_in-err : (limit : Option ℕ) (bytes : List ℕ) (why : CaptureFault) → head_of bytes ≡ Err why → is_of_blocks bytes ≡ false → records_in limit bytes ≡ no_more (Refused (of_savefile why))
records_in-err limit bytes why is other = as_savefile limit bytes other ∙ ap recording_in (savefile-err bytes limit why is)

-- the head of a file that has one takes 24 bytes
pub long_enough : (bytes : List ℕ) (head : CaptureHead) → head_of bytes ≡ Ok head → 24 ≤ length bytes
long_enough bytes head is = at_least (length bytes) 24 (λ few. let truncated = head_of_truncated bytes few in cc)
  where
    at_least : (a b : ℕ) → (a < b → ⊥) → b ≤ a
    at_least a b above = omega (arith, above)

-- a reader that was opened has the head of the bytes
opened_by : (bytes : List ℕ) (reader : classic_reader.Reading) (read : Result CaptureHead CaptureFault) → head_of bytes ≡ read → classic_reader.reader_of read ≡ Ok reader
    → (head : CaptureHead) × (head_of bytes ≡ Ok head) × (reader ≡ classic_reader.new_reader head)
opened_by bytes reader (Ok head) is opens = (head, is, cc)
opened_by bytes reader (Err why) is opens = cc

-- a reader begins after the head
pub savefile_begins : (front : List ℕ) (head : CaptureHead) → head_of front ≡ Ok head → length front ≤ 24 → BeginsAfter front (Savefile (classic_reader.new_reader head))
savefile_begins front head is few = λ limit more.
    let enough = long_enough front head is in
    let whole : length front ≡ 24 = omega (arith, enough) in
    records_in-ok limit (front ++ more) head (head_of-append front more enough ∙ is)
    ∙ ap (λ (rest : List ℕ). first_records limit (recording_for (Savefile (classic_reader.new_reader head)) rest)) (drop_at front more 24 whole)

-- ---- blocks

section_is : (bytes : List ℕ) → number_at false 0 4 bytes ≡ section_type → 24 ≤ length bytes → is_of_blocks bytes ≡ true
section_is bytes begins long = grind (arith, nat_tests, begins, long)

-- a reader begins after the first block
pub blocks_begin : (front : List ℕ) (reader : blocks_reader.Reading) → ((more : List ℕ) → opening (front ++ more) ≡ blocks.Skips reader.walk more) → BeginsAfter front (Blocks reader)
unfolding recording_for
blocks_begin front reader opens = λ limit more.
    let section = opening_section (front ++ more) reader.walk more (opens more) in
    as_blocks limit (front ++ more) (section_is (front ++ more) section.begins (omega (arith, section.long)))
    ∙ ap recording_in_blocks (ng_records-skips (front ++ more) limit reader.walk more (opens more))
    ∙ first_records-told with_link of_blocks limit (blocks.records_left reader.walk more)

-- ---- no record

take_none : (n : ℕ) → take n (let none : List LinkedRecord = [] in none) ≡ []
take_none zero = refl
take_none (suc n) = refl

-- nothing is left of none
none_first : (limit : Option ℕ) (recording : Recording) → recording.records ≡ [] → (first_records limit recording).records ≡ []
unfolding first_records
none_first None recording none = none
none_first (Some limit) recording none = by_test (nat_le limit (length recording.records)) refl
  where
    by_test : (test : Bool) → nat_le limit (length recording.records) ≡ test → (first_records (Some limit) recording).records ≡ []
    by_test true is = rw (is, none) (take_none limit)
    by_test false is = rw is none

-- bytes whose first block is refused, or is skipped before nothing, hold no record as blocks
none_of_blocks : (limit : Option ℕ) (bytes : List ℕ) (step : blocks.Step) → opening bytes ≡ step → IsHeadStep step
    → ((walk : Walk) (more : List ℕ) → step ≡ blocks.Skips walk more → more ≡ []) → (recording_in_blocks (ng_records bytes limit)).records ≡ []
none_of_blocks limit bytes (blocks.Stops Clean) is head none = absurd head
none_of_blocks limit bytes (blocks.Stops (Refused why)) is head none =
    ap (λ (r : Result (Cut NgRecord NgFault) NgFault). (recording_in_blocks r).records) (ng_records-refused bytes limit why is)
none_of_blocks limit bytes (blocks.Gives given walk more) is head none = absurd head
none_of_blocks limit bytes (blocks.Skips walk more) is head none =
    ap (λ (r : Result (Cut NgRecord NgFault) NgFault). (recording_in_blocks r).records) (ng_records-skips bytes limit walk more is)
    ∙ ap (λ (r : Recording). r.records) (first_records-told with_link of_blocks limit (blocks.records_left walk more))
    ∙ none_first limit (recording_of_blocks (blocks.records_left walk more))
    (ap (λ (rest : List ℕ). (recording_of_blocks (blocks.records_left walk rest)).records) (none walk more refl)
    ∙ ap (λ (cut : Cut NgRecord NgFault). (recording_of_blocks cut).records) (blocks_records.records_left-ends walk [] Clean (next_of-stops walk [] Clean (step_nothing walk))))

-- bytes whose head is refused, or that are no more than a head, hold none as a savefile
none_of_savefile : (limit : Option ℕ) (bytes : List ℕ) (read : Result CaptureHead CaptureFault)
    → head_of bytes ≡ read
    → ((head : CaptureHead) → read ≡ Ok head → drop 24 bytes ≡ [])
    → (recording_in (savefile bytes limit)).records ≡ []
none_of_savefile limit bytes (Err why) is none = ap (λ (r : Result classic.Capture CaptureFault). (recording_in r).records) (savefile-err bytes limit why is)
none_of_savefile limit bytes (Ok head) is none =
    ap (λ (r : Result classic.Capture CaptureFault). (recording_in r).records) (savefile-ok bytes limit head is)
    ∙ ap (λ (r : Recording). r.records) (first_records-told (linked head.link) of_savefile limit (classic.records_left head 0 24 (drop 24 bytes)))
    ∙ none_first limit (recording_of head.link (classic.records_left head 0 24 (drop 24 bytes)))
    (ap (λ (rest : List ℕ). (recording_of head.link (classic.records_left head 0 24 rest)).records) (none head refl)
    ∙ ap (λ (cut : Cut Record CaptureFault). (recording_of head.link cut).records) (classic_records.records_left-ends head 0 24 [] Clean (next_of_nothing head 0 24)))

none_by : (limit : Option ℕ) (bytes : List ℕ) (test : Bool) → is_of_blocks bytes ≡ test → ((walk : Walk) (more : List ℕ) → opening bytes ≡ blocks.Skips walk more → more ≡ [])
    → ((head : CaptureHead) → head_of bytes ≡ Ok head → drop 24 bytes ≡ []) → (records_in limit bytes).records ≡ []
none_by limit bytes true is one other = ap (λ (r : Recording). r.records) (as_blocks limit bytes is) ∙ none_of_blocks limit bytes (opening bytes) refl (opening_head bytes) one
none_by limit bytes false is one other = ap (λ (r : Recording). r.records) (as_savefile limit bytes is) ∙ none_of_savefile limit bytes (head_of bytes) refl other

-- at most 24 bytes hold no record
pub few_hold_none : (limit : Option ℕ) (bytes : List ℕ) → length bytes ≤ 24 → (records_in limit bytes).records ≡ []
few_hold_none limit bytes few =
    none_by limit bytes (is_of_blocks bytes) refl
    (λ walk more opens. let section = opening_section bytes walk more opens in absurd (omega (arith, section.long, few)))
    (λ head is. drop_of_length-le bytes few)

-- a first block that isn't whole, of a file that begins as no savefile does, holds none
pub other_holds_none : (limit : Option ℕ) (taken rest bytes : List ℕ)
    → bytes ≡ taken ++ rest
    → head_of bytes ≡ Err savefile_fault.NotPcap
    → HoldsNone (opening taken)
    → (records_in limit taken).records ≡ []
other_holds_none limit taken rest bytes joined other none =
    none_by limit taken (is_of_blocks taken) refl
    (λ walk more opens. subst HoldsNone opens none)
    (λ head is.
    let same : head_of bytes ≡ Ok head = ap head_of joined ∙ head_of-append taken rest (long_enough taken head is) ∙ is in
    let apart : Ok head ≡ Err savefile_fault.NotPcap = sym same ∙ other in
    cc)

-- ---- what an opening took

-- what a name holds, where it was opened
held_opened : (files : Files) (name : List ℕ) (whole : Option (List ℕ)) → IsOpened (Some files) name whole → (bytes : List ℕ) × (get files name ≡ Some bytes) × (whole ≡ Some bytes)
held_opened files name (Some bytes) opened = (bytes, sym opened.0, refl)
held_opened files name None opened = let none = opened.1 in absurd cc

-- the savefile's head was read
pub savefile_opens : (files : Files) (name : List ℕ) (reader : classic_reader.Reading) (left : Option (List ℕ))
    → classic_reader.TakesHead (Some files) name (Ok reader) left
    → Opens (get files name) (Ok (Savefile reader)) left
savefile_opens files name reader left takes =
    let held = held_opened files name takes.whole takes.opened in
    let split = split_told takes.whole left takes.taken held.0 takes.took held.2 in
    let opened = opened_by takes.taken reader (head_of takes.taken) refl takes.answers in
    record {
      front = takes.taken;
      rest = split.rest;
      of = held.1 ∙ ap Some split.joined;
      still = split.still;
      begins = subst (λ (r : classic_reader.Reading). BeginsAfter takes.taken (Savefile r)) (sym opened.2) (savefile_begins takes.taken opened.0 opened.1 takes.few);
    }

-- the first block was read
pub blocks_open : (files : Files) (name : List ℕ) (reader : blocks_reader.Reading) (left : Option (List ℕ))
    → blocks_reader.TakesHead (Some files) name (Ok reader) left
    → Opens (get files name) (Ok (Blocks reader)) left
blocks_open files name reader left takes =
    let held = held_opened files name takes.whole takes.opened in
    let split = split_told takes.whole left takes.taken held.0 takes.took held.2 in
    record {
      front = takes.taken;
      rest = split.rest;
      of = held.1 ∙ ap Some split.joined;
      still = split.still;
      begins = blocks_begin takes.taken reader takes.shows;
    }

-- ---- a head that was refused or not read

-- what was taken holds no record
savefile_barely : (files : Files) (name : List ℕ) (answer : Result classic_reader.Reading CaptureFault) (left : Option (List ℕ))
    → classic_reader.TakesHead (Some files) name answer left
    → IsBarelyOpen (get files name) left
savefile_barely files name answer left takes =
    let held = held_opened files name takes.whole takes.opened in
    let split = split_told takes.whole left takes.taken held.0 takes.took held.2 in
    record { taken = takes.taken; rest = split.rest; of = held.1 ∙ ap Some split.joined; still = split.still; none = λ limit. few_hold_none limit takes.taken takes.few }

-- the savefile's head is refused
savefile_at_once : (held : Option (List ℕ)) (why : CaptureFault)
    → (why ≡ savefile_fault.NotPcap → ⊥)
    → ((bytes : List ℕ) → held ≡ Some bytes → head_of bytes ≡ Err why)
    → IsRefusedAtOnce held (of_savefile why)
savefile_at_once held why apart is bytes told limit =
    records_in-err limit bytes why (is bytes told)
    (not_blocks bytes (Err why) (is bytes told) (λ same. let e : why ≡ savefile_fault.NotPcap = cc in apart e))

savefile_refusal : (held : Option (List ℕ)) (why : CaptureFault)
    → (why ≡ savefile_fault.NotPcap → ⊥)
    → ((bytes : List ℕ) → held ≡ Some bytes → classic_reader.Opens (Err why) (head_of bytes))
    → IsRefusedOpening held (of_savefile why)
savefile_refusal held savefile_fault.NotPcap apart is = absurd (apart refl)
savefile_refusal held (savefile_fault.LinkType link_type) apart is = savefile_at_once held (savefile_fault.LinkType link_type) apart is
savefile_refusal held (savefile_fault.Truncated at) apart is = savefile_at_once held (savefile_fault.Truncated at) apart is
savefile_refusal held (savefile_fault.TooLong at len) apart is = savefile_at_once held (savefile_fault.TooLong at len) apart is
savefile_refusal held savefile_fault.TooMany apart is = savefile_at_once held savefile_fault.TooMany apart is
savefile_refusal held savefile_fault.Failed apart is = tt
savefile_refusal held savefile_fault.NoMemory apart is = tt

pub savefile_refused : (files : Files) (name : List ℕ) (why : CaptureFault) (so : ReadFault) (left : Option (List ℕ)) → so ≡ of_savefile why → (why ≡ savefile_fault.NotPcap → ⊥)
    → ((bytes : List ℕ) → get files name ≡ Some bytes → classic_reader.Opens (Err why) (head_of bytes))
    → classic_reader.TakesHead (Some files) name (Err why) left ⊎ ((◌≡◌ {A = Result classic_reader.Reading CaptureFault} (Err why) (Err savefile_fault.Failed)) × (left ≡ None))
    → Opens (get files name) (Err so) left
savefile_refused files name why so left is apart gives takes = (
  subst (λ (f : ReadFault). IsRefusedOpening (get files name) f) (sym is) (savefile_refusal (get files name) why apart gives),
  ⊎_elim (λ head. inl (savefile_barely files name (Err why) left head)) (λ nothing. inr (is ∙ failed nothing.0, nothing.1)) takes,
)
  where
    failed : ◌≡◌ {A = Result classic_reader.Reading CaptureFault} (Err why) (Err savefile_fault.Failed) → of_savefile why ≡ fault.Failed
    failed same = let e : why ≡ savefile_fault.Failed = cc in ap of_savefile e

-- what was taken of a first block that isn't whole
shown_none : (why : NgFault) (taken : List ℕ) → blocks_reader.ShowsHead (Err why) taken → HoldsNone (opening taken)
shown_none blocks_fault.NotPcapng taken shows = subst HoldsNone (sym shows) tt
shown_none (blocks_fault.Truncated at) taken shows = subst HoldsNone (sym shows) tt
shown_none (blocks_fault.BadBlock at) taken shows = subst HoldsNone (sym shows) tt
shown_none (blocks_fault.LinkType at link) taken shows = subst HoldsNone (sym shows) tt
shown_none (blocks_fault.TooLong at len) taken shows = subst HoldsNone (sym shows) tt
shown_none blocks_fault.TooMany taken shows = subst HoldsNone (sym shows) tt
shown_none blocks_fault.Failed taken shows = shows
shown_none blocks_fault.NoMemory taken shows = shows

blocks_barely : (files : Files) (name : List ℕ) (why : NgFault) (left : Option (List ℕ)) → ((bytes : List ℕ) → get files name ≡ Some bytes → head_of bytes ≡ Err savefile_fault.NotPcap)
    → blocks_reader.TakesHead (Some files) name (Err why) left → IsBarelyOpen (get files name) left
blocks_barely files name why left other takes =
    let held = held_opened files name takes.whole takes.opened in
    let split = split_told takes.whole left takes.taken held.0 takes.took held.2 in
    record {
      taken = takes.taken;
      rest = split.rest;
      of = held.1 ∙ ap Some split.joined;
      still = split.still;
      none = λ limit. other_holds_none limit takes.taken split.rest held.0 split.joined (other held.0 held.1) (shown_none why takes.taken takes.shows);
    }

-- a file that begins as no savefile does has the bytes of a head
other_long : (bytes : List ℕ) → head_of bytes ≡ Err savefile_fault.NotPcap → 24 ≤ length bytes
other_long bytes is = at_least (length bytes) 24 (λ few. let truncated = head_of_truncated bytes few in cc)
  where
    at_least : (a b : ℕ) → (a < b → ⊥) → b ≤ a
    at_least a b above = omega (arith, above)

-- the refusal of bytes that are neither a savefile nor blocks
neither : (bytes : List ℕ) (why : NgFault) → head_of bytes ≡ Err savefile_fault.NotPcap → is_of_blocks bytes ≡ false → opening bytes ≡ blocks.refused why → of_blocks why ≡ fault.Bad bad.NotPcap
neither bytes why other no_section opens =
    let long = other_long bytes other in
    let apart : number_at false 0 4 bytes ≡ section_type → ⊥ = λ begins. let yes_section = section_is bytes begins long in cc in
    let refused : opening bytes ≡ blocks.refused blocks_fault.NotPcapng = ap opening (sym (append-nil bytes)) ∙ opening_other bytes (omega (arith, long)) apart [] in
    let same : why ≡ blocks_fault.NotPcapng = cc in
    ap of_blocks same

blocks_by : (limit : Option ℕ) (bytes : List ℕ) (why : NgFault) (test : Bool) → is_of_blocks bytes ≡ test → head_of bytes ≡ Err savefile_fault.NotPcap → opening bytes ≡ blocks.refused why
    → records_in limit bytes ≡ no_more (Refused (of_blocks why))
blocks_by limit bytes why true is other opens = as_blocks limit bytes is ∙ ap recording_in_blocks (ng_records-refused bytes limit why opens)
blocks_by limit bytes why false is other opens =
    records_in-err limit bytes savefile_fault.NotPcap other is ∙ ap (λ (f : ReadFault). no_more (Refused f)) (sym (neither bytes why other is opens))

-- the first block is refused
blocks_at_once : (held : Option (List ℕ)) (why : NgFault)
    → ((bytes : List ℕ) → held ≡ Some bytes → head_of bytes ≡ Err savefile_fault.NotPcap)
    → ((bytes : List ℕ) → held ≡ Some bytes → opening bytes ≡ blocks.refused why)
    → IsRefusedAtOnce held (of_blocks why)
blocks_at_once held why other is bytes told limit = blocks_by limit bytes why (is_of_blocks bytes) refl (other bytes told) (is bytes told)

blocks_refusal : (held : Option (List ℕ)) (why : NgFault) → ((bytes : List ℕ) → held ≡ Some bytes → head_of bytes ≡ Err savefile_fault.NotPcap)
    → ((bytes : List ℕ) → held ≡ Some bytes → blocks_reader.Opens (Err why) (opening bytes)) → IsRefusedOpening held (of_blocks why)
blocks_refusal held blocks_fault.NotPcapng other is = blocks_at_once held blocks_fault.NotPcapng other is
blocks_refusal held (blocks_fault.Truncated at) other is = blocks_at_once held (blocks_fault.Truncated at) other is
blocks_refusal held (blocks_fault.BadBlock at) other is = blocks_at_once held (blocks_fault.BadBlock at) other is
blocks_refusal held (blocks_fault.LinkType at link) other is = blocks_at_once held (blocks_fault.LinkType at link) other is
blocks_refusal held (blocks_fault.TooLong at len) other is = blocks_at_once held (blocks_fault.TooLong at len) other is
blocks_refusal held blocks_fault.TooMany other is = blocks_at_once held blocks_fault.TooMany other is
blocks_refusal held blocks_fault.Failed other is = tt
blocks_refusal held blocks_fault.NoMemory other is = tt

pub blocks_refused : (files : Files) (name : List ℕ) (why : NgFault) (so : ReadFault) (left : Option (List ℕ))
    → so ≡ of_blocks why
    → ((bytes : List ℕ) → get files name ≡ Some bytes → head_of bytes ≡ Err savefile_fault.NotPcap)
    → ((bytes : List ℕ) → get files name ≡ Some bytes → blocks_reader.Opens (Err why) (opening bytes))
    → blocks_reader.TakesHead (Some files) name (Err why) left ⊎
    ((◌≡◌ {A = Result blocks_reader.Reading NgFault} (Err why) (Err blocks_fault.Failed)) × (left ≡ None))
    → Opens (get files name) (Err so) left
blocks_refused files name why so left is other gives takes = (
  subst (λ (f : ReadFault). IsRefusedOpening (get files name) f) (sym is) (blocks_refusal (get files name) why other gives),
  ⊎_elim (λ head. inl (blocks_barely files name why left other head)) (λ nothing. inr (is ∙ failed nothing.0, nothing.1)) takes,
)
  where
    failed : ◌≡◌ {A = Result blocks_reader.Reading NgFault} (Err why) (Err blocks_fault.Failed) → of_blocks why ≡ fault.Failed
    failed same = let e : why ≡ blocks_fault.Failed = cc in ap of_blocks e

-- ---- a reader that was opened has given no record

pub savefile_fresh : {contents : Option Files} (name : List ℕ) (reader : classic_reader.Reading) (left : Option (List ℕ))
    → classic_reader.TakesHead contents name (Ok reader) left
    → IsFresh (Savefile reader) × (number_of (Savefile reader) ≡ 0)
savefile_fresh name reader left takes =
    let opened = opened_by takes.taken reader (head_of takes.taken) refl takes.answers in
    (ap (λ (r : classic_reader.Reading). r.refused) opened.2, ap (λ (r : classic_reader.Reading). r.number) opened.2)

pub blocks_number : {contents : Option Files} (name : List ℕ) (reader : blocks_reader.Reading) (left : Option (List ℕ))
    → blocks_reader.TakesHead contents name (Ok reader) left
    → number_of (Blocks reader) ≡ 0
blocks_number name reader left takes = (opening_section (takes.taken ++ []) reader.walk [] (takes.shows [])).none

-- ---- how often it was opened

-- a savefile begins as one
not_other : (files : Files) (name : List ℕ) (reader : classic_reader.Reading)
    → ((bytes : List ℕ) → get files name ≡ Some bytes → classic_reader.Opens (Ok reader) (head_of bytes))
    → IsOther (get files name)
    → ⊥
not_other files name reader gives other =
    let opened = opened_by other.bytes reader (head_of other.bytes) refl (gives other.bytes other.told) in
    let apart : Ok opened.0 ≡ Err savefile_fault.NotPcap = sym opened.1 ∙ other.head in
    cc

-- a file was opened once, as a savefile
pub once_opened : (seen : Option Files) (name : List ℕ) (reader : classic_reader.Reading) (failed : Type 0) (old new : ℕ) → new ≡ one_more old
    → ((bytes : List ℕ) → classic_reader.Tells seen name bytes → classic_reader.Opens (Ok reader) (head_of bytes)) → OpensSo seen name failed old new
once_opened None name reader failed old new once gives = inl (once, λ other. absurd other)
once_opened (Some files) name reader failed old new once gives = inl (once, λ other. absurd (not_other files name reader gives other))

-- a refusal of bytes that begin as no savefile does is another one, or the host failed
refused_failed : (files : Files) (name bytes : List ℕ) (why : CaptureFault) (failed : Type 0)
    → get files name ≡ Some bytes
    → head_of bytes ≡ Err savefile_fault.NotPcap
    → (why ≡ savefile_fault.NotPcap → ⊥)
    → (why ≡ savefile_fault.Failed → failed ⊎ Lacks (Some files) name)
    → classic_reader.Opens (Err why) (head_of bytes)
    → failed
refused_failed files name bytes savefile_fault.NotPcap failed told head apart lost opens = absurd (apart refl)
refused_failed files name bytes (savefile_fault.LinkType link_type) failed told head apart lost opens = absurd cc
refused_failed files name bytes (savefile_fault.Truncated at) failed told head apart lost opens = absurd cc
refused_failed files name bytes (savefile_fault.TooLong at len) failed told head apart lost opens = absurd cc
refused_failed files name bytes savefile_fault.TooMany failed told head apart lost opens = absurd cc
refused_failed files name bytes savefile_fault.NoMemory failed told head apart lost opens = absurd cc
refused_failed files name bytes savefile_fault.Failed failed told head apart lost opens =
    ⊎_elim (λ (counted : failed). counted) (λ (lacks : get files name ≡ None). absurd (none (sym lacks ∙ told))) (lost refl)
  where
    none : None ≡ Some bytes → ⊥
    none e = cc

-- a file was opened once, and refused
pub once_refused : (seen : Option Files) (name : List ℕ) (why : CaptureFault) (failed : Type 0) (old new : ℕ)
    → new ≡ one_more old
    → (why ≡ savefile_fault.NotPcap → ⊥)
    → (why ≡ savefile_fault.Failed → failed ⊎ Lacks seen name)
    → ((bytes : List ℕ) → classic_reader.Tells seen name bytes → classic_reader.Opens (Err why) (head_of bytes))
    → OpensSo seen name failed old new
once_refused None name why failed old new once apart lost gives = inl (once, λ other. absurd other)
once_refused (Some files) name why failed old new once apart lost gives =
    inl (once, λ other. refused_failed files name other.bytes why failed other.told other.head apart lost (gives other.bytes other.told))

-- a file that was opened, and refused since it begins as no savefile does
is_other : (files : Files) (name : List ℕ) (left : Option (List ℕ))
    → ((bytes : List ℕ) → get files name ≡ Some bytes → head_of bytes ≡ Err savefile_fault.NotPcap)
    → classic_reader.TakesHead (Some files) name (Err savefile_fault.NotPcap) left ⊎
    ((◌≡◌ {A = Result classic_reader.Reading CaptureFault} (Err savefile_fault.NotPcap) (Err savefile_fault.Failed)) ×
    (left ≡ None))
    → IsOther (get files name)
is_other files name left gives takes =
    ⊎_elim
    (λ (head : classic_reader.TakesHead (Some files) name (Err savefile_fault.NotPcap) left).
    let held = held_opened files name head.whole head.opened in record { bytes = held.0; told = held.1; head = gives held.0 held.1 })
    (λ nothing. let apart = nothing.0 in absurd cc)
    takes

-- a file was opened once more, as blocks
pub opened_again : (seen : Option Files) (name : List ℕ) (why : CaptureFault) (left : Option (List ℕ)) (failed : Type 0)
    (old middle new : ℕ)
    → middle ≡ one_more old
    → new ≡ one_more middle
    → why ≡ savefile_fault.NotPcap
    → ((bytes : List ℕ) → classic_reader.Tells seen name bytes → classic_reader.Opens (Err why) (head_of bytes))
    → classic_reader.TakesHead seen name (Err why) left ⊎
    ((◌≡◌ {A = Result classic_reader.Reading CaptureFault} (Err why) (Err savefile_fault.Failed)) × (left ≡ None))
    → OpensSo seen name failed old new
opened_again None name why left failed old middle new once twice is gives takes = inr (twice ∙ ap one_more once, tt)
opened_again (Some files) name why left failed old middle new once twice is gives takes =
    inr (
      twice ∙ ap one_more once,
      is_other files name left
          (subst
          (λ (w : CaptureFault). (bytes : List ℕ) → get files name ≡ Some bytes → classic_reader.Opens (Err w) (head_of bytes)) is
          gives)
          (subst (λ (w : CaptureFault). classic_reader.TakesHead (Some files) name (Err w) left ⊎
          ((◌≡◌ {A = Result classic_reader.Reading CaptureFault} (Err w) (Err savefile_fault.Failed)) × (left ≡ None))) is takes),
    )

-- more faults came later
pub opens_later : (contents : Option Files) (name : List ℕ) (first middle last old new : ℕ)
    → middle ≤ last
    → OpensSo contents name (Rose first middle) old new
    → OpensSo contents name (Rose first last) old new
opens_later contents name first middle last old new later opens =
    ⊎_elim
    (λ (once : (new ≡ one_more old) × (IsToldOther contents name → Rose first middle)). inl (once.0, λ other. let rose = once.1 other in omega (arith, later, rose)))
    (λ (twice : (new ≡ one_more (one_more old)) × MayBeOther contents name). inr twice)
    opens
