-- The steps of reading several records, and what follows from them.
use Rattle.std.proofs.Common.{◌≡◌, ℕ, List, [], ◌++◌, Option, Some, None, Ok, Err, refl, sym, ap, subst, append_assoc, ◌∙◌}
use Rattle.std.proofs.lemmas.List.{append-nil}
use Rattle.edge_io.specs.Told.{before}
use Rattle.edge_io.proofs.Told.{before-nil, before-before}
use Rattle.pcap_input.specs.declared.capture.Record.{Record}
use Rattle.pcap_input.specs.declared.capture.CaptureFault.{CaptureFault}
use Rattle.pcap_input.specs.declared.capture.CaptureFault.TheVariants as savefile_fault
use Rattle.pcap_input.specs.Savefile as classic
use Rattle.pcap_input.specs.Reader as classic_reader
use Rattle.pcap_input.proofs.Cuts.{front_of_front, front_of_none, front_of_nothing}
use Rattle.pcap_input.proofs.Laws.{next_of_nothing, next_means}
use Rattle.pcap_input.proofs.Records as classic_records
use Rattle.pcap_input.proofs.Told.{split_told}
use Rattle.pcapng_input.specs.declared.capture.NgRecord.{NgRecord}
use Rattle.pcapng_input.specs.declared.capture.NgFault.{NgFault}
use Rattle.pcapng_input.specs.declared.capture.NgFault.TheVariants as blocks_fault
use Rattle.pcapng_input.specs.Blocks as blocks
use Rattle.pcapng_input.specs.Reader as blocks_reader
use Rattle.pcapng_input.proofs.Blocks.Begins.{step_nothing}
use Rattle.pcapng_input.proofs.Captures.Nexts.{next_of-stops}
use Rattle.pcapng_input.proofs.Captures.Records as blocks_records
use Rattle.pcapng_input.proofs.Captures.Numbers.{follows_counted}
use Rattle.record_jobs.specs.Way.{LinkedRecord, linked}
use Rattle.pcapng_input.specs.declared.fault.ReadFault.{ReadFault}
use Rattle.pcapng_input.specs.declared.fault.ReadFault.TheVariants as fault
use Rattle.snort_engine.specs.declared.reader.RecordReader.{RecordReader}
use Rattle.snort_engine.specs.declared.reader.RecordReader.TheVariants.{Savefile, Blocks}
use Rattle.pcap_input.specs.Cut.{Ending, Refused, no_more, with_front, Cut, Clean}
use Rattle.pcapng_input.specs.Faults.{of_savefile, of_blocks}
use Rattle.snort_engine.specs.Records.{Recording, recording_of, recording_of_blocks, with_link}
use Rattle.snort_engine.specs.Steps.Reader.{IsFresh, recording_for, HasRead, AreWhole, EndsWith, IsRefusedBy, Gives}

-- ---- whatever the format

-- nothing is held by no bytes
pub none_held : (reader : RecordReader) → (recording_for reader []).records ≡ []
unfolding recording_for
none_held (Savefile reader) =
    ap (λ (cut : Cut Record CaptureFault). (recording_of reader.head.link cut).records)
    (classic_records.records_left-ends reader.head reader.number reader.at [] Clean (next_of_nothing reader.head reader.number reader.at))
none_held (Blocks reader) =
    ap (λ (cut : Cut NgRecord NgFault). (recording_of_blocks cut).records)
    (blocks_records.records_left-ends reader.walk [] Clean (next_of-stops reader.walk [] Clean (step_nothing reader.walk)))

-- nothing was read yet
pub reading-start : (reader : RecordReader) (left : Option (List ℕ)) → IsFresh reader → HasRead reader reader [] left left
reading-start reader left fresh = record { fresh = fresh; taken = []; took = sym (before-nil left); goes = λ more. refl }

-- a stretch, and then another one
pub reading-joined : (first middle last : RecordReader) (front back : List LinkedRecord) (left_first left_middle left_last : Option (List ℕ))
    → HasRead first middle front left_first left_middle → HasRead middle last back left_middle left_last → HasRead first last (front ++ back) left_first left_last
reading-joined first middle last front back left_first left_middle left_last one two = record {
  fresh = two.fresh;
  taken = one.taken ++ two.taken;
  took = one.took ∙ ap (before one.taken) two.took ∙ before-before one.taken two.taken left_last;
  goes = λ more.
      ap (recording_for first) (append_assoc one.taken two.taken more)
      ∙ one.goes (two.taken ++ more)
      ∙ ap (with_front front) (two.goes more)
      ∙ front_of_front front back (recording_for last more);
}

-- what is told of the rest: the records so far and the rest's are the whole's
pub reading-told : (first reader : RecordReader) (given : List LinkedRecord) (left_first left : Option (List ℕ)) (whole : List ℕ)
    → HasRead first reader given left_first left → left_first ≡ Some whole → (rest : List ℕ) × (left ≡ Some rest) × (recording_for first whole ≡ with_front given (recording_for reader rest))
reading-told first reader given left_first left whole so_far told =
    let split = split_told left_first left so_far.taken whole so_far.took told in
    (split.rest, split.still, ap (recording_for first) split.joined ∙ so_far.goes split.rest)

-- no further record is whole within what was taken then
pub reading-stopped : (first reader : RecordReader) (given : List LinkedRecord) (left_first left left_next : Option (List ℕ))
    → HasRead first reader given left_first left → AreWhole reader [] left left_next → AreWhole first given left_first left_next
reading-stopped first reader given left_first left left_next so_far whole = record {
  taken = so_far.taken ++ whole.taken;
  took = so_far.took ∙ ap (before so_far.taken) whole.took ∙ before-before so_far.taken whole.taken left_next;
  are = ap (λ (r : Recording). r.records) (so_far.goes whole.taken) ∙ front_of_nothing given (recording_for reader whole.taken) whole.are;
}

-- the records that were given so far are those that are whole within what was taken
pub reading-whole : (first reader : RecordReader) (given : List LinkedRecord) (left_first left : Option (List ℕ)) → HasRead first reader given left_first left → AreWhole first given left_first left
reading-whole first reader given left_first left so_far =
    reading-stopped first reader given left_first left left so_far (record { taken = []; took = sym (before-nil left); are = none_held reader })

-- the ending of what is left is that of the whole
pub reading-ended : (first reader : RecordReader) (given : List LinkedRecord) (left_first left : Option (List ℕ)) (ending : Ending ReadFault)
    → HasRead first reader given left_first left → EndsWith reader [] left ending → EndsWith first given left_first ending
reading-ended first reader given left_first left ending so_far ends whole told =
    let found = reading-told first reader given left_first left whole so_far told in
    found.2 ∙ ap (with_front given) (ends found.0 found.1) ∙ front_of_none given ending

-- a refusal of what is left is that of the whole
pub reading-refused : (first reader : RecordReader) (given : List LinkedRecord) (why : ReadFault) (left_first left : Option (List ℕ))
    → HasRead first reader given left_first left → IsRefusedBy reader [] left why → IsRefusedBy first given left_first why
reading-refused first reader given (fault.Bad why) left_first left so_far ends = reading-ended first reader given left_first left (Refused (fault.Bad why)) so_far ends
reading-refused first reader given fault.Failed left_first left so_far ends = tt
reading-refused first reader given fault.NoMemory left_first left so_far ends = tt

-- ---- the next record of a savefile

-- a record was given
pub savefile_gives : (old new : classic_reader.Reading) (given : Record) (left left_next : Option (List ℕ))
    → old.refused ≡ None
    → classic_reader.TakesRecord old given left left_next
    → new ≡ classic_reader.after_next old (Some given)
    → Gives (Savefile old) (Savefile new) (Ok (Some (linked old.head.link given))) left left_next
unfolding recording_for
savefile_gives old new given left left_next fresh takes is =
    subst (λ (r : classic_reader.Reading). Gives (Savefile old) (Savefile r) (Ok (Some (linked old.head.link given))) left left_next) (sym is) (
      record {
        fresh = fresh;
        taken = takes.taken;
        took = takes.took;
        goes = λ more. ap (recording_of old.head.link) (classic_records.records_left-follows old.head old.number old.at (takes.taken ++ more) given more (takes.goes more));
      },
      record { number = refl; within = (next_means old.head old.number old.at (takes.taken ++ []) given [] (takes.goes [])).few },
    )

-- what comes next for a reader of a savefile is this ending
savefile_ends : (old : classic_reader.Reading) (left : Option (List ℕ)) (ending : Ending CaptureFault)
    → ((rest : List ℕ) → left ≡ Some rest → classic.next_of old.head old.number old.at rest ≡ classic.Ends ending)
    → (whole : List ℕ)
    → left ≡ Some whole
    → recording_for (Savefile old) whole ≡ recording_of old.head.link (no_more ending)
unfolding recording_for
savefile_ends old left ending ends whole told = ap (recording_of old.head.link) (classic_records.records_left-ends old.head old.number old.at whole ending (ends whole told))

-- a savefile has no record left
pub savefile_ended : (old new : classic_reader.Reading) (left left_next : Option (List ℕ)) → left_next ≡ left
    → ((rest : List ℕ) → left ≡ Some rest → classic_reader.Gives (Ok None) (classic.next_of old.head old.number old.at rest)) → Gives (Savefile old) (Savefile new) (Ok None) left left_next
savefile_ended old new left left_next same gives = (
  record { taken = []; took = sym same ∙ sym (before-nil left_next); are = none_held (Savefile old) },
  savefile_ends old left Clean gives,
)

-- a savefile was refused, or couldn't be read on
savefile_whole : (old : classic_reader.Reading) (why : CaptureFault) (left left_next : Option (List ℕ)) → classic_reader.TakesNone old why left left_next → AreWhole (Savefile old) [] left left_next
unfolding recording_for
savefile_whole old why left left_next takes =
    let shown = classic_records.shows_ending why (classic.next_of old.head old.number old.at takes.taken) takes.shows in
    record {
      taken = takes.taken;
      took = takes.took;
      are = ap (λ (cut : Cut Record CaptureFault). (recording_of old.head.link cut).records) (classic_records.records_left-ends old.head old.number old.at takes.taken shown.0 shown.1);
    }

savefile_refused_by : (old : classic_reader.Reading) (why : CaptureFault) (left : Option (List ℕ))
    → ((rest : List ℕ) → left ≡ Some rest → classic_reader.Gives (Err why) (classic.next_of old.head old.number old.at rest))
    → IsRefusedBy (Savefile old) [] left (of_savefile why)
savefile_refused_by old savefile_fault.NotPcap left gives = savefile_ends old left (Refused savefile_fault.NotPcap) gives
savefile_refused_by old (savefile_fault.LinkType link_type) left gives = savefile_ends old left (Refused (savefile_fault.LinkType link_type)) gives
savefile_refused_by old (savefile_fault.Truncated at) left gives = savefile_ends old left (Refused (savefile_fault.Truncated at)) gives
savefile_refused_by old (savefile_fault.TooLong at len) left gives = savefile_ends old left (Refused (savefile_fault.TooLong at len)) gives
savefile_refused_by old savefile_fault.TooMany left gives = savefile_ends old left (Refused savefile_fault.TooMany) gives
savefile_refused_by old savefile_fault.Failed left gives = tt
savefile_refused_by old savefile_fault.NoMemory left gives = tt

pub savefile_stops : (old new : classic_reader.Reading) (why : CaptureFault) (so : ReadFault) (left left_next : Option (List ℕ))
    → so ≡ of_savefile why
    → classic_reader.TakesNone old why left left_next
    → ((rest : List ℕ) → left ≡ Some rest → classic_reader.Gives (Err why) (classic.next_of old.head old.number old.at rest))
    → Gives (Savefile old) (Savefile new) (Err so) left left_next
savefile_stops old new why so left left_next is takes gives =
    (savefile_whole old why left left_next takes, subst (λ (f : ReadFault). IsRefusedBy (Savefile old) [] left f) (sym is) (savefile_refused_by old why left gives))

-- ---- the next record of blocks

-- a record was given
pub blocks_give : (old new : blocks_reader.Reading) (given : NgRecord) (left left_next : Option (List ℕ)) → blocks_reader.TakesRecord old new given left left_next
    → Gives (Blocks old) (Blocks new) (Ok (Some (with_link given))) left left_next
unfolding recording_for
blocks_give old new given left left_next takes =
    let counted = follows_counted old.walk (takes.taken ++ []) given new.walk [] (takes.goes []) in (
      record {
        fresh = takes.fresh;
        taken = takes.taken;
        took = takes.took;
        goes = λ more. ap recording_of_blocks (blocks_records.records_left-follows old.walk (takes.taken ++ more) given new.walk more (takes.goes more));
      },
      record { number = counted.one; within = counted.few },
    )

-- what comes next for a reader of blocks is this ending
blocks_end : (old : blocks_reader.Reading) (left : Option (List ℕ)) (ending : Ending NgFault) → ((rest : List ℕ) → left ≡ Some rest → blocks.next_of old.walk rest ≡ blocks.Ends ending)
    → (whole : List ℕ) → left ≡ Some whole → recording_for (Blocks old) whole ≡ recording_of_blocks (no_more ending)
unfolding recording_for
blocks_end old left ending ends whole told = ap recording_of_blocks (blocks_records.records_left-ends old.walk whole ending (ends whole told))

-- these bytes hold no record for a reader of blocks
blocks_none : (old : blocks_reader.Reading) (taken : List ℕ) (ending : Ending NgFault) → blocks.next_of old.walk taken ≡ blocks.Ends ending → (recording_for (Blocks old) taken).records ≡ []
unfolding recording_for
blocks_none old taken ending ends = ap (λ (cut : Cut NgRecord NgFault). (recording_of_blocks cut).records) (blocks_records.records_left-ends old.walk taken ending ends)

-- none was left after the blocks that were skipped
pub blocks_ended : (old new : blocks_reader.Reading) (left left_next : Option (List ℕ)) → blocks_reader.TakesBlocks old new left left_next
    → ((rest : List ℕ) → left ≡ Some rest → blocks_reader.Answers (Ok None) (blocks.next_of old.walk rest)) → Gives (Blocks old) (Blocks new) (Ok None) left left_next
blocks_ended old new left left_next takes gives = (
  record {
    taken = takes.taken;
    took = takes.took;
    are = blocks_none old takes.taken Clean
        (ap (blocks.next_of old.walk) (sym (append-nil takes.taken)) ∙ takes.goes [] ∙ next_of-stops new.walk [] Clean (step_nothing new.walk));
  },
  blocks_end old left Clean gives,
)

-- a refusal that is shown is an ending
shown_ending : (why : NgFault) (next : blocks.Next) → blocks_reader.ShowsRefusal why next → (ending : Ending NgFault) × (next ≡ blocks.Ends ending)
shown_ending blocks_fault.NotPcapng next shows = (Refused blocks_fault.NotPcapng, shows)
shown_ending (blocks_fault.Truncated at) next shows = (Refused (blocks_fault.Truncated at), shows)
shown_ending (blocks_fault.BadBlock at) next shows = (Refused (blocks_fault.BadBlock at), shows)
shown_ending (blocks_fault.LinkType at link) next shows = (Refused (blocks_fault.LinkType at link), shows)
shown_ending (blocks_fault.TooLong at len) next shows = (Refused (blocks_fault.TooLong at len), shows)
shown_ending blocks_fault.TooMany next shows = (Refused blocks_fault.TooMany, shows)
shown_ending blocks_fault.Failed next shows = shows
shown_ending blocks_fault.NoMemory next shows = shows

blocks_refused_by : (old : blocks_reader.Reading) (why : NgFault) (left : Option (List ℕ)) → ((rest : List ℕ) → left ≡ Some rest → blocks_reader.Answers (Err why) (blocks.next_of old.walk rest))
    → IsRefusedBy (Blocks old) [] left (of_blocks why)
blocks_refused_by old blocks_fault.NotPcapng left gives = blocks_end old left (Refused blocks_fault.NotPcapng) gives
blocks_refused_by old (blocks_fault.Truncated at) left gives = blocks_end old left (Refused (blocks_fault.Truncated at)) gives
blocks_refused_by old (blocks_fault.BadBlock at) left gives = blocks_end old left (Refused (blocks_fault.BadBlock at)) gives
blocks_refused_by old (blocks_fault.LinkType at link) left gives = blocks_end old left (Refused (blocks_fault.LinkType at link)) gives
blocks_refused_by old (blocks_fault.TooLong at len) left gives = blocks_end old left (Refused (blocks_fault.TooLong at len)) gives
blocks_refused_by old blocks_fault.TooMany left gives = blocks_end old left (Refused blocks_fault.TooMany) gives
blocks_refused_by old blocks_fault.Failed left gives = tt
blocks_refused_by old blocks_fault.NoMemory left gives = tt

-- blocks were refused, or couldn't be read on
pub blocks_stop : (old new : blocks_reader.Reading) (why : NgFault) (so : ReadFault) (left left_next : Option (List ℕ)) → so ≡ of_blocks why → blocks_reader.TakesNone old why left left_next
    → ((rest : List ℕ) → left ≡ Some rest → blocks_reader.Answers (Err why) (blocks.next_of old.walk rest)) → Gives (Blocks old) (Blocks new) (Err so) left left_next
blocks_stop old new why so left left_next is takes gives =
    let shown = shown_ending why (blocks.next_of old.walk takes.taken) takes.shows in (
      record { taken = takes.taken; took = takes.took; are = blocks_none old takes.taken shown.0 shown.1 },
      subst (λ (f : ReadFault). IsRefusedBy (Blocks old) [] left f) (sym is) (blocks_refused_by old why left gives),
    )
