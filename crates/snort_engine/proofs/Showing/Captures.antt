-- How the showing of a capture follows its answer.
use Rattle.std.proofs.Common.{◌≡◌, ℕ, ◌≤◌, List, [], ◌++◌, Option, Some, None, Result, Ok, Err, length, take, drop, refl, sym, ap, subst, append_assoc, ◌∙◌, arith, inl, inr, ◌⊎◌, ⊎_elim}
use Rattle.std.specs.FinMap.{get}
use Rattle.std.specs.List.{concat}
use Rattle.std.proofs.lemmas.List.{append-nil, take-append-drop, take-append-le}
use Rattle.edge_io.specs.Told.{grown, Rose}
use Rattle.edge_io.specs.Files.{Files}
use Rattle.edge_io.proofs.Told.{grown-nil}
use Rattle.pcap_input.proofs.Cuts.{first_records-none}
use Rattle.pcap_input.proofs.Told.{split_told}
use Rattle.record_jobs.specs.Way.{LinkedRecord}
use Rattle.alert_lines.specs.Written.{WritesPart}
use Rattle.alert_lines.proofs.Prefixes.{IsPrefix-nil, WritesPart-none}
use Rattle.pcapng_input.specs.declared.fault.ReadFault.{ReadFault}
use Rattle.pcapng_input.specs.declared.fault.ReadFault.TheVariants as fault
use Rattle.snort_engine.specs.declared.reader.RecordReader.{RecordReader}
use Rattle.snort_engine.specs.declared.status.Status.{Status}
use Rattle.snort_engine.specs.declared.status.Status.TheVariants as status
use Rattle.snort_engine.specs.declared.stop.RunStop.{RunStop}
use Rattle.snort_engine.specs.declared.stop.RunStop.TheVariants as stop
use Rattle.snort_engine.specs.Course.{Plan, Goes, Course}
use Rattle.pcap_input.specs.Cut.{AreWithin, Ending, Clean, Refused}
use Rattle.snort_engine.specs.Records.{Recording, records_in, records_of}
use Rattle.snort_engine.specs.Steps.Reader.{BeginsAfter, IsBarelyOpen, IsRefusedAtOnce, Opens, recording_for}
use Rattle.snort_engine.specs.declared.counts.Counts.{Counts}
use Rattle.snort_engine.specs.Trace.{Open, Closed}
use Rattle.snort_engine.specs.Counts.{counts_of, no_counts, told_counts, with_counts}
use Rattle.snort_engine.specs.Lines.{lines}
use Rattle.snort_engine.specs.Answer.{Answer, answer_of, way_answer, capture_answer, recording_answer, fault_text, fault_status, ending_text, ending_status}
use Rattle.snort_engine.specs.Messages.{cannot_read_text}
use Rattle.snort_engine.specs.Outside.{Work}
use Rattle.snort_engine.specs.ReadAhead.{batch, before_last_batch, earlier_batches, lines_due, AreBatches, IsReadInBatches, IsReadAhead, ReadsAhead}
use Rattle.snort_engine.specs.Ending.{IsAnswered, IsTakenOf, lines_within, IsCutShort, Ends}
use Rattle.snort_engine.specs.Steps.Stop.{stop_status, stop_text, outcome_status, outcome_text}
use Rattle.snort_engine.specs.Steps.Reporting.{counts_due}
use Rattle.snort_engine.specs.Steps.Showing.{recording_by, lines_of, IsReadOut, HasReadTo, IsReadCutShort, IsCloseAfter, ShowsTo, WritesSome, ShowsCapture}
use Rattle.snort_engine.proofs.Lines.Laws.{lines_join, lines-nil, lines-none, no_counts-are}
use Rattle.snort_engine.proofs.Records.Limits.{batches_none, before_last}
use Rattle.snort_engine.proofs.Records.Opening.{few_hold_none}
use Rattle.snort_engine.proofs.Headline.Finishing.{IsPlain, ends_met, ends_unread, ends_unwritten, ends_lacking, ahead_goes, ahead_cut}

-- ---- no record

-- these bytes hold no record, whatever the limit
abbrev pub HoldNone : List ℕ → Type 0
HoldNone bytes = (limit : Option ℕ) → (records_in limit bytes).records ≡ []

none_within : (plan : Plan) (bytes : List ℕ) → HoldNone bytes → lines_within plan bytes ≡ []
unfolding lines_within
none_within plan bytes none = ap (λ (x : List LinkedRecord). lines plan [] x Open) (none plan.limit) ∙ lines-nil plan []

none_over : (limit : Option ℕ) (bytes : List ℕ) → HoldNone bytes → AreWithin limit (records_in None bytes).records
none_over None bytes none = tt
none_over (Some limit) bytes none = let size : length (records_in None bytes).records ≡ 0 = ap length (none None) in omega (arith, size)

none_due : (plan : Plan) (bytes : List ℕ) → HoldNone bytes → lines_due plan bytes ≡ []
unfolding lines_due
none_due plan bytes none = ap (λ (x : List LinkedRecord). lines plan [] (earlier_batches x) Open) (none plan.limit) ∙ lines-nil plan []

-- ---- the answer

-- what is said of an outcome, with what was counted
abbrev pub said : {A : Type 0} → Plan → Result A RunStop → Counts → List ℕ
said plan outcome counts = with_counts (outcome_text plan.source outcome) (counts_due plan.counted outcome counts)

-- all warnings of a course
abbrev pub warned : Course → List ℕ
warned course = concat course.warnings

-- a course that goes on with a plan answers as its capture
pub answer_goes : (files : Files) (course : Course) (plan : Plan) → course.way ≡ Goes plan → answer_of files course ≡ capture_answer plan (warned course) (get files plan.source)
answer_goes files course plan goes = ap (way_answer files (warned course)) goes

-- the answer for a capture that is refused at once
answer-err : (plan : Plan) (warnings bytes : List ℕ) (why : ReadFault) (held : Option (List ℕ)) → held ≡ Some bytes → records_of plan bytes ≡ record { records = []; ending = Refused why }
    → capture_answer plan warnings held ≡ recording_answer plan warnings (record { records = []; ending = Refused why })
unfolding capture_answer
answer-err plan warnings bytes why held holds is = ap (capture_answer plan warnings) holds ∙ ap (recording_answer plan warnings) is

answer-lacking : (plan : Plan) (warnings : List ℕ) (held : Option (List ℕ))
    → held ≡ None
    → capture_answer plan warnings held ≡
    record { alerts = []; errors = warnings ++ cannot_read_text plan.source; status = status.HostFault }
unfolding capture_answer
answer-lacking plan warnings held lacks = ap (capture_answer plan warnings) lacks

-- the parts of an answer that is known
answered : (answer meant : Answer) → answer ≡ meant → IsAnswered answer meant.status meant.alerts meant.errors
answered answer meant is = record {
  status = ap (λ (a : Answer). a.status) (sym is);
  alerts_are = ap (λ (a : Answer). a.alerts) (sym is);
  message_is = ap (λ (a : Answer). a.errors) (sym is);
}

-- ---- a capture that was refused at once, or not opened

-- nothing was written, and no record is whole within what was taken of a capture that is open
barely_ahead : (plan : Plan) (files : Files) (before after : Work) (ended : Status)
    → after.alerts ≡ before.alerts
    → IsBarelyOpen (get files plan.source) after.left
    → IsReadAhead plan (get files plan.source) before after ended
barely_ahead plan files before after ended same open_so = record {
  taken = open_so.taken;
  rest = open_so.rest;
  of = open_so.of;
  still = open_so.still;
  more = [];
  wrote = same ∙ sym (grown-nil before.alerts) ∙ ap (grown before.alerts) (sym (append-nil (lines_due plan open_so.taken) ∙ none_due plan open_so.taken open_so.none));
  within = none_over plan.limit open_so.taken open_so.none;
  in_batches = λ is. inl (subst AreBatches (sym (open_so.none plan.limit)) batches_none);
}

-- a capture that is open so, or that isn't, where the host failed at it
abbrev pub IsOpenOr : Option (List ℕ) → ReadFault → Option (List ℕ) → Type 0
IsOpenOr held why left = IsBarelyOpen held left ⊎ ((why ≡ fault.Failed) × (left ≡ None))

-- the opening was cut off
open_cut : (plan : Plan) (files : Files) (course : Course) (why : ReadFault) (before after : Work) → course.way ≡ Goes plan → after.alerts ≡ before.alerts
    → IsOpenOr (get files plan.source) why after.left → IsCutShort files course before after (warned course ++ cannot_read_text plan.source)
open_cut plan files course why before after goes same takes =
    ⊎_elim
    (λ (open_so : IsBarelyOpen (get files plan.source) after.left).
    cut open_so.taken open_so.none (subst (IsTakenOf (get files plan.source) open_so.taken) (sym open_so.still) open_so.of))
    (λ (nothing : (why ≡ fault.Failed) × (after.left ≡ None)). cut [] empty (subst (IsTakenOf (get files plan.source) []) (sym nothing.1) refl))
    takes
  where
    empty : HoldNone []
    empty limit = few_hold_none limit [] (omega arith)

    cut : (taken : List ℕ) → HoldNone taken → IsTakenOf (get files plan.source) taken after.left → IsCutShort files course before after (warned course ++ cannot_read_text plan.source)
    cut taken none of = record {
      plan = plan;
      goes = goes;
      taken = taken;
      of = of;
      wrote = same ∙ sym (grown-nil before.alerts) ∙ ap (grown before.alerts) (sym (none_within plan taken none));
      says = refl;
    }

-- how far was read ahead of what was written then
open_ahead : (plan : Plan) (files : Files) (course : Course) (why : ReadFault) (before after : Work) (ended : Status) → course.way ≡ Goes plan → after.alerts ≡ before.alerts
    → (ended ≡ status.HostFault) ⊎ (ended ≡ status.NoMemory) → IsOpenOr (get files plan.source) why after.left → ReadsAhead files course before after ended
open_ahead plan files course why before after ended goes same cut takes =
    ⊎_elim
    (λ (open_so : IsBarelyOpen (get files plan.source) after.left). ahead_goes files course plan before after ended goes (barely_ahead plan files before after ended same open_so))
    (λ (nothing : (why ≡ fault.Failed) × (after.left ≡ None)). ahead_cut files course plan before after ended goes cut (inr (record { left = nothing.1; alerts = same })))
    takes

-- a capture that was opened, unless the host failed
still_open : (held left : Option (List ℕ)) (why : ReadFault) → (why ≡ fault.Failed → ⊥) → IsOpenOr held why left → IsBarelyOpen held left
still_open held left why other takes = ⊎_elim (λ (open_so : IsBarelyOpen held left). open_so) (λ (nothing : (why ≡ fault.Failed) × (left ≡ None)). absurd (other nothing.0)) takes

-- a capture that is refused at once
refused_ends : (plan : Plan) (files : Files) (course : Course) (why : ReadFault) (before after : Work) (counts : Counts)
    → course.way ≡ Goes plan
    → after.alerts ≡ before.alerts
    → counts ≡ counts_of plan []
    → IsPlain (fault_status why)
    → (why ≡ fault.Failed → ⊥)
    → IsRefusedAtOnce (get files plan.source) why
    → IsOpenOr (get files plan.source) why after.left
    → Ends files course before after (fault_status why)
    (warned course ++ with_counts (fault_text plan.source why) (told_counts plan.counted counts))
refused_ends plan files course why before after counts goes same counted plain other gives takes =
    let open_so = still_open (get files plan.source) after.left why other takes in
    let bytes = open_so.taken ++ open_so.rest in
    let is = answer_goes files course plan goes ∙ answer-err plan (warned course) bytes why (get files plan.source) open_so.of (gives bytes open_so.of plan.limit) in
    let text : Counts → List ℕ = λ (c : Counts). warned course ++ with_counts (fault_text plan.source why) (told_counts plan.counted c) in
    ends_met files course before after (fault_status why) (lines plan [] [] Closed) (text counts) plain
    (same ∙ sym (grown-nil before.alerts) ∙ ap (grown before.alerts) (sym (lines-none plan)))
    (subst (λ (m : List ℕ). IsAnswered (answer_of files course) (fault_status why) (lines plan [] [] Closed) m) (ap text (sym counted)) (answered (answer_of files course) _ is))
    (ahead_goes files course plan before after (fault_status why) goes (barely_ahead plan files before after (fault_status why) same open_so))

-- a capture that is lacking
lacking_answered : (plan : Plan) (files : Files) (course : Course)
    → course.way ≡ Goes plan
    → get files plan.source ≡ None
    → IsAnswered (answer_of files course) status.HostFault [] (warned course ++ cannot_read_text plan.source)
lacking_answered plan files course goes lacks = answered (answer_of files course) _ (answer_goes files course plan goes ∙ answer-lacking plan (warned course) (get files plan.source) lacks)

-- the capture was refused at once or not opened
open_ends : (plan : Plan) (files : Files) (course : Course) (why : ReadFault) (before after : Work) (counts : Counts)
    → course.way ≡ Goes plan
    → after.alerts ≡ before.alerts
    → counts ≡ counts_of plan []
    → Opens (get files plan.source) (Err why) after.left
    → (why ≡ fault.Failed → Rose before.host_faults after.host_faults ⊎ (get files plan.source ≡ None))
    → Ends files course before after (stop_status (stop.Capture why))
    (warned course ++ said {A = Unit {0}} plan (Err (stop.Capture why)) counts)
unfolding stop_text
open_ends plan files course (fault.Bad why) before after counts goes same counted opens failed =
    refused_ends plan files course (fault.Bad why) before after counts goes same counted tt (λ e. cc) opens.0 opens.1
open_ends plan files course fault.NoMemory before after counts goes same counted opens failed =
    ends_lacking files course before after
    (subst (λ (x : Option (List ℕ)). WritesPart before.alerts (answer_of files course).alerts x) (sym same) (WritesPart-none before.alerts (answer_of files course).alerts))
    (open_ahead plan files course fault.NoMemory before after status.NoMemory goes same (inr refl) opens.1)
open_ends plan files course fault.Failed before after counts goes same counted opens failed =
    ends_unread files course before after [] (warned course ++ cannot_read_text plan.source)
    (same ∙ sym (grown-nil before.alerts))
    (IsPrefix-nil (answer_of files course).alerts)
    (λ still. ⊎_elim (λ risen. absurd (still risen)) (λ lacks. lacking_answered plan files course goes lacks) (failed refl))
    (inr (open_cut plan files course fault.Failed before after goes same opens.1))
    (open_ahead plan files course fault.Failed before after status.HostFault goes same (inl refl) opens.1)

-- ---- a capture that was opened and shown

-- the records before the last one's batch are the first of those given, if these are whole batches and at most one more
-- follows them, or none: so their lines come first
front_first : (plan : Plan) (given last : List LinkedRecord) → AreBatches given ⊎ (last ≡ []) → length last ≤ batch
    → (others : List ℕ) × (lines plan [] given Open ≡ lines plan [] (earlier_batches (given ++ last)) Open ++ others)
front_first plan given last batches few =
    let count = before_last_batch (length (given ++ last)) in
    let others = lines plan (take count given) (drop count given) Open in
    let front : take count (given ++ last) ≡ take count given = take-append-le count given last (before_last given last batches few) in (
      others,
      ap (λ (x : List LinkedRecord). lines plan [] x Open) (sym (take-append-drop count given))
          ∙ lines_join plan [] (take count given) (drop count given) Open
          ∙ ap (λ (x : List LinkedRecord). lines plan [] x Open ++ others) (sym front),
    )

-- the records within what was taken by the opening and some more bytes
records_after : (plan : Plan) (front taken : List ℕ) (reader : RecordReader) → BeginsAfter front reader → (records_of plan (front ++ taken)).records ≡ (recording_by plan reader taken).records
records_after plan front taken reader begins = ap (λ (r : Recording). r.records) (begins plan.limit taken)

-- all records within what was taken by the opening and some more bytes, without a limit
all_after : (front taken : List ℕ) (reader : RecordReader) → BeginsAfter front reader → (records_in None (front ++ taken)).records ≡ (recording_for reader taken).records
all_after front taken reader begins = ap (λ (r : Recording). r.records) (begins None taken ∙ first_records-none (recording_for reader taken))

-- what was taken by the opening and after it, and the rest
joined_after : (front taken rest : List ℕ) (whole : List ℕ) → whole ≡ taken ++ rest → (front ++ taken) ++ rest ≡ front ++ whole
joined_after front taken rest whole joined = append_assoc front taken rest ∙ ap (λ (x : List ℕ). front ++ x) (sym joined)

-- what is known of a capture whose records are to be read: that the answer is for its bytes, and that the
-- reader begins after the first of them
pub record IsOpenCapture (plan : Plan) (files : Files) (course : Course) (left_first : Option (List ℕ)) (bytes : List ℕ) (reader : RecordReader) : Type 0 where
  pub answers : answer_of files course ≡ capture_answer plan (warned course) (Some bytes)
  pub front : List ℕ
  pub rest : List ℕ
  pub joined : bytes ≡ front ++ rest
  pub told : left_first ≡ Some rest
  pub begins : BeginsAfter front reader

-- how far was read where a write failed
written_to : (plan : Plan) (reader : RecordReader) (taken : List ℕ) (left : Option (List ℕ)) (failed : Type 0)
    (outcome : Result (Unit {0}) RunStop)
    → outcome_status outcome ≡ status.WriteFault
    → HasReadTo plan reader taken left failed outcome
    → AreBatches (recording_by plan reader taken).records ⊎ (IsReadOut plan reader taken left ⊎ failed)
written_to plan reader taken left failed (Ok done) is to = absurd cc
written_to plan reader taken left failed (Err (stop.Capture fault.Failed)) is to = absurd cc
written_to plan reader taken left failed (Err (stop.Capture fault.NoMemory)) is to = absurd cc
written_to plan reader taken left failed (Err stop.NoMemory) is to = absurd cc
written_to plan reader taken left failed (Err stop.CannotWrite) is to = to
written_to plan reader taken left failed (Err why) is to = absurd cc

-- how far was read of the whole capture where a write failed
batches_after : (plan : Plan) (front taken rest back : List ℕ) (reader : RecordReader) (left : Option (List ℕ))
    (failed since : Type 0)
    → BeginsAfter front reader
    → left ≡ Some back
    → (front ++ taken) ++ rest ≡ front ++ back
    → (failed → since)
    → AreBatches (recording_by plan reader taken).records ⊎ (IsReadOut plan reader taken left ⊎ failed)
    → IsReadInBatches plan (front ++ taken) rest since
batches_after plan front taken rest back reader left failed since begins told joined rises (inl whole) = inl (subst AreBatches (sym (records_after plan front taken reader begins)) whole)
batches_after plan front taken rest back reader left failed since begins told joined rises (inr (inl out)) =
    inr (inl (ap (λ (x : List ℕ). (records_of plan x).records) joined ∙ records_after plan front back reader begins ∙ out back told ∙ sym (records_after plan front taken reader begins)))
batches_after plan front taken rest back reader left failed since begins told joined rises (inr (inr rose)) = inr (inr (rises rose))

-- the lines follow closely the records of a capture that was opened
ahead_after : (plan : Plan) (files : Files) (course : Course) (held : Option (List ℕ)) (bytes : List ℕ) (reader : RecordReader)
    (left_first : Option (List ℕ)) (before after : Work) (failed : Type 0) (outcome : Result (Unit {0}) RunStop)
    → held ≡ Some bytes
    → IsOpenCapture plan files course left_first bytes reader
    → IsCloseAfter plan reader (record { left = left_first; written = before.alerts })
    (record { left = after.left; written = after.alerts }) failed outcome
    → (failed → Rose before.host_faults after.host_faults)
    → IsReadAhead plan held before after (outcome_status outcome)
unfolding lines_of lines_due
ahead_after plan files course held bytes reader left_first before after failed outcome holds o close rises =
    let split = split_told left_first after.left close.taken o.rest close.took o.told in
    let given = close.given in
    let last = close.last in
    let front = front_first plan given last close.batches close.few in
    let others = front.0 in
    let records : (records_of plan (o.front ++ close.taken)).records ≡ given ++ last = records_after plan o.front close.taken reader o.begins ∙ close.are in
    let shown : lines plan [] given Open ≡ lines_due plan (o.front ++ close.taken) ++ others =
    front.1 ∙ ap (λ (x : List LinkedRecord). lines plan [] (earlier_batches x) Open ++ others) (sym records) in
    record {
      taken = o.front ++ close.taken;
      rest = split.rest;
      of = holds ∙ ap Some (o.joined ∙ sym (joined_after o.front close.taken split.rest o.rest split.joined));
      still = split.still;
      more = others ++ close.more;
      wrote = close.wrote ∙ ap (λ (x : List ℕ). grown before.alerts (x ++ close.more)) shown ∙ ap (grown before.alerts) (append_assoc (lines_due plan (o.front ++ close.taken)) others close.more);
      within = subst (AreWithin plan.limit) (sym (all_after o.front close.taken reader o.begins)) close.within;
      in_batches = λ is. batches_after plan o.front close.taken split.rest o.rest reader left_first failed (Rose before.host_faults after.host_faults) o.begins o.told
          (joined_after o.front close.taken split.rest o.rest split.joined) rises (written_to plan reader close.taken left_first failed outcome is close.to);
    }

-- the reading was cut off after what the opening took
cut_after : (plan : Plan) (files : Files) (course : Course) (bytes : List ℕ) (reader : RecordReader) (left_first : Option (List ℕ)) (before after : Work) → course.way ≡ Goes plan
    → get files plan.source ≡ Some bytes → IsOpenCapture plan files course left_first bytes reader
    → IsReadCutShort plan reader (record { left = left_first; written = before.alerts }) (record { left = after.left; written = after.alerts })
    → IsCutShort files course before after (warned course ++ cannot_read_text plan.source)
unfolding lines_of lines_within
cut_after plan files course bytes reader left_first before after goes held o cut =
    let split = split_told left_first after.left cut.taken o.rest cut.took o.told in
    record {
      plan = plan;
      goes = goes;
      taken = o.front ++ cut.taken;
      of = subst (IsTakenOf (get files plan.source) (o.front ++ cut.taken)) (sym split.still) (held ∙ ap Some (o.joined ∙ sym (joined_after o.front cut.taken split.rest o.rest split.joined)));
      wrote = cut.wrote ∙ ap (λ (x : List LinkedRecord). grown before.alerts (lines plan [] x Open)) (sym (records_after plan o.front cut.taken reader o.begins));
      says = refl;
    }

-- the answer of a capture that was opened
answer_open : (plan : Plan) (files : Files) (course : Course) (left_first : Option (List ℕ)) (bytes : List ℕ) (reader : RecordReader) (o : IsOpenCapture plan files course left_first bytes reader)
    → answer_of files course ≡ recording_answer plan (warned course) (recording_by plan reader o.rest)
unfolding capture_answer
answer_open plan files course left_first bytes reader o =
    o.answers ∙ ap (λ (x : List ℕ). capture_answer plan (warned course) (Some x)) o.joined ∙ ap (recording_answer plan (warned course)) (o.begins plan.limit o.rest)

-- shown to an ending
shown_ends : (plan : Plan) (files : Files) (course : Course) (left_first left_last : Option (List ℕ)) (bytes : List ℕ)
    (reader : RecordReader) (ending : Ending ReadFault) (before after : Work) (counts : Counts)
    → IsOpenCapture plan files course left_first bytes reader
    → IsPlain (ending_status ending)
    → ShowsTo plan reader ending (record { left = left_first; written = before.alerts })
    (record { left = left_last; written = after.alerts }) counts
    → ReadsAhead files course before after (ending_status ending)
    → Ends files course before after (ending_status ending)
    (warned course ++ with_counts (ending_text plan.source ending) (told_counts plan.counted counts))
unfolding lines_of
shown_ends plan files course left_first left_last bytes reader ending before after counts o plain shows ahead =
    let shown = shows o.rest o.told in
    let records = (recording_by plan reader o.rest).records in
    let meant : answer_of files course ≡ recording_answer plan (warned course) (record { records = records; ending = ending }) =
    answer_open plan files course left_first bytes reader o
    ∙ ap (λ (e : Ending ReadFault). recording_answer plan (warned course) (record { records = records; ending = e }))
    shown.ends in
    let text : Counts → List ℕ =
    λ (c : Counts). warned course ++ with_counts (ending_text plan.source ending) (told_counts plan.counted c) in
    ends_met files course before after (ending_status ending) (lines plan [] records Closed) (text counts) plain shown.wrote
    (subst (λ (m : List ℕ). IsAnswered (answer_of files course) (ending_status ending) (lines plan [] records Closed) m)
    (ap text (sym shown.counted))
    (answered (answer_of files course) _ meant))
    ahead

-- a part of its lines
part_of_show : (plan : Plan) (files : Files) (course : Course) (left_first left_last : Option (List ℕ)) (bytes : List ℕ)
    (reader : RecordReader) (before after : Work)
    → IsOpenCapture plan files course left_first bytes reader
    → WritesSome plan reader (record { left = left_first; written = before.alerts })
    (record { left = left_last; written = after.alerts })
    → WritesPart before.alerts (answer_of files course).alerts after.alerts
unfolding lines_of
part_of_show plan files course left_first left_last bytes reader before after o some =
    subst (λ (a : Answer). WritesPart before.alerts a.alerts after.alerts) (sym (answer_open plan files course left_first bytes reader o)) (some o.rest o.told)

-- the showing of a capture, where this is what a fault of the host leaves, and how far was read ahead
pub shown_by : (plan : Plan) (files : Files) (course : Course) (left_first left_last : Option (List ℕ)) (bytes : List ℕ)
    (reader : RecordReader) (before after : Work) (counts : Counts) (outcome : Result (Unit {0}) RunStop)
    → IsOpenCapture plan files course left_first bytes reader
    → ShowsCapture plan reader (record { left = left_first; written = before.alerts })
    (record { left = left_last; written = after.alerts }) counts outcome
    → (outcome_status outcome ≡ status.HostFault →
    IsReadCutShort plan reader (record { left = left_first; written = before.alerts })
    (record { left = left_last; written = after.alerts })
    → IsCutShort files course before after (warned course ++ cannot_read_text plan.source))
    → (outcome_status outcome ≡ status.HostFault → Rose before.host_faults after.host_faults)
    → ((ended : Status) → outcome_status outcome ≡ ended → ReadsAhead files course before after ended)
    → Ends files course before after (outcome_status outcome) (warned course ++ said plan outcome counts)
unfolding WritesPart stop_text
shown_by plan files course left_first left_last bytes reader before after counts (Ok done) o shows short risen ahead =
    shown_ends plan files course left_first left_last bytes reader Clean before after counts o tt shows (ahead status.Done refl)
shown_by plan files course left_first left_last bytes reader before after counts (Err (stop.Capture fault.Failed)) o (cut, some) short risen ahead =
    let part = part_of_show plan files course left_first left_last bytes reader before after o some in
    ends_unread files course before after part.0 (warned course ++ cannot_read_text plan.source) part.2 part.1
    (λ still. absurd (still (risen refl)))
    (inr (short refl cut))
    (ahead status.HostFault refl)
shown_by plan files course left_first left_last bytes reader before after counts (Err stop.CannotWrite) o some short risen ahead =
    ends_unwritten files course before after (part_of_show plan files course left_first left_last bytes reader before after o some) (ahead status.WriteFault refl)
shown_by plan files course left_first left_last bytes reader before after counts (Err stop.NoMemory) o some short risen ahead =
    ends_lacking files course before after (part_of_show plan files course left_first left_last bytes reader before after o some) (ahead status.NoMemory refl)
shown_by plan files course left_first left_last bytes reader before after counts (Err (stop.Capture fault.NoMemory)) o some short risen ahead =
    ends_lacking files course before after (part_of_show plan files course left_first left_last bytes reader before after o some) (ahead status.NoMemory refl)
shown_by plan files course left_first left_last bytes reader before after counts (Err (stop.Capture why)) o seen short risen ahead =
    shown_ends plan files course left_first left_last bytes reader (Refused why) before after counts o tt seen (ahead status.BadCapture refl)
shown_by plan files course left_first left_last bytes reader before after counts (Err why) o seen short risen ahead = absurd seen

-- a capture that was opened and shown
pub capture_ends : (plan : Plan) (files : Files) (course : Course) (reader : RecordReader) (left_first : Option (List ℕ))
    (before after : Work) (counts : Counts) (failed : Type 0) (outcome : Result (Unit {0}) RunStop)
    → course.way ≡ Goes plan
    → Opens (get files plan.source) (Ok reader) left_first
    → ShowsCapture plan reader (record { left = left_first; written = before.alerts })
    (record { left = after.left; written = after.alerts }) counts outcome
    → IsCloseAfter plan reader (record { left = left_first; written = before.alerts })
    (record { left = after.left; written = after.alerts }) failed outcome
    → (failed → Rose before.host_faults after.host_faults)
    → (outcome_status outcome ≡ status.HostFault → Rose before.host_faults after.host_faults)
    → Ends files course before after (outcome_status outcome) (warned course ++ said plan outcome counts)
capture_ends plan files course reader left_first before after counts failed outcome goes opens shows close rises risen =
    let bytes = opens.front ++ opens.rest in
    let o : IsOpenCapture plan files course left_first bytes reader =
    record {
      answers = answer_goes files course plan goes ∙ ap (capture_answer plan (warned course)) opens.of;
      front = opens.front;
      rest = opens.rest;
      joined = refl;
      told = opens.still;
      begins = opens.begins;
    } in
    let ahead : IsReadAhead plan (get files plan.source) before after (outcome_status outcome) =
    ahead_after plan files course (get files plan.source) bytes reader left_first before after failed outcome opens.of o close
    rises in
    shown_by plan files course left_first after.left bytes reader before after counts outcome o shows
    (λ failed cut. cut_after plan files course bytes reader left_first before after goes opens.of o cut)
    risen
    (λ ended is. subst (λ (s : Status). ReadsAhead files course before after s) is
    (ahead_goes files course plan before after (outcome_status outcome) goes ahead))

-- the capture was refused at once or not opened, and a run is stopped by that
pub open_stops : (plan : Plan) (files : Files) (course : Course) (why : ReadFault) (before after : Work) (counts : Counts) (outcome : Result (Unit {0}) RunStop) (stopped : RunStop)
    → counts ≡ no_counts → outcome ≡ Err stopped → stopped ≡ stop.Capture why
    → course.way ≡ Goes plan → after.alerts ≡ before.alerts
    → Opens (get files plan.source) (Err why) after.left
    → (why ≡ fault.Failed → Rose before.host_faults after.host_faults ⊎ (get files plan.source ≡ None))
    → Ends files course before after (outcome_status outcome) (warned course ++ said plan outcome counts)
open_stops plan files course why before after counts outcome stopped none is from goes same opens failed =
    let by : outcome ≡ Err (stop.Capture why) = is ∙ ap Err from in
    subst (λ (o : Result (Unit {0}) RunStop). Ends files course before after (outcome_status o) (warned course ++ said plan o counts)) (sym by)
    (open_ends plan files course why before after counts goes same (none ∙ no_counts-are plan) opens failed)
