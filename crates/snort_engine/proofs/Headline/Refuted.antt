-- Runs that the headline refuses: one line short, one record too far ahead, one after a write fault, one after the
-- limit, flows ended after a read fault, one opening too many.
--
-- The first and the last ones speak of any capture, the second of one whose first batch has a line, and after
-- which a record was taken. They show that the relations say something of such runs by themselves,
-- whatever a body's proof looks like.
use Rattle.std.proofs.Common.{◌≡◌, ℕ, ◌+◌, ◌-◌, ◌≤◌, List, [], ◌∷◌, ◌++◌, Option, Some, None, length, take, refl, sym, ap, subst, append_assoc, ◌∙◌, arith, inl, inr, ⊎_elim}
use Rattle.std.specs.FinMap.{get}
use Rattle.std.proofs.lemmas.List.{length-append, take_at}
use Rattle.std.proofs.Math.Seq.{take-append-add}
use Rattle.edge_io.specs.Told.{grown, Rose}
use Rattle.edge_io.specs.Files.{Files}
use Rattle.edge_io.proofs.Told.{grown-nil}
use Rattle.option_eval.specs.Places.{Means}
use Rattle.command_words.specs.CommandLine.{command_line}
use Rattle.snort_engine.specs.declared.status.Status.{Status}
use Rattle.snort_engine.specs.declared.status.Status.TheVariants as status
use Rattle.snort_engine.specs.Course.{Plan, Way, Goes, Course, given}
use Rattle.record_jobs.specs.Way.{LinkedRecord}
use Rattle.pcap_input.specs.Cut.{AreWithin}
use Rattle.snort_engine.specs.Records.{records_in, records_of}
use Rattle.snort_engine.specs.Trace.{Open}
use Rattle.snort_engine.specs.Lines.{lines}
use Rattle.snort_engine.specs.Answer.{answer_of}
use Rattle.snort_engine.specs.Outside.{Outside, Work}
use Rattle.snort_engine.specs.ReadAhead.{batch, before_last_batch, earlier_batches, lines_due, IsReadInBatches, IsUntouched, IsShut, IsReadAhead, ReadsAhead, ReadsAheadOn}
use Rattle.snort_engine.specs.Ending.{Ends, IsAnswered, IsCutShort, IsTakenOf, lines_within}
use Rattle.snort_engine.specs.Headline.{HasOther, Headline}
use Rattle.snort_engine.proofs.Lines.Laws.{lines_join}

-- after what is told, a text and no text differ
after_apart : (old text : List ℕ) (byte : ℕ) (rest : List ℕ) → grown (Some old) text ≡ grown (Some old) (text ++ byte ∷ rest) → ⊥
unfolding grown
after_apart old text byte rest same =
    let joined : old ++ text ≡ old ++ (text ++ byte ∷ rest) = cc in
    let lengths : length (old ++ text) ≡ length (old ++ (text ++ byte ∷ rest)) = ap length joined in
    absurd (omega (arith, lengths, length-append old text, length-append old (text ++ byte ∷ rest), length-append text (byte ∷ rest)))

-- the lines of the first record alone, where the answer has those of both: no run ends so as Done
pub one_line_short : (files : Files) (course : Course) (before after : Work) (message old first : List ℕ) (byte : ℕ) (second : List ℕ) → before.alerts ≡ Some old
    → (answer_of files course).alerts ≡ first ++ byte ∷ second → after.alerts ≡ grown (Some old) first → Ends files course before after status.Done message → ⊥
one_line_short files course before after message old first byte second told answers wrote ends =
    after_apart old first byte second
    (sym wrote ∙ ends.wrote ∙ ap (λ (b : Option (List ℕ)). grown b ends.alerts) told
    ∙ ap (grown (Some old)) ((ends.ended_as_stated tt).alerts_are ∙ answers))

-- the first records of joined lists, where they go past the first list
front_past : (count : ℕ) (first others : List LinkedRecord) → length first ≤ count → take count (first ++ others) ≡ first ++ take (count - length first) others
front_past count first others past =
    let count_is : count ≡ length first + (count - length first) = omega (arith, past) in
    ap (λ (n : ℕ). take n (first ++ others)) count_is ∙ take-append-add first others (count - length first)

-- a batch lies before the last record's, if some records follow it
past_first : (first others : List LinkedRecord) → length first ≡ batch → 1 ≤ length others → length first ≤ before_last_batch (length (first ++ others))
past_first first others size some = omega (arith, size, some, length-append first others)

-- where more records than a batch were taken, the lines of the first batch are due, and come first
due_first : (plan : Plan) (taken : List ℕ) (first others : List LinkedRecord) → (records_of plan taken).records ≡ first ++ others → length first ≡ batch → 1 ≤ length others
    → (more : List ℕ) × (lines_due plan taken ≡ lines plan [] first Open ++ more)
unfolding lines_due
due_first plan taken first others are size some =
    let count = before_last_batch (length (first ++ others)) in
    let further = take (count - length first) others in (
      lines plan first further Open,
      ap (λ (x : List LinkedRecord). lines plan [] (earlier_batches x) Open) are
          ∙ ap (λ (x : List LinkedRecord). lines plan [] x Open) (front_past count first others (past_first first others size some))
          ∙ lines_join plan [] first further Open,
    )

-- fronts of one text before one rest are the same
same_front : (front other rest other_rest : List ℕ) → rest ≡ other_rest → front ++ rest ≡ other ++ other_rest → front ≡ other
same_front front other rest other_rest rests wholes =
    let one : front ++ rest ≡ other ++ rest = wholes ∙ ap (λ (x : List ℕ). other ++ x) (sym rests) in
    let lengths : length (front ++ rest) ≡ length (other ++ rest) = ap length one in
    let size : length front ≡ length other = omega (arith, lengths, length-append front rest, length-append other rest) in
    sym (take_at front rest (length front) refl) ∙ ap (take (length front)) one ∙ take_at other rest (length front) (sym size)

-- of a capture that is open more records than a batch were taken, and the lines of the first batch go further than this
-- text
pub record IsTakenBeyond (plan : Plan) (held left : Option (List ℕ)) (text : List ℕ) : Type 0 where
  pub taken : List ℕ
  pub rest : List ℕ
  pub of : held ≡ Some (taken ++ rest)
  pub still : left ≡ Some rest
  pub first : List LinkedRecord
  pub others : List LinkedRecord
  pub are : (records_of plan taken).records ≡ first ++ others
  pub size : length first ≡ batch
  pub some : 1 ≤ length others
  pub byte : ℕ
  pub line : List ℕ
  pub shown : lines plan [] first Open ≡ text ++ byte ∷ line

-- where a record was taken after a batch that has a line, and no more than this text was written, that is too little
due_unwritten : (plan : Plan) (held : Option (List ℕ)) (before after : Work) (ended : Status) (old text : List ℕ) → IsTakenBeyond plan held after.left text
    → before.alerts ≡ Some old → after.alerts ≡ grown (Some old) text → IsReadAhead plan held before after ended → ⊥
due_unwritten plan held before after ended old text beyond told wrote read =
    let lefts : Some read.rest ≡ Some beyond.rest = sym read.still ∙ beyond.still in
    let rests : read.rest ≡ beyond.rest = cc in
    let helds : Some (read.taken ++ read.rest) ≡ Some (beyond.taken ++ beyond.rest) = sym read.of ∙ beyond.of in
    let wholes : read.taken ++ read.rest ≡ beyond.taken ++ beyond.rest = cc in
    let takens : read.taken ≡ beyond.taken = same_front read.taken beyond.taken read.rest beyond.rest rests wholes in
    let due = due_first plan beyond.taken beyond.first beyond.others beyond.are beyond.size beyond.some in
    let more = due.0 in
    let all : lines_due plan read.taken ≡ text ++ beyond.byte ∷ (beyond.line ++ more) =
    ap (lines_due plan) takens ∙ due.1 ∙ ap (λ (x : List ℕ). x ++ more) beyond.shown ∙ append_assoc text (beyond.byte ∷ beyond.line) more in
    after_apart old text beyond.byte ((beyond.line ++ more) ++ read.more)
    (sym wrote ∙ read.wrote ∙ ap (λ (b : Option (List ℕ)). grown b (lines_due plan read.taken ++ read.more)) told
    ∙ ap (λ (x : List ℕ). grown (Some old) (x ++ read.more)) all
    ∙ ap (grown (Some old)) (append_assoc text (beyond.byte ∷ (beyond.line ++ more)) read.more))

-- a batch that has a line was taken and a record after it, and no line was written: no run ends so at a write fault
pub one_record_too_far : (files : Files) (course : Course) (plan : Plan) (before after : Work) (message old : List ℕ)
    → course.way ≡ Goes plan → IsTakenBeyond plan (get files plan.source) after.left []
    → before.alerts ≡ Some old → after.alerts ≡ Some old → Ends files course before after status.WriteFault message → ⊥
unfolding ReadsAhead
one_record_too_far files course plan before after message old goes beyond told wrote ends =
    ⊎_elim
    (λ (read : IsReadAhead plan (get files plan.source) before after status.WriteFault).
    due_unwritten plan (get files plan.source) before after status.WriteFault old [] beyond told (wrote ∙ sym (grown-nil (Some old))) read)
    (λ cut. ⊎_elim (λ is. absurd cc) (λ is. absurd cc) cut.0)
    (subst (λ (way : Way). ReadsAheadOn files way before after status.WriteFault) goes ends.read_ahead)

-- a capture was opened, and the rest of it was read where the lines of its first batch were written in part: no run ends
-- so, whatever its status
pub rest_read_after_the_fault : (files : Files) (course : Course) (plan : Plan) (before after : Work) (ended : Status) (message old text : List ℕ)
    → course.way ≡ Goes plan → before.opens + 1 ≤ after.opens → IsTakenBeyond plan (get files plan.source) after.left text
    → before.alerts ≡ Some old → after.alerts ≡ grown (Some old) text → Ends files course before after ended message → ⊥
unfolding ReadsAhead
rest_read_after_the_fault files course plan before after ended message old text goes opened beyond told wrote ends =
    ⊎_elim
    (λ (read : IsReadAhead plan (get files plan.source) before after ended). due_unwritten plan (get files plan.source) before after ended old text beyond told wrote read)
    (λ cut. ⊎_elim
    (λ (untouched : IsUntouched before after). let same = untouched.opens in absurd (omega (arith, same, opened)))
    (λ (shut : IsShut before after). let none : Some beyond.rest ≡ None = sym beyond.still ∙ shut.left in absurd cc)
    cut.1)
    (subst (λ (way : Way). ReadsAheadOn files way before after ended) goes ends.read_ahead)

-- a batch and a record after it were taken of a capture that has more, and the host did not fail: no run ends so at a
-- write fault
pub one_record_after_the_fault : (files : Files) (course : Course) (plan : Plan) (before after : Work) (message taken rest : List ℕ)
    → course.way ≡ Goes plan → get files plan.source ≡ Some (taken ++ rest) → after.left ≡ Some rest
    → length (records_of plan taken).records ≡ batch + 1 → batch + 2 ≤ length (records_of plan (taken ++ rest)).records
    → (Rose before.host_faults after.host_faults → ⊥) → Ends files course before after status.WriteFault message → ⊥
unfolding ReadsAhead
one_record_after_the_fault files course plan before after message taken rest goes held left size more still ends =
    ⊎_elim
    (λ (r : IsReadAhead plan (get files plan.source) before after status.WriteFault).
    let rests : r.rest ≡ rest = cc in
    let wholes : r.taken ++ r.rest ≡ taken ++ rest = cc in
    let takens : r.taken ≡ taken = same_front r.taken taken r.rest rest rests wholes in
    let read = subst (λ (x : List ℕ). IsReadInBatches plan x rest (Rose before.host_faults after.host_faults)) takens
    (subst (λ (x : List ℕ). IsReadInBatches plan r.taken x (Rose before.host_faults after.host_faults)) rests (r.in_batches refl)) in
    refuted read)
    (λ cut. ⊎_elim (λ is. absurd cc) (λ is. absurd cc) cut.0)
    (subst (λ (way : Way). ReadsAheadOn files way before after status.WriteFault) goes ends.read_ahead)
  where
    refuted : IsReadInBatches plan taken rest (Rose before.host_faults after.host_faults) → ⊥
    refuted (inl (count, is)) = absurd (omega (arith, is, size))
    refuted (inr (inl out)) = let sizes : length (records_of plan (taken ++ rest)).records ≡ length (records_of plan taken).records = ap length out in absurd (omega (arith, sizes, size, more))
    refuted (inr (inr rose)) = still rose

-- a record after the limit was read, whatever was written: no run ends so as Done
pub one_record_past_the_limit : (files : Files) (course : Course) (plan : Plan) (before after : Work) (message taken rest : List ℕ) (limit : ℕ)
    → course.way ≡ Goes plan → get files plan.source ≡ Some (taken ++ rest) → after.left ≡ Some rest
    → plan.limit ≡ Some limit → limit + 1 ≤ length (records_in None taken).records → Ends files course before after status.Done message → ⊥
unfolding ReadsAhead
one_record_past_the_limit files course plan before after message taken rest limit goes held left limited more ends =
    ⊎_elim
    (λ (r : IsReadAhead plan (get files plan.source) before after status.Done).
    let rests : r.rest ≡ rest = cc in
    let wholes : r.taken ++ r.rest ≡ taken ++ rest = cc in
    let takens : r.taken ≡ taken = same_front r.taken taken r.rest rest rests wholes in
    let few : length (records_in None taken).records ≤ limit =
    subst (λ (l : Option ℕ). AreWithin l (records_in None taken).records) limited
    (subst (λ (x : List ℕ). AreWithin plan.limit (records_in None x).records) takens r.within) in
    absurd (omega (arith, few, more)))
    (λ cut. ⊎_elim (λ is. absurd cc) (λ is. absurd cc) cut.0)
    (subst (λ (way : Way). ReadsAheadOn files way before after status.Done) goes ends.read_ahead)

-- after the lines of the records that are whole within the bytes taken, more was written, as by flows that were ended: no
-- run of a capture that is there ends so as a host fault
pub flows_ended_after_a_read_fault : (files : Files) (course : Course) (plan : Plan) (before after : Work) (message old taken rest : List ℕ) (byte : ℕ) (more : List ℕ)
    → course.way ≡ Goes plan → get files plan.source ≡ Some (taken ++ rest) → after.left ≡ Some rest
    → before.alerts ≡ Some old → after.alerts ≡ grown (Some old) (lines_within plan taken ++ byte ∷ more)
    → ((answer_of files course).status ≡ status.HostFault → ⊥) → Ends files course before after status.HostFault message → ⊥
flows_ended_after_a_read_fault files course plan before after message old taken rest byte more goes held left told wrote there ends =
    ⊎_elim
    (λ (answered : IsAnswered (answer_of files course) status.HostFault ends.alerts message). there (sym answered.status))
    (λ (cut : IsCutShort files course before after message).
    let goes_on : course.way ≡ Goes cut.plan = cut.goes in
    let plans : cut.plan ≡ plan = cc in
    let of : get files cut.plan.source ≡ Some (cut.taken ++ rest) = subst (IsTakenOf (get files cut.plan.source) cut.taken) left cut.of in
    let wholes : cut.taken ++ rest ≡ taken ++ rest = cc in
    let takens : cut.taken ≡ taken = same_front cut.taken taken rest rest refl wholes in
    let text : lines_within cut.plan cut.taken ≡ lines_within plan taken = ap (λ (p : Plan). lines_within p cut.taken) plans ∙ ap (lines_within plan) takens in
    after_apart old (lines_within plan taken) byte more
    (sym (ap (grown (Some old)) text) ∙ sym (ap (λ (b : Option (List ℕ)). grown b (lines_within cut.plan cut.taken)) told) ∙ sym cut.wrote ∙ wrote))
    (ends.read_fault refl)

-- a capture that was opened a third time
pub opened_thrice : (words : List (List ℕ)) (means : Means) (before after : Outside) → before.opens + 3 ≤ after.opens → Headline words means before after status.Done → ⊥
opened_thrice words means before after thrice run = absurd (omega (arith, run.opened_once.at_most))

-- a capture that was opened a second time, and doesn't begin as no savefile does
pub opened_twice : (words : List (List ℕ)) (means : Means) (before after : Outside) (files : Files) → before.files ≡ Some files → before.opens + 2 ≤ after.opens
    → (run : Headline words means before after status.Done) → (HasOther (command_line words) (given files run.matches run.refused) → ⊥) → ⊥
opened_twice words means before after files told twice run savefile =
    ⊎_elim (λ once. let most = once.0 in absurd (omega (arith, most, twice))) (λ again. savefile again.1) (run.opened_once.exactly files told)
