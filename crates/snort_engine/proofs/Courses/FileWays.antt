-- The lines of a Unified2 file: the file's one way, and how a run ends on it.
use Rattle.std.proofs.Common.{◌≡◌, ℕ, List, [], ◌++◌, Option, Some, None, Result, Ok, Err, OnOk, OnErr, IfErr, IsErrOf, refl, sym, ap, subst, ◌∙◌, arith, inl, inr}
use Rattle.std.specs.List.{concat}
use Rattle.std.proofs.lemmas.List.{append-nil}
use Rattle.edge_io.specs.Files.{Files}
use Rattle.edge_io.specs.Told.{grown}
use Rattle.unified2_out.specs.declared.record.U2.{U2}
use Rattle.unified2_out.specs.Reading.{IsBadAt}
use Rattle.unified2_out.proofs.Laws.{records_of-one, bad-no_records}
use Rattle.alert_lines.specs.RecordLines.{entry_lines}
use Rattle.alert_lines.specs.Written.{WritesPart}
use Rattle.snort_engine.specs.declared.status.Status.{Status}
use Rattle.snort_engine.specs.declared.status.Status.TheVariants as status
use Rattle.snort_engine.specs.declared.stop.RunStop.{RunStop}
use Rattle.snort_engine.specs.declared.stop.RunStop.TheVariants as stop
use Rattle.snort_engine.specs.Messages.{bad_unified2_text}
use Rattle.snort_engine.specs.Course.{Way, Stops, Lists, Course, IsFileWay}
use Rattle.snort_engine.specs.Answer.{Answer, answer_of, way_answer}
use Rattle.snort_engine.specs.Outside.{Work}
use Rattle.snort_engine.specs.ReadAhead.{IsApart, ReadsAhead, ReadsAheadOn}
use Rattle.snort_engine.specs.Ending.{Ends}
use Rattle.snort_engine.specs.Steps.Stop.{outcome_status, outcome_text, stop_text, IsWriteStop}
use Rattle.snort_engine.proofs.Headline.Finishing.{ends_met, ends_unwritten}

-- ---- the way of a file

-- bytes are bad at one place
bad-one : (bytes : List ℕ) (here there : ℕ) → IsBadAt bytes here → IsBadAt bytes there → here ≡ there
bad-one bytes here there bad as_well =
    let low = as_well.furthest here bad.reached in
    let high = bad.furthest there as_well.reached in
    omega (arith, low, high)

-- a file has one way
pub file_way-one : (name : List ℕ) (contents : Option (List ℕ)) (a b : Way) → IsFileWay name contents a → IsFileWay name contents b → a ≡ b
file_way-one name None a b of_a of_b = of_a ∙ sym of_b
file_way-one name (Some bytes) a b (inl (long, of_a)) (inl (too, of_b)) = of_a ∙ sym of_b
file_way-one name (Some bytes) a b (inl (long, of_a)) (inr (short, of_b)) = absurd (omega (arith, long, short))
file_way-one name (Some bytes) a b (inr (short, of_a)) (inl (long, of_b)) = absurd (omega (arith, long, short))
file_way-one name (Some bytes) a b (inr (short, inl listed)) (inr (too, inl as_well)) =
    listed.is ∙ ap (λ (entries : List U2). Lists (entry_lines entries)) (records_of-one bytes listed.entries as_well.entries listed.are as_well.are) ∙ sym as_well.is
file_way-one name (Some bytes) a b (inr (short, inl listed)) (inr (too, inr bad)) = absurd (bad-no_records bytes bad.place listed.entries bad.bad listed.are)
file_way-one name (Some bytes) a b (inr (short, inr bad)) (inr (too, inl listed)) = absurd (bad-no_records bytes bad.place listed.entries bad.bad listed.are)
file_way-one name (Some bytes) a b (inr (short, inr bad)) (inr (too, inr as_well)) =
    bad.is ∙ ap (λ (place : ℕ). Stops (bad_unified2_text place) status.BadCapture) (bad-one bytes bad.place as_well.place bad.bad as_well.bad) ∙ sym as_well.is

-- ---- a run that tells a file

-- the host was left alone
apart : (before after : Work) (ended : Status) → after.left ≡ before.left → after.opens ≡ before.opens → (ended ≡ status.HostFault → ⊥) → IsApart before after ended
apart before after ended left opens never = record { left = left; opens = opens; no_host_fault = never }

ahead_lists : (files : Files) (course : Course) (lines : List ℕ) (before after : Work) (ended : Status)
    → course.way ≡ Lists lines
    → IsApart before after ended
    → ReadsAhead files course before after ended
unfolding ReadsAhead
ahead_lists files course lines before after ended lists own =
    subst (λ (way : Way). ReadsAheadOn files way before after ended) (sym lists) own

-- the lines were written whole, or a part of them
pub listed_ends : (files : Files) (course : Course) (lines : List ℕ) (before after : Work) (outcome : Result (Unit {0}) RunStop) → course.way ≡ Lists lines
    → after.left ≡ before.left → after.opens ≡ before.opens
    → OnOk outcome (after.alerts ≡ grown before.alerts lines) → OnErr outcome (WritesPart before.alerts lines after.alerts) → IfErr outcome IsWriteStop
    → Ends files course before after (outcome_status outcome) (concat course.warnings ++ outcome_text [] outcome)
unfolding stop_text
listed_ends files course lines before after (Ok done) lists left opens whole part kind =
    let meant : answer_of files course ≡ record { alerts = lines; errors = concat course.warnings; status = status.Done } = ap (way_answer files (concat course.warnings)) lists in
    ends_met files course before after status.Done lines (concat course.warnings ++ []) tt whole
    (record {
      status = ap (λ (a : Answer). a.status) (sym meant);
      alerts_are = ap (λ (a : Answer). a.alerts) (sym meant);
      message_is = append-nil (concat course.warnings) ∙ ap (λ (a : Answer). a.errors) (sym meant);
    })
    (ahead_lists files course lines before after status.Done lists (apart before after status.Done left opens (λ is. cc)))
listed_ends files course lines before after (Err stop.CannotWrite) lists left opens whole part kind =
    ends_unwritten files course before after
    (subst (λ (x : List ℕ). WritesPart before.alerts x after.alerts) (sym (ap (λ (way : Way). (way_answer files (concat course.warnings) way).alerts) lists)) part)
    (ahead_lists files course lines before after status.WriteFault lists (apart before after status.WriteFault left opens (λ is. cc)))
listed_ends files course lines before after (Err why) lists left opens whole part kind = absurd kind

-- writing alone may have failed
pub write_risen : {Risen : Type 0} (outcome : Result (Unit {0}) RunStop) → IfErr outcome IsWriteStop → (IsErrOf outcome stop.CannotWrite → Risen) → outcome_status outcome ≡ status.WriteFault → Risen
write_risen (Ok done) kind risen is = absurd cc
write_risen (Err stop.CannotWrite) kind risen is = risen refl
write_risen (Err why) kind risen is = absurd kind

pub no_host_stop : (outcome : Result (Unit {0}) RunStop) → IfErr outcome IsWriteStop → outcome_status outcome ≡ status.HostFault → ⊥
no_host_stop (Ok done) kind is = cc
no_host_stop (Err stop.CannotWrite) kind is = cc
no_host_stop (Err why) kind is = absurd kind
