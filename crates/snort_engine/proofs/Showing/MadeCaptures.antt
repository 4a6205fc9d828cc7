-- How the showing of a capture that is made follows its answer.
use Rattle.std.proofs.Common.{◌≡◌, ℕ, ◌≤◌, List, ◌++◌, Option, Some, Result, Ok, length, take, drop, refl, sym, ap, subst, ◌∙◌, arith}
use Rattle.std.proofs.lemmas.List.{length-take-le, take-append-drop}
use Rattle.pcap_input.specs.Savefile.{head_of}
use Rattle.pcap_input.specs.Reader.{new_reader}
use Rattle.pcap_input.specs.Generated.{generated, made_head}
use Rattle.pcap_input.proofs.Laws.{head_of-append}
use Rattle.pcap_input.proofs.Made.Captures.{generated-head}
use Rattle.edge_io.specs.Files.{Files}
use Rattle.edge_io.specs.Told.{Rose}
use Rattle.alert_lines.specs.Written.{WritesPart}
use Rattle.alert_lines.proofs.Prefixes.{WritesPart-none}
use Rattle.snort_engine.specs.declared.status.Status.{Status}
use Rattle.snort_engine.specs.declared.status.Status.TheVariants as status
use Rattle.snort_engine.specs.declared.stop.RunStop.{RunStop}
use Rattle.snort_engine.specs.declared.reader.RecordReader.{RecordReader}
use Rattle.snort_engine.specs.declared.reader.RecordReader.TheVariants.{Savefile}
use Rattle.snort_engine.specs.declared.counts.Counts.{Counts}
use Rattle.snort_engine.specs.Course.{Plan, Makes, Course}
use Rattle.snort_engine.specs.Answer.{answer_of, capture_answer, way_answer}
use Rattle.snort_engine.specs.Messages.{no_memory_text}
use Rattle.snort_engine.specs.Outside.{Work}
use Rattle.snort_engine.specs.ReadAhead.{IsApart}
use Rattle.snort_engine.specs.Ending.{Ends}
use Rattle.snort_engine.specs.Steps.Stop.{outcome_status}
use Rattle.snort_engine.specs.Steps.Showing.{ShowsCapture}
use Rattle.snort_engine.proofs.Headline.Finishing.{ahead_made, ends_lacking}
use Rattle.snort_engine.proofs.Records.Opening.{long_enough, savefile_begins}
use Rattle.snort_engine.proofs.Showing.Captures.{said, warned, shown_by}

-- a capture that is made has a file header
pub generated_long : (seed count : ℕ) → 24 ≤ length (generated seed count)
generated_long seed count = long_enough (generated seed count) made_head (generated-head seed count)

-- the file header alone of a capture that is made has its head
header_head : (seed count : ℕ) → head_of (take 24 (generated seed count)) ≡ Ok made_head
header_head seed count =
    let made = generated seed count in
    let whole = length-take-le 24 made (generated_long seed count) in
    sym (head_of-append (take 24 made) (drop 24 made) (omega (arith, whole))) ∙ ap head_of (take-append-drop 24 made) ∙ generated-head seed count

-- the host and its count stay
abbrev pub with_alerts : Work → Option (List ℕ) → Work
with_alerts before alerts = record before { alerts = alerts }

apart : (before : Work) (alerts : Option (List ℕ)) (ended : Status) → (ended ≡ status.HostFault → ⊥) → IsApart before (with_alerts before alerts) ended
apart before alerts ended never = record { left = refl; opens = refl; no_host_fault = never }

-- a capture was made and shown, by a reader that had given no record
pub made_ends : (plan : Plan) (files : Files) (course : Course) (seed count : ℕ) (bytes : List ℕ) (reader : RecordReader)
    (left_first left_last old new : Option (List ℕ))
    (before : Work) (counts : Counts) (outcome : Result (Unit {0}) RunStop)
    → course.way ≡ Makes plan seed count
    → before.alerts ≡ old
    → bytes ≡ generated seed count
    → reader ≡ Savefile (new_reader made_head)
    → left_first ≡ Some (drop 24 bytes)
    → ShowsCapture plan reader (record { left = left_first; written = old })
    (record { left = left_last; written = new }) counts outcome
    → (outcome_status outcome ≡ status.HostFault → ⊥)
    → Ends files course before (with_alerts before new) (outcome_status outcome) (warned course ++ said plan outcome counts)
made_ends plan files course seed count bytes reader left_first left_last old new before counts outcome makes same are by told shows never =
    let made = generated seed count in
    let whole = length-take-le 24 made (generated_long seed count) in
    shown_by plan files course left_first left_last bytes (Savefile (new_reader made_head)) before (with_alerts before new) counts outcome
    (record {
      answers = ap (way_answer files (warned course)) makes ∙ ap (λ (x : List ℕ). capture_answer plan (warned course) (Some x)) (sym are);
      front = take 24 made;
      rest = drop 24 made;
      joined = are ∙ sym (take-append-drop 24 made);
      told = told ∙ ap (λ (x : List ℕ). Some (drop 24 x)) are;
      begins = savefile_begins (take 24 made) made_head (header_head seed count) (omega (arith, whole));
    })
    (subst (λ (r : RecordReader). ShowsCapture plan r (record { left = left_first; written = before.alerts }) (record { left = left_last; written = new }) counts outcome) by
    (subst (λ (w : Option (List ℕ)). ShowsCapture plan reader (record { left = left_first; written = w }) (record { left = left_last; written = new }) counts outcome) (sym same) shows))
    (λ failed cut. absurd (never failed))
    (λ failed. absurd (never failed))
    (λ ended is. ahead_made files course plan seed count before (with_alerts before new) ended makes (apart before new ended (λ failed. never (is ∙ failed))))

-- a count that is 0 for ever doesn't rise
pub never_rose : Rose 0 0 → ⊥
never_rose rose = omega (arith, rose)

-- memory was lacking for its bytes
pub unmade_ends : (plan : Plan) (files : Files) (course : Course) (seed count : ℕ) (before : Work) (alerts : Option (List ℕ)) → course.way ≡ Makes plan seed count → before.alerts ≡ alerts
    → Ends files course before (with_alerts before alerts) status.NoMemory (warned course ++ no_memory_text)
unmade_ends plan files course seed count before alerts makes same =
    ends_lacking files course before (with_alerts before alerts)
    (subst (λ (x : Option (List ℕ)). WritesPart before.alerts (answer_of files course).alerts x) same (WritesPart-none before.alerts (answer_of files course).alerts))
    (ahead_made files course plan seed count before (with_alerts before alerts) status.NoMemory makes (apart before alerts status.NoMemory (λ failed. cc)))
