-- What a plan answers goes by its limit only through the records that it reads.
use Rattle.std.proofs.Common.{◌≡◌, ℕ, ◌<◌, List, [], Option, Some, None, length, refl, ap, ◌∙◌, ◌++◌}
use Rattle.record_jobs.specs.Way.{LinkedRecord}
use Rattle.snort_engine.specs.Answer.{Answer, capture_answer, ending_status, ending_text, recording_answer, recording_text}
use Rattle.snort_engine.specs.declared.counts.Counts.{Counts}
use Rattle.snort_engine.specs.Counts.{counts_of, told_counts, with_counts}
use Rattle.snort_engine.specs.Course.{Plan}
use Rattle.snort_engine.specs.CutCaptures.{IsLimited, unlimited}
use Rattle.snort_engine.specs.Lines.{alert_count, lines}
use Rattle.pcap_input.specs.Cut.{Clean}
use Rattle.snort_engine.specs.Records.{Recording, records_in, records_of}
use Rattle.snort_engine.specs.Trace.{Closed, closing_alerts, closing_events, closing_items, items_of, record_events, trace}
use Rattle.snort_engine.proofs.Cuts.Captures.{cut_records, limit_is_cut, unreached}

-- nothing that is made of records looks at the limit
lines-unlimited : (plan : Plan) (records : List LinkedRecord) → lines plan [] records Closed ≡ lines (unlimited plan) [] records Closed
unfolding lines alert_count trace record_events closing_alerts closing_events closing_items items_of
lines-unlimited plan records = refl

counts-unlimited : (plan : Plan) (records : List LinkedRecord) → counts_of plan records ≡ counts_of (unlimited plan) records
unfolding counts_of trace record_events closing_alerts closing_events closing_items items_of
counts-unlimited plan records = refl

answer_with : List ℕ → List ℕ → Recording → List ℕ → Answer
answer_with alerts warnings recording text = record { alerts = alerts; errors = warnings ++ text; status = ending_status recording.ending }

answer-unlimited : (plan : Plan) (warnings : List ℕ) (recording : Recording) → recording_answer plan warnings recording ≡ recording_answer (unlimited plan) warnings recording
unfolding answer_with
answer-unlimited plan warnings recording =
    ap (λ (alerts : List ℕ). answer_with alerts warnings recording (recording_text plan recording)) (lines-unlimited plan recording.records)
    ∙ ap (λ (counts : Counts). answer_with (lines (unlimited plan) [] recording.records Closed) warnings recording
    (with_counts (ending_text plan.source recording.ending) (told_counts plan.counted counts))) (counts-unlimited plan recording.records)

-- a capture's records in place of another's
answer_by : (plan : Plan) (bytes front warnings : List ℕ) → records_of plan bytes ≡ records_of (unlimited plan) front
    → capture_answer plan warnings (Some bytes) ≡ capture_answer (unlimited plan) warnings (Some front)
unfolding capture_answer
answer_by plan bytes front warnings same = ap (recording_answer plan warnings) same ∙ answer-unlimited plan warnings (records_of (unlimited plan) front)

pub limited_records : (plan : Plan) (bytes front : List ℕ) → IsLimited plan bytes front → records_of plan bytes ≡ records_of (unlimited plan) front
limited_records plan bytes front is = ap (λ (limit : Option ℕ). records_in limit bytes) is.is ∙ limit_is_cut is.limit bytes front is.some is.holds is.cut

pub limited_clean : (plan : Plan) (bytes front : List ℕ) → IsLimited plan bytes front → (records_of plan bytes).ending ≡ Clean
limited_clean plan bytes front is =
    ap (λ (recording : Recording). recording.ending) (limited_records plan bytes front is ∙ cut_records is.limit bytes front is.some is.holds is.cut)

pub limited_answer : (plan : Plan) (bytes front warnings : List ℕ) → IsLimited plan bytes front
    → capture_answer plan warnings (Some bytes) ≡ capture_answer (unlimited plan) warnings (Some front)
limited_answer plan bytes front warnings is = answer_by plan bytes front warnings (limited_records plan bytes front is)

pub unreached_answer : (plan : Plan) (limit : ℕ) (bytes warnings : List ℕ) → plan.limit ≡ Some limit → length (records_in None bytes).records < limit
    → capture_answer plan warnings (Some bytes) ≡ capture_answer (unlimited plan) warnings (Some bytes)
unreached_answer plan limit bytes warnings is fewer = answer_by plan bytes bytes warnings (ap (λ (l : Option ℕ). records_in l bytes) is ∙ unreached limit bytes fewer)
