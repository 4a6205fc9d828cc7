-- The laws of the lines: joined records, beginnings, the end of a capture, and a batch of jobs.
use Rattle.std.proofs.Common.{◌≡◌, ℕ, ◌+◌, ◌≤◌, List, [], ◌++◌, length, map, take, drop, refl, sym, ap, append_assoc, ◌∙◌, arith, length-append}
use Rattle.std.proofs.lemmas.List.{append-nil, length-map, take-append-drop, take-take}
use Rattle.edge_io.specs.Along.{trail, trail_from, chained}
use Rattle.edge_io.proofs.Along.{trail_from-append, trail-append, trail-chained}
use Rattle.flow_lanes.specs.declared.answer.Hits.{Hits}
use Rattle.record_jobs.specs.Way.{LinkedRecord}
use Rattle.record_jobs.specs.Jobs.{jobs, finishes}
use Rattle.record_jobs.proofs.NoRecords.{counts-none, finishes-none}
use Rattle.alert_lines.specs.Beside.{beside, carried, own}
use Rattle.alert_lines.specs.Events.{Alert, item_events}
use Rattle.alert_lines.specs.Lines.{text_of, texts_from}
use Rattle.alert_lines.specs.Showing.{items_lines}
use Rattle.alert_lines.proofs.Beside.{carried-beside, carried-own, length-own}
use Rattle.alert_lines.proofs.Texts.{texts_from-append}
use Rattle.snort_engine.specs.Course.{Plan}
use Rattle.snort_engine.specs.Trace.{CaptureState, Open, Closed, closing_alerts, closing_events, closing_items, detection_of}
use Rattle.snort_engine.specs.Trace.{items_of, job_items, jobs_of, last_of, record_alerts, record_events, trace, jobs_way}
use Rattle.snort_engine.specs.Lines.{alert_count, lines, LinesJoin, PrefixLaw}
use Rattle.snort_engine.specs.Counts.{counts_of, no_counts}
use Rattle.snort_engine.specs.Steps.Detecting.{closing_lines, jobs_lines}
use Rattle.snort_engine.specs.Steps.Showing.{lines_of}

-- what is shown of joined records, whatever follows
trace-join : (plan : Plan) (before first others : List LinkedRecord) (state : CaptureState)
    → trace plan before (first ++ others) state ≡ trace plan before first Open ++ trace plan (before ++ first) others state
unfolding trace
trace-join plan before first others Open = trail_from-append (record_alerts plan) before first others
trace-join plan before first others Closed =
    ap (λ (x : List Alert). x ++ closing_alerts plan (before ++ (first ++ others)))
    (trail_from-append (record_alerts plan) before first others)
    ∙ append_assoc (trail_from (record_alerts plan) before first)
    (trail_from (record_alerts plan) (before ++ first) others)
    (closing_alerts plan (before ++ (first ++ others)))
    ∙ ap (λ (x : List LinkedRecord). trail_from (record_alerts plan) before first ++
    (trail_from (record_alerts plan) (before ++ first) others ++ closing_alerts plan x)) (sym (append_assoc before first others))

-- the texts of a plan's alerts
abbrev text_by : Plan → ℕ → Alert → List ℕ
text_by plan = text_of plan.form plan.config.classes

-- how many alerts come before joined records
alert_count-more : (plan : Plan) (before first : List LinkedRecord) → alert_count plan before + length (trace plan before first Open) ≡ alert_count plan (before ++ first)
unfolding alert_count
alert_count-more plan before first =
    sym (length-append (trace plan [] before Open) (trace plan before first Open)) ∙ ap length (sym (trace-join plan [] before first Open))

-- the law of joined records
pub lines_join : LinesJoin
unfolding lines
lines_join plan before first others state =
    let count = alert_count plan before in
    let one = trace plan before first Open in
    let two = trace plan (before ++ first) others state in
    ap (texts_from (text_by plan) count) (trace-join plan before first others state)
    ∙ texts_from-append (text_by plan) count one two
    ∙ ap (λ (n : ℕ). texts_from (text_by plan) count one ++ texts_from (text_by plan) n two) (alert_count-more plan before first)

-- no records have no lines
pub lines-nil : (plan : Plan) (before : List LinkedRecord) → lines plan before [] Open ≡ []
unfolding lines trace
lines-nil plan before = refl

-- after no records no flow lives that could end
closing_items-nil : (plan : Plan) → closing_items plan [] ≡ []
unfolding closing_items
closing_items-nil plan = ap (trail_from (job_items (detection_of plan)) []) (finishes-none (jobs_way plan))

closing_alerts-nil : (plan : Plan) → closing_alerts plan [] ≡ []
unfolding closing_alerts closing_events
closing_alerts-nil plan =
    ap (λ (items : List Hits). map (beside (last_of [])) (trail_from (item_events plan.config plan.rules) (items_of plan []) items)) (closing_items-nil plan)

pub closing_lines-nil : (plan : Plan) → closing_lines plan [] ≡ []
unfolding closing_lines
closing_lines-nil plan = ap (texts_from (text_by plan) (alert_count plan [])) (closing_alerts-nil plan)

-- a capture that has ended has the lines of its records, and then those of the flows that end with it
pub lines-closed : (plan : Plan) (records : List LinkedRecord) → lines plan [] records Closed ≡ lines plan [] records Open ++ closing_lines plan records
unfolding lines trace closing_lines alert_count
lines-closed plan records =
    let all = trail_from (record_alerts plan) [] records in
    let last = closing_alerts plan records in
    let count : 0 + length all ≡ length all = omega arith in
    texts_from-append (text_by plan) 0 all last
    ∙ ap (λ (n : ℕ). texts_from (text_by plan) 0 all ++ texts_from (text_by plan) n last) count

pub lines-none : (plan : Plan) → lines plan [] [] Closed ≡ []
lines-none plan = lines-closed plan [] ∙ ap (λ (x : List ℕ). lines plan [] [] Open ++ x) (closing_lines-nil plan) ∙ append-nil (lines plan [] [] Open) ∙ lines-nil plan []

-- nothing is counted of no records
pub no_counts-are : (plan : Plan) → no_counts ≡ counts_of plan []
unfolding counts_of trace items_of
no_counts-are plan = rw (counts-none (jobs_way plan), closing_items-nil plan, closing_alerts-nil plan, finishes-none (jobs_way plan)) refl

-- the first records, and then more of them
take_split : (records : List LinkedRecord) (r s : ℕ) → r ≤ s → take s records ≡ take r records ++ drop r (take s records)
take_split records r s within = sym (take-append-drop r (take s records)) ∙ ap (λ (x : List LinkedRecord). x ++ drop r (take s records)) (take-take r s records within)

-- the prefix law
pub prefix_law : PrefixLaw
prefix_law plan records r s state within = (
  lines plan (take r records) (drop r (take s records)) state,
  sym (lines_join plan [] (take r records) (drop r (take s records)) state) ∙ ap (λ (x : List LinkedRecord). lines plan [] x state) (sym (take_split records r s within)),
)

-- ---- a capture's first records

pub lines_of-nil : (plan : Plan) → lines_of plan [] Open ≡ []
unfolding lines_of
lines_of-nil plan = lines-nil plan []

pub lines_of-closed : (plan : Plan) (records : List LinkedRecord) → lines_of plan records Closed ≡ lines_of plan records Open ++ closing_lines plan records
unfolding lines_of
lines_of-closed plan records = lines-closed plan records

-- the lines of records joined to others
pub lines_of-append : (plan : Plan) (front back : List LinkedRecord) (state : CaptureState) → lines_of plan (front ++ back) state ≡ lines_of plan front Open ++ lines plan front back state
unfolding lines_of
lines_of-append plan front back state = lines_join plan [] front back state

-- ---- jobs

-- all items of records are those of their jobs
pub items_of-jobs : (plan : Plan) (records : List LinkedRecord) → items_of plan records ≡ trail (chained (job_items (detection_of plan)) (jobs (jobs_way plan))) records
unfolding items_of
items_of-jobs plan records = trail-chained (job_items (detection_of plan)) (jobs (jobs_way plan)) records

-- how many alerts come before, by the items of their records
pub alerts_before : (plan : Plan) (before : List LinkedRecord)
    → length (trail (item_events plan.config plan.rules) (trail (job_items (detection_of plan)) (jobs_of plan before))) ≡ alert_count plan before
unfolding alert_count trace record_events
alerts_before plan before =
    let found = job_items (detection_of plan) in
    let made = jobs (jobs_way plan) in
    let shown = item_events plan.config plan.rules in
    ap (λ (items : List Hits). length (trail shown items)) (trail-chained found made before)
    ∙ ap length (trail-chained shown (chained found made) before)
    ∙ sym (length-own (chained shown (chained found made)) [] before)

-- a batch of records through all stages: its lines are those of its jobs
pub jobs_lines-records : (plan : Plan) (before records : List LinkedRecord)
    → jobs_lines plan (jobs_of plan before) (trail_from (own (jobs (jobs_way plan))) before records) ≡
    lines plan before records Open
unfolding jobs_lines items_lines lines trace record_events
jobs_lines-records plan before records =
    let found = job_items (detection_of plan) in
    let made = jobs (jobs_way plan) in
    let shown = item_events plan.config plan.rules in
    let text = text_by plan in
    let of_jobs = carried found (trail made before) (trail_from (own made) before records) in
    ap (λ (n : ℕ). texts_from text n (carried shown (trail found (trail made before)) of_jobs)) (alerts_before plan before)
    ∙ ap (λ items. texts_from text (alert_count plan before) (carried shown (trail found (trail made before)) items)) (carried-own found made before records)
    ∙ ap (λ (items : List Hits). texts_from text (alert_count plan before) (carried shown items (trail_from (own (chained found made)) before records))) (trail-chained found made before)
    ∙ ap (texts_from text (alert_count plan before)) (carried-own shown (chained found made) before records)

-- the lines of the flows that end with a capture are those of the jobs after its records
pub jobs_lines-closing : (plan : Plan) (records : List LinkedRecord)
    → jobs_lines plan (jobs_of plan records) (map (beside (last_of records)) (finishes (jobs_way plan) records)) ≡
    closing_lines plan records
unfolding jobs_lines items_lines closing_lines closing_alerts closing_events closing_items items_of
jobs_lines-closing plan records =
    let found = job_items (detection_of plan) in
    let shown = item_events plan.config plan.rules in
    let text = text_by plan in
    let before = jobs_of plan records in
    let last = finishes (jobs_way plan) records in
    let source = last_of records in
    ap (λ (n : ℕ). texts_from text n (carried shown (trail found before) (carried found before (map (beside source) last)))) (alerts_before plan records)
    ∙ ap (λ items. texts_from text (alert_count plan records) (carried shown (trail found before) items)) (carried-beside found before source last)
    ∙ ap (texts_from text (alert_count plan records)) (carried-beside shown (trail found before) source (trail_from found before last))

-- all events of records are those of their items
pub events-items : (plan : Plan) (records : List LinkedRecord) → trail (item_events plan.config plan.rules) (items_of plan records) ≡ trail (record_events plan) records
unfolding record_events
events-items plan records =
    ap (trail (item_events plan.config plan.rules)) (items_of-jobs plan records)
    ∙ trail-chained (item_events plan.config plan.rules) (chained (job_items (detection_of plan)) (jobs (jobs_way plan))) records

-- how many alerts a capture has, by its items
pub alerts-counted : (plan : Plan) (records : List LinkedRecord) (all : List Hits) → all ≡ items_of plan records ++ closing_items plan records
    → length (trail (item_events plan.config plan.rules) all) ≡ length (trace plan [] records Closed)
unfolding trace closing_alerts closing_events
alerts-counted plan records all is =
    let shown = item_events plan.config plan.rules in
    let items = items_of plan records in
    let last = trail_from shown items (closing_items plan records) in
    let a = ap (λ (x : List Hits). length (trail shown x)) is in
    let b = ap length (trail-append shown items (closing_items plan records)) in
    let c = length-append (trail shown items) last in
    let d = ap length (events-items plan records) in
    let e = length-own (record_events plan) [] records in
    let f = length-append (trail (record_alerts plan) records) (map (beside (last_of records)) last) in
    let g = length-map last (beside (last_of records)) in
    omega (arith, a, b, c, d, e, f, g)
