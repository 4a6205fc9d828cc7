-- The steps from records to lines.
use Rattle.std.proofs.Common.{◌≡◌, ℕ, ◌+◌, ◌^◌, ◌<◌, ◌≤◌, List, [], ◌∷◌, ◌++◌, Option, Result, Ok, Err, length, map, take, get_or, refl, sym, ap, ap₂, subst, ◌∙◌, append_assoc, arith, length-append}
use Rattle.std.specs.Prelude.{OnOk, sum}
use Rattle.std.proofs.lemmas.List.{append-nil, take_more}
use Rattle.std.proofs.lemmas.List.Sums.{sum_by-append}
use Rattle.edge_io.specs.declared.pattern.Span.{Span}
use Rattle.edge_io.specs.Along.{along, along_from, trail, trail_from}
use Rattle.edge_io.proofs.Along.{along-append, pipe_more, trail-append, trail_from-append}
use Rattle.rule_types.specs.declared.rule.Rule.{Rule}
use Rattle.fast_pattern.specs.Grouping.{AreFor}
use Rattle.fast_pattern.specs.declared.groups.Groups.{Groups}
use Rattle.rule_eval.specs.Hits.{Test}
use Rattle.flow_lanes.specs.declared.answer.Hits.{Hits}
use Rattle.flow_lanes.specs.declared.answer.JobHits.{JobHits}
use Rattle.flow_lanes.specs.declared.answer.Matches.{Matches}
use Rattle.flow_lanes.specs.declared.job.Job.{Job}
use Rattle.flow_lanes.specs.Flows.{Detection, answer, answer_tries}
use Rattle.flow_lanes.specs.LanesAfter.{DetectsBy, IsBatchSearched, AreAfter, LanesState, LearnsBatch}
use Rattle.record_jobs.specs.declared.counts.RecordCounts.{RecordCounts}
use Rattle.record_jobs.specs.Way.{LinkedRecord, Way as JobsWay}
use Rattle.record_jobs.specs.Jobs.{finishes, jobs}
use Rattle.record_jobs.specs.Counts.{counts}
use Rattle.record_jobs.specs.Fronts.{FrontState, GivesFinishes, IsFrontAfter, TakesRecord, TellsCounts}
use Rattle.record_jobs.proofs.Fronts.Counting.{records-counted}
use Rattle.record_jobs.proofs.Ready.Learning.{learnt, new_learnt, ready}
use Rattle.record_jobs.proofs.Ready.Running.{in_order}
use Rattle.record_jobs.specs.Ready.{AreNumbered, AreReady, AreSound, HaveLearnt, all_jobs}
use Rattle.alert_lines.specs.declared.tally.Tally.{Tally}
use Rattle.alert_lines.specs.declared.writer.AlertWriter.{AlertWriter}
use Rattle.alert_lines.specs.declared.fault.WriteFault.{WriteFault}
use Rattle.alert_lines.specs.declared.fault.WriteFault.TheVariants as write
use Rattle.alert_lines.specs.Beside.{beside, by_place, places_along, source_in, whats}
use Rattle.alert_lines.specs.Events.{hit_count}
use Rattle.alert_lines.specs.Gathering.{Sending, Emits}
use Rattle.alert_lines.specs.Showing.{IsWriterAfter, Showing, Shown, StaysAfter, items_lines, sending_of, tally_in, tally_of, waiting_in}
use Rattle.alert_lines.specs.Matching.{AreMatchesOf, Matched, ShowsMatches}
use Rattle.alert_lines.specs.Sourcing.{sourced_items}
use Rattle.alert_lines.proofs.Emitting.{emits_nothing, emits_same, emits_settled, emits_stopped, emits_then, emits_told, emptied}
use Rattle.alert_lines.proofs.Beside.{whats-by_place, whats-carried}
use Rattle.snort_engine.specs.declared.counts.Counts.{Counts}
use Rattle.snort_engine.specs.declared.detect.Detector.{Detector}
use Rattle.snort_engine.specs.declared.detect.Inspection.{Inspection}
use Rattle.snort_engine.specs.declared.plan.Plan as code
use Rattle.snort_engine.specs.Course.{Plan}
use Rattle.snort_engine.specs.Trace.{Closed, Open, closing_items, detection_of, items_of, job_items, jobs_of, last_of, trace, jobs_way_by, jobs_way}
use Rattle.snort_engine.specs.Lines.{lines}
use Rattle.snort_engine.specs.Counts.{counts_of, try_count}
use Rattle.snort_engine.specs.Steps.Sourcing.{PlacesJobs, last_after}
use Rattle.snort_engine.specs.Steps.Detecting.{Advances, AreTaken, Closes, Earlier, HasRun, IsInspectionAfter, IsKnown}
use Rattle.snort_engine.specs.Steps.Detecting.{IsNewInspection, IsSoundPlan, MakesJobs, Stage, closing_lines, counted, jobs_lines}
use Rattle.snort_engine.specs.Steps.Detecting.{jobs_stage, records_stage}
use Rattle.snort_engine.specs.Steps.Showing.{IsTest, plan_of}
use Rattle.snort_engine.proofs.Lines.Laws.{alerts-counted, jobs_lines-closing, jobs_lines-records}
use Rattle.snort_engine.proofs.Lines.Sourcing.{last_of-more, sources_last, sources_made, told_found}
use Rattle.snort_engine.proofs.Lines.Learning.{hold-new}

-- ---- stages

-- memory was lacking before
pub advances_nothing : {S X Y : Type 0} (stage : Stage S X Y) (inputs : List Y) (old new : S) (first end : Sending) → end.written ≡ first.written → end.faults ≡ first.faults
    → Advances {A = Unit {0}} stage inputs old new first end (Err write.NoMemory)
advances_nothing stage inputs old new first end written faults = record { holds = tt; emits = emits_nothing _ first end written faults }

-- a step was stopped, where no text waited before
advances_stopped : {S X Y : Type 0} (stage : Stage S X Y) (inputs : List Y) (old new : S) (first end : Sending) (why : WriteFault) → first.block ≡ []
    → Advances {A = Unit {0}} stage inputs old new first end (Err why) → Advances {A = Unit {0}} stage inputs old new (emptied first) (emptied end) (Err why)
advances_stopped stage inputs old new first end why empty one = record { holds = tt; emits = emits_settled (Err why) first end empty tt one.emits }

-- a step went on, and what waits was offered
advances_offered : {S X Y : Type 0} (stage : Stage S X Y) (inputs : List Y) (old middle new : S) (first between end : Sending)
    (done : Unit {0}) (outcome : Result (Unit {0}) WriteFault)
    → first.block ≡ []
    → OnOk outcome (end.block ≡ [])
    → Advances stage inputs old middle first between (Ok done)
    → Emits [] between end outcome
    → ((before : List X) → stage.holds before middle → stage.holds before new)
    → Advances stage inputs old new (emptied first) (emptied end) outcome
advances_offered {S} {X} {Y} stage inputs old middle new first between end done outcome empty emptied_then one offered on = record {
  holds = by_outcome outcome;
  emits = emits_settled outcome first end empty emptied_then (emits_then one.emits offered (λ before. (before, tt, sym (append-nil _))));
}
  where
    by_outcome : (so : Result (Unit {0}) WriteFault) → OnOk so ((before : List X) → stage.holds before old → stage.holds (before ++ stage.what inputs) new)
    by_outcome (Ok told) = λ before holds. on (before ++ stage.what inputs) (one.holds before holds)
    by_outcome (Err why) = tt

-- ---- jobs

-- what is detected by goes by this configuration and these rules
pub detects_by : {P : Type 0} (finds : P → List ℕ → Option Span) (plan : code.Plan P) (matches : Test)
    (test : IsTest finds plan.setup.set matches)
    → DetectsBy finds test.means plan.setup.config.stream plan.setup.set (detection_of (plan_of matches plan))
detects_by finds plan matches test = record { config = refl; rules = refl; made = test.find; told = test.tells }

-- the items of the answers to a batch, without their records
items_found : (d : Detection) (source : ℕ → LinkedRecord) (before batch : List Job) (hits : List JobHits) → hits ≡ along_from (answer d) before batch
    → whats (sourced_items (by_place source 0 hits)) ≡ trail_from (job_items d) before batch
items_found d source before batch hits is =
    ap whats (told_found d source before batch hits is)
    ∙ whats-carried (job_items d) before (by_place source 0 batch)
    ∙ ap (trail_from (job_items d) before) (whats-by_place source 0 batch)

-- the tries of a batch are added to those so far
tries_found : (d : Detection) (before batch : List Job) (old new more : ℕ)
    → old ≡ try_count d before
    → new ≡ old + more
    → more ≡ sum (along_from (answer_tries d) before batch)
    → new ≡ try_count d (before ++ batch)
tries_found d before batch old new more so_far is found =
    is ∙ ap (λ (n : ℕ). n + more) so_far ∙ ap (λ (n : ℕ). try_count d before + n) found
    ∙ sym (ap sum (along-append (answer_tries d) before batch) ∙ sum_by-append (λ (x : ℕ). x) (along (answer_tries d) before) (along_from (answer_tries d) before batch))

-- what is known of the events that go before those of a batch
abbrev known_before : (plan : Plan) (batch : List Job) (inspection : Inspection) (out : Matches) (lanes : LanesState) (before : Earlier (jobs_stage plan) inspection)
    → IsBatchSearched (detection_of plan) before.inputs batch out lanes → Matched plan.config plan.rules out inspection.writer
known_before plan batch inspection out lanes before answered = record {
  jobs = along_from (answer (detection_of plan)) before.inputs batch;
  are = record { hits = answered.hits; items = answered.items };
  before = record { items = trail (job_items (detection_of plan)) before.inputs; hold = before.hold.writer };
}

-- the lines of a batch are those of its items
found_lines : (plan : Plan) (source : ℕ → LinkedRecord) (before batch : List Job)
    → jobs_lines plan before (by_place source 0 batch)
    ≡ items_lines plan.form plan.config plan.rules (trail (job_items (detection_of plan)) before) (sourced_items (by_place source 0 (along_from (answer (detection_of plan)) before batch)))
unfolding jobs_lines
found_lines plan source before batch =
    ap (items_lines plan.form plan.config plan.rules (trail (job_items (detection_of plan)) before))
    (sym (told_found (detection_of plan) source before batch (along_from (answer (detection_of plan)) before batch) refl))

-- an inspection that was given jobs was given them, whatever records they are beside
may_be_beside : (plan : Plan) (source : ℕ → LinkedRecord) (before batch : List Job) (inspection : Inspection) → IsInspectionAfter plan (before ++ batch) inspection
    → IsInspectionAfter plan (before ++ whats (by_place source 0 batch)) inspection
may_be_beside plan source before batch inspection holds =
    subst (λ (x : List Job). IsInspectionAfter plan (before ++ x) inspection) (sym (whats-by_place source 0 batch)) holds

-- by what items are shown
abbrev shown_in : Plan → Shown
shown_in plan = record { form = plan.form; config = plan.config; rules = plan.rules }

-- a writer, and a sink
abbrev writing : AlertWriter → Option (List ℕ) → ℕ → Showing
writing writer written faults = record { writer = writer; written = written; faults = faults }

-- the jobs of a batch were run, and the texts of what was found wait, or were written, or a part of them was
runs_by : (outcome : Result (Unit {0}) WriteFault) (plan : Plan) (source : ℕ → LinkedRecord) (batch : List Job) (old new : Inspection) (first end : Option (List ℕ)) (faults after : ℕ) (out : Matches)
    → ((before : List Job) → AreAfter (detection_of plan) old.lanes before → IsBatchSearched (detection_of plan) before batch out new.lanes)
    → new.tries ≡ old.tries + out.tries → ShowsMatches (shown_in plan) source out (writing old.writer first faults) (writing new.writer end after) outcome
    → Advances (jobs_stage plan) (by_place source 0 batch) old new (sending_of (writing old.writer first faults)) (sending_of (writing new.writer end after)) outcome
runs_by outcome plan source batch old new first end faults after out answers tries shows = record {
  holds = by_outcome outcome shows.holds;
  emits = emits_same shows.emits (λ before. (
    known_before plan batch old out new.lanes before (answers before.inputs before.hold.lanes),
    found_lines plan source before.inputs batch,
  ));
}
  where
    by_outcome : (so : Result (Unit {0}) WriteFault)
        → OnOk so ((entries : List JobHits) → AreMatchesOf entries out → (before : List Hits) → IsWriterAfter plan.config plan.rules before old.writer
        → IsWriterAfter plan.config plan.rules (before ++ whats (sourced_items (by_place source 0 entries))) new.writer)
        → OnOk so ((before : List Job) → IsInspectionAfter plan before old → IsInspectionAfter plan (before ++ whats (by_place source 0 batch)) new)
    by_outcome (Ok done) on = λ before holds.
        let answered = answers before holds.lanes in
        let entries : List JobHits = along_from (answer (detection_of plan)) before batch in
        let items = items_found (detection_of plan) source before batch entries refl in
        may_be_beside plan source before batch new (record {
          lanes = answered.holds;
          writer = subst (λ (x : List Hits). IsWriterAfter plan.config plan.rules x new.writer)
              (ap (λ (x : List Hits). trail (job_items (detection_of plan)) before ++ x) items ∙ pipe_more (job_items (detection_of plan)) before batch)
              (on entries (record { hits = answered.hits; items = answered.items }) (trail (job_items (detection_of plan)) before) holds.writer);
          tries = tries_found (detection_of plan) before batch old.tries new.tries out.tries holds.tries tries answered.tries;
        })
    by_outcome (Err why) on = tt

-- the lines of jobs were not all made
pub runs_stopped : (plan : Plan) (source : ℕ → LinkedRecord) (batch : List Job) (old new : Inspection)
    (first end : Option (List ℕ)) (faults after : ℕ) (out : Matches) (why : WriteFault)
    → ((before : List Job) → AreAfter (detection_of plan) old.lanes before →
    IsBatchSearched (detection_of plan) before batch out new.lanes)
    → new.tries ≡ old.tries + out.tries
    → ShowsMatches {A = Unit {0}} (shown_in plan) source out (writing old.writer first faults) (writing new.writer end after)
    (Err why)
    → waiting_in old.writer ≡ []
    → Advances {A = Unit {0}} (jobs_stage plan) (by_place source 0 batch) old new
    (record { written = first; block = []; faults = faults })
    (record { written = end; block = []; faults = after })
    (Err why)
runs_stopped plan source batch old new first end faults after out why answers tries shows none =
    advances_stopped (jobs_stage plan) (by_place source 0 batch) old new _ _ why none (runs_by (Err why) plan source batch old new first end faults after out answers tries shows)

-- the lines of jobs were made, and then offered
pub runs_offered : (outcome : Result (Unit {0}) WriteFault) (plan : Plan) (source : ℕ → LinkedRecord) (batch : List Job)
    (old new : Inspection) (between : AlertWriter) (first second end : Option (List ℕ))
    (faults later after : ℕ) (out : Matches) (done : Unit {0})
    → ((before : List Job) → AreAfter (detection_of plan) old.lanes before →
    IsBatchSearched (detection_of plan) before batch out new.lanes)
    → new.tries ≡ old.tries + out.tries
    → ShowsMatches (shown_in plan) source out (writing old.writer first faults) (writing between second later) (Ok done)
    → waiting_in old.writer ≡ []
    → Emits [] (sending_of (writing between second later)) (sending_of (writing new.writer end after)) outcome
    → StaysAfter between new.writer
    → OnOk outcome (waiting_in new.writer ≡ [])
    → Advances (jobs_stage plan) (by_place source 0 batch) old new (record { written = first; block = []; faults = faults })
    (record { written = end; block = []; faults = after }) outcome
runs_offered outcome plan source batch old new between first second end faults later after out done answers tries shows none offered further emptied_then =
    let middle : Inspection = record { lanes = new.lanes; groups = new.groups; writer = between; tries = new.tries; last = new.last } in
    advances_offered (jobs_stage plan) (by_place source 0 batch) old middle new _ _ _ done outcome none emptied_then
    (runs_by (Ok done) plan source batch old middle first second faults later out answers tries shows) offered
    (λ before holds. record { lanes = holds.lanes; writer = further plan.config plan.rules (trail (job_items (detection_of plan)) before) holds.writer; tries = holds.tries })

pub has_run : (outcome : Result (Unit {0}) WriteFault) (old new : Inspection) (batch : List Job) → LearnsBatch old.lanes batch new.lanes → new.groups ≡ old.groups → new.last ≡ old.last
    → OnOk outcome (waiting_in new.writer ≡ []) → OnOk outcome (HasRun old batch new)
has_run (Ok done) old new batch learns groups last none = record { learns = learns; groups = groups; last = last; none = none }
has_run (Err why) old new batch learns groups last none = tt

-- ---- the jobs of records

-- no record was taken
pub makes_none : (way : JobsWay) (front : FrontState) → MakesJobs way [] front front []
makes_none way front = λ before holds. record {
  jobs_are = refl;
  holds = subst (λ (x : List LinkedRecord). IsFrontAfter way front x) (sym (append-nil before)) holds;
}

-- one record more was taken
pub makes_step : (way : JobsWay) (records : List LinkedRecord) (i : ℕ) (own : LinkedRecord) (old middle new : FrontState) (made next : List Job) → i < length records → own ≡ get_or records i own
    → MakesJobs way (take i records) old middle made → TakesRecord way middle own new made next
    → MakesJobs way (take (i + 1) records) old new next
makes_step way records i own old middle new made next lt is so_far more =
    let front = take i records in
    let joined : front ++ own ∷ [] ≡ take (i + 1) records = ap (λ (r : LinkedRecord). take i records ++ r ∷ []) is ∙ sym (take_more records i own lt) in
    subst (λ (x : List LinkedRecord). MakesJobs way x old new next) joined
    (λ before holds.
    let one = so_far before holds in
    let two = more (before ++ front) one.holds in record {
      jobs_are = two.added ∙ ap (λ (x : List Job). x ++ jobs way (before ++ front) own) one.jobs_are
          ∙ ap (λ (x : List Job). trail_from (jobs way) before front ++ x) (sym (append-nil (jobs way (before ++ front) own)))
          ∙ sym (trail_from-append (jobs way) before front (own ∷ []));
      holds = subst (λ (x : List LinkedRecord). IsFrontAfter way new x) (append_assoc before front (own ∷ [])) two.holds;
    })

-- ---- records

-- the lines of the jobs of records that were taken are those of the records
pub lines_made : (plan : Plan) (records : List LinkedRecord) (last : LinkedRecord) (before : List LinkedRecord) (new : FrontState) (made : List Job) (places : List ℕ)
    → AreTaken (jobs_way plan) before records new made → places ≡ places_along (jobs (jobs_way plan)) before 0 records
    → jobs_lines plan (jobs_of plan before) (by_place (source_in records last places) 0 made) ≡ lines plan before records Open
lines_made plan records last before new made places taken places_are =
    ap (jobs_lines plan (jobs_of plan before)) (sources_made (jobs_way plan) records last before made places taken.jobs_are places_are)
    ∙ jobs_lines-records plan before records

-- the inspection that ran the jobs of records was given them
pub holds_made : (plan : Plan) (source : ℕ → LinkedRecord) (before records : List LinkedRecord) (new : FrontState)
    (made : List Job) (inspection : Inspection)
    → AreTaken (jobs_way plan) before records new made
    → IsInspectionAfter plan (jobs_of plan before ++ whats (by_place source 0 made)) inspection
    → IsInspectionAfter plan (jobs_of plan (before ++ records)) inspection
holds_made plan source before records new made inspection taken holds =
    subst (λ (x : List Job). IsInspectionAfter plan x inspection)
    (ap (λ (x : List Job). jobs_of plan before ++ x) (whats-by_place source 0 made ∙ taken.jobs_are) ∙ pipe_more (jobs (jobs_way plan)) before records) holds

-- what is known of the jobs before, of which the lines of records are
taken_lines : (plan : Plan) (records : List LinkedRecord) (old : Detector) (front : FrontState) (made : List Job) (places : List ℕ)
    → MakesJobs (jobs_way plan) records old.front front made → PlacesJobs (jobs_way plan) records old.front places
    → (before : Earlier (records_stage plan) old)
    → (jobs : Earlier (jobs_stage plan) old.inspection)
    × (lines plan before.inputs records Open ≡ jobs_lines plan jobs.inputs (by_place (source_in records old.inspection.last places) 0 made))
taken_lines plan records old front made places makes placed before = (
  record { inputs = jobs_of plan before.inputs; hold = before.hold.inspection },
  sym (lines_made plan records old.inspection.last before.inputs front made places (makes before.inputs before.hold.front) (placed before.inputs before.hold.front)),
)

-- a batch of records was taken, and the running of its jobs was stopped
pub records_stopped : (plan : Plan) (records : List LinkedRecord) (old new : Detector) (front : FrontState) (made : List Job)
    (places : List ℕ) (last : Inspection) (first end : Sending) (why : WriteFault)
    → MakesJobs (jobs_way plan) records old.front front made
    → PlacesJobs (jobs_way plan) records old.front places
    → Advances {A = Unit {0}} (jobs_stage plan) (by_place (source_in records old.inspection.last places) 0 made)
    old.inspection last first end (Err why)
    → Advances {A = Unit {0}} (records_stage plan) records old new first end (Err why)
records_stopped plan records old new front made places last first end why makes placed run =
    record { holds = tt; emits = emits_stopped run.emits (taken_lines plan records old front made places makes placed) }

-- the jobs of a batch of records were run, and its last record kept
pub records_shown : (plan : Plan) (records : List LinkedRecord) (old new : Detector) (made : List Job) (places : List ℕ) (first end : Sending) (ran : Inspection) (done : Unit {0})
    → MakesJobs (jobs_way plan) records old.front new.front made → PlacesJobs (jobs_way plan) records old.front places
    → Advances (jobs_stage plan) (by_place (source_in records old.inspection.last places) 0 made) old.inspection ran first end (Ok done)
    → ((before : List Job) → IsInspectionAfter plan before ran → IsInspectionAfter plan before new.inspection) → new.inspection.last ≡ last_after old.inspection.last records
    → Advances {A = Unit {0}} (records_stage plan) records old new first end (Ok tt)
records_shown plan records old new made places first end ran done makes placed run on kept = record {
  holds = λ before holds.
      let last = old.inspection.last in
      let source = source_in records last places in
      let taken = makes before holds.front in record {
        front = taken.holds;
        inspection =
            holds_made plan source before records new.front made new.inspection taken
            (on (jobs_of plan before ++ whats (by_place source 0 made)) (run.holds (jobs_of plan before) holds.inspection));
        last = kept ∙ last_of-more before last records holds.last;
      };
  emits = emits_told run.emits (taken_lines plan records old new.front made places makes placed);
}

-- ---- what is known, whatever the host tells

-- the front's law, for a batch among all jobs
ready_among : (engines : ℕ) (way : JobsWay) (front : FrontState) (records : List LinkedRecord) (lanes : LanesState)
    (earlier batch more : List Job)
    → engines ≡ length way.stream.engines
    → HaveLearnt lanes earlier
    → all_jobs way records ≡ earlier ++ (batch ++ more)
    → length records ≤ 2 ^ 32
    → IsFrontAfter way front records
    → AreReady engines lanes batch
ready_among engines way front records lanes earlier batch more is know joined few holds =
    let order = in_order way records in
    let sound : AreSound engines (all_jobs way records) = subst (λ (n : ℕ). AreSound n (all_jobs way records)) (sym is) (order.sound few holds.short) in
    ready engines lanes earlier batch more know (subst (λ (x : List Job). AreSound engines x) joined sound) (subst (λ (x : List Job). AreNumbered x) joined order.numbered)

-- the jobs of a batch may be run
pub ready_records : (engines : ℕ) (way : JobsWay) (rules : List Rule) (detector : Detector) (records : List LinkedRecord) (front : FrontState) (made : List Job) → engines ≡ length way.stream.engines
    → IsKnown way rules detector → MakesJobs way records detector.front front made → detector.front.counts.records + length records ≤ 2 ^ 32
    → AreReady engines detector.inspection.lanes made
ready_records engines way rules detector records front made is known makes few =
    let taken = makes known.records known.front in
    let all = known.records ++ records in
    let earlier = trail (jobs way) known.records in
    let joined : trail (jobs way) all ≡ earlier ++ made = sym (ap (λ (x : List Job). earlier ++ x) taken.jobs_are ∙ pipe_more (jobs way) known.records records) in
    let l = length-append known.records records in
    let c = records-counted way detector.front known.records known.front in
    ready_among engines way front all detector.inspection.lanes earlier made (finishes way all) is known.learnt
    (ap (λ (x : List Job). x ++ finishes way all) joined ∙ append_assoc earlier made (finishes way all)) (omega (arith, l, c, few)) taken.holds

-- the jobs after all records are ready, too
pub ready_closing : (engines : ℕ) (way : JobsWay) (rules : List Rule) (detector : Detector) (made : List Job) → engines ≡ length way.stream.engines
    → IsKnown way rules detector → GivesFinishes detector.front [] made → detector.front.counts.records ≤ 2 ^ 32
    → AreReady engines detector.inspection.lanes made
ready_closing engines way rules detector made is known gives few =
    let last : made ≡ finishes way known.records = gives way known.records known.front in
    let earlier = trail (jobs way) known.records in
    let c = records-counted way detector.front known.records known.front in
    ready_among engines way detector.front known.records detector.inspection.lanes earlier made [] is known.learnt
    (ap (λ (x : List Job). earlier ++ x) (sym last ∙ sym (append-nil made))) (omega (arith, c, few)) known.front

-- what is known goes on with a batch
pub known_records : (way : JobsWay) (rules : List Rule) (old new : Detector) (records : List LinkedRecord) (made : List Job) → IsKnown way rules old → MakesJobs way records old.front new.front made
    → LearnsBatch old.inspection.lanes made new.inspection.lanes → new.inspection.groups ≡ old.inspection.groups → waiting_in new.inspection.writer ≡ [] → IsKnown way rules new
known_records way rules old new records made known makes learns groups none =
    let taken = makes known.records known.front in
    let all = known.records ++ records in
    let earlier = trail (jobs way) known.records in
    let joined : earlier ++ made ≡ trail (jobs way) all = ap (λ (x : List Job). earlier ++ x) taken.jobs_are ∙ pipe_more (jobs way) known.records records in
    record {
      records = all;
      front = taken.holds;
      learnt = subst (λ (x : List Job). HaveLearnt new.inspection.lanes x) joined (learnt old.inspection.lanes new.inspection.lanes earlier made known.learnt learns);
      groups = subst (λ (g : Groups). AreFor g rules) (sym groups) known.groups;
      none = none;
    }

-- ---- a detector that was given nothing

pub inspection_holds-new : {P : Type 0} (plan : code.Plan P) (matches : Test) (inspection : Inspection)
    → IsSoundPlan plan
    → IsNewInspection plan inspection
    → IsInspectionAfter (plan_of matches plan) [] inspection
inspection_holds-new plan matches inspection sound new = record {
  lanes = hold-new (detection_of (plan_of matches plan)) plan.lanes inspection.lanes sound.ranges.some new.lanes;
  writer = new.writer;
  tries = new.tries;
}

pub known-new : {P : Type 0} (plan : code.Plan P) (detector : Detector)
    → IsFrontAfter (jobs_way_by plan.checks plan.setup.hosts plan.setup.config) detector.front []
    → IsNewInspection plan detector.inspection
    → IsKnown (jobs_way_by plan.checks plan.setup.hosts plan.setup.config) plan.setup.set.rules detector
known-new plan detector front new = record {
  records = [];
  front = front;
  learnt = new_learnt plan.lanes plan.flush plan.setup.config.inserts detector.inspection.lanes new.lanes;
  groups = new.groups;
  none = new.none;
}

-- ---- the end

same_counts : (seen seen' : RecordCounts) (items items' hits hits' alerts alerts' tries tries' : ℕ) → seen ≡ seen' → items ≡ items' → hits ≡ hits' → alerts ≡ alerts' → tries ≡ tries'
    → ◌≡◌ {A = Counts} (record { seen = seen; items = items; hits = hits; alerts = alerts; tries = tries }) (record { seen = seen'; items = items'; hits = hits'; alerts = alerts'; tries = tries' })
same_counts seen seen' items items' hits hits' alerts alerts' tries tries' a b c d e = cc

-- all was counted
counted_all : (plan : Plan) (records : List LinkedRecord) (seen : RecordCounts) (inspection : Inspection) → seen ≡ counts (jobs_way plan) records
    → IsInspectionAfter plan (jobs_of plan records ++ finishes (jobs_way plan) records) inspection → counted seen inspection ≡ counts_of plan records
unfolding counts_of tally_of items_of closing_items
counted_all plan records seen inspection is holds =
    let d = detection_of plan in
    let made = jobs_of plan records in
    let last = finishes (jobs_way plan) records in
    let items = items_of plan records in
    let after_all = closing_items plan records in
    let found : trail (job_items d) (made ++ last) ≡ items ++ after_all = trail-append (job_items d) made last in
    let tally : tally_in inspection.writer ≡ tally_of plan.config plan.rules (items ++ after_all) = holds.writer.tally ∙ ap (tally_of plan.config plan.rules) found in
    same_counts seen (counts (jobs_way plan) records)
    (tally_in inspection.writer).items (length (items ++ after_all)) (tally_in inspection.writer).hits (hit_count (items ++ after_all))
    (tally_in inspection.writer).alerts (length (trace plan [] records Closed)) inspection.tries (try_count d (made ++ last))
    is (ap (λ (t : Tally). t.items) tally) (ap (λ (t : Tally). t.hits) tally)
    (ap (λ (t : Tally). t.alerts) tally ∙ alerts-counted plan records (items ++ after_all) refl) holds.tries

-- the lines of the jobs after all records, each beside the last one
lines_closing : (plan : Plan) (records : List LinkedRecord) (last : LinkedRecord) (made : List Job) → made ≡ finishes (jobs_way plan) records → last ≡ last_of records
    → jobs_lines plan (jobs_of plan records) (by_place (source_in [] last []) 0 made) ≡ closing_lines plan records
lines_closing plan records last made are is =
    ap (jobs_lines plan (jobs_of plan records)) (sources_last last made ∙ ap₂ (λ (l : LinkedRecord) (m : List Job). map (beside l) m) is are)
    ∙ jobs_lines-closing plan records

-- what is known of the jobs before, of which the lines of the flows that end are
ended_lines : (plan : Plan) (old : Detector) (made : List Job) → GivesFinishes old.front [] made → (before : Earlier (records_stage plan) old)
    → (jobs : Earlier (jobs_stage plan) old.inspection)
    × (closing_lines plan before.inputs ≡ jobs_lines plan jobs.inputs (by_place (source_in [] old.inspection.last []) 0 made))
ended_lines plan old made gives before = (
  record { inputs = jobs_of plan before.inputs; hold = before.hold.inspection },
  sym (lines_closing plan before.inputs old.inspection.last made (gives (jobs_way plan) before.inputs before.hold.front) before.hold.last),
)

-- the running of the jobs after all records was stopped
pub closed_stopped : (plan : Plan) (old : Detector) (made : List Job) (ran : Inspection) (first end : Sending) (why : WriteFault) → GivesFinishes old.front [] made
    → Advances {A = Unit {0}} (jobs_stage plan) (by_place (source_in [] old.inspection.last []) 0 made) old.inspection ran first end (Err why)
    → Closes plan old first end (Err why)
closed_stopped plan old made ran first end why gives run = record { counted = tt; emits = emits_stopped run.emits (ended_lines plan old made gives) }

-- the jobs after all records were run
pub closed_whole : (plan : Plan) (old : Detector) (made : List Job) (ran : Inspection) (first end : Sending) (done : Unit {0}) (seen : RecordCounts)
    → GivesFinishes old.front [] made → TellsCounts old.front seen
    → Advances (jobs_stage plan) (by_place (source_in [] old.inspection.last []) 0 made) old.inspection ran first end (Ok done)
    → Closes plan old first end (Ok (counted seen ran))
closed_whole plan old made ran first end done seen gives tells run = record {
  counted = λ records holds.
      let way = jobs_way plan in
      let source = source_in [] old.inspection.last [] in
      let are : made ≡ finishes way records = gives way records holds.front in
      counted_all plan records seen ran (tells way records holds.front)
      (subst (λ (x : List Job). IsInspectionAfter plan (jobs_of plan records ++ x) ran) (whats-by_place source 0 made ∙ are) (run.holds (jobs_of plan records) holds.inspection));
  emits = emits_told run.emits (ended_lines plan old made gives);
}

-- memory was lacking before the jobs after all records were run
pub closed_nothing : (plan : Plan) (old : Detector) (now : Sending) → Closes plan old now now (Err write.NoMemory)
closed_nothing plan old now = record { counted = tt; emits = emits_nothing _ now now refl refl }
