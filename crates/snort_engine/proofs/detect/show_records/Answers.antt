-- The jobs that are run are those that the records make, each with its record's place: so what `run_jobs` shows is what the
-- records show, all of it or until a fault.
use Rattle.std.proofs.Common.{refl, arith}
use Rattle.std.proofs.lemmas.Result.{err_from_is_err_and}
use Rattle.alert_lines.proofs.Emitting.{emits_nothing, emits_told}
use Rattle.snort_engine.specs.Trace.{jobs_way_by}
use Rattle.snort_engine.specs.Steps.Detecting.{records_stage}
use Rattle.snort_engine.specs.Steps.Showing.{plan_of}
use Rattle.snort_engine.proofs.Lines.Detecting.{advances_nothing, known_records, ready_records, records_shown, records_stopped}
use Rattle.snort_engine.proofs.detect.show_records.Goals as goal

pub returns-in_err-made-clause-shown : goal.returns-in_err-made-clause-shown
returns-in_err-made-clause-shown g c = λ matches test.
    let p = err_from_is_err_and c.from_residual.result c.from_residual.ensures.1 in
    rw (p.1, p.2) (advances_nothing (records_stage (plan_of matches c.args.context.now.plan.now)) _ _ _ _ _ refl refl)

pub returns-in_err-made-clause-ends : goal.returns-in_err-made-clause-ends
returns-in_err-made-clause-ends g c =
    let p = err_from_is_err_and c.from_residual.result c.from_residual.ensures.1 in
    rw (p.1, p.2) (emits_nothing _ _ _ refl refl)

pub run_jobs-requires-clause-ready : goal.run_jobs-requires-clause-ready
run_jobs-requires-clause-ready g c κs within =
    let makes = rw (c.front_config-by.ensures.way, c.deref.ensures.value) at c.in_ok-made.ensures.makes in
    let few = c.requires.few in
    rw c.deref-2.ensures.value
    (ready_records _
    (jobs_way_by c.args.context.now.plan.now.checks c.args.context.now.plan.now.setup.hosts
    c.args.context.now.plan.now.setup.config)
    c.args.context.now.plan.now.setup.set.rules
    c.args.detector.now c.args.records.now.items _ c.in_ok-made.made.jobs.items
    refl c.requires.known makes (omega (arith, few)))

pub returns-in_err-run_jobs-clause-shown : goal.returns-in_err-run_jobs-clause-shown
returns-in_err-run_jobs-clause-shown g c = λ matches test.
    let p = err_from_is_err_and c.from_residual-in_err-run_jobs.result c.from_residual-in_err-run_jobs.ensures.1 in
    let makes = rw (c.front_config-by.ensures.way, c.deref.ensures.value) at c.in_ok-made.ensures.makes in
    let placed = rw (c.front_config-by.ensures.way, c.deref.ensures.value) at c.in_ok-made.ensures.places in
    let run = rw (c.deref-2.ensures.value, c.deref-3.ensures.value, c.deref-4.ensures.value) at (c.in_err-run_jobs.ensures.shown matches test) in
    rw (p.1, p.2) (records_stopped (plan_of matches c.args.context.now.plan.now) c.args.records.now.items _ _ _ c.in_ok-made.made.jobs.items c.in_ok-made.made.places.items _ _ _ _ makes placed run)

pub returns-in_err-run_jobs-clause-ends : goal.returns-in_err-run_jobs-clause-ends
returns-in_err-run_jobs-clause-ends g c =
    let p = err_from_is_err_and c.from_residual-in_err-run_jobs.result c.from_residual-in_err-run_jobs.ensures.1 in
    rw (p.1, p.2) c.in_err-run_jobs.ensures.ends

pub returns-clause-shown : goal.returns-clause-shown
returns-clause-shown g c = λ matches test.
    let makes = rw (c.front_config-by.ensures.way, c.deref.ensures.value) at c.in_ok-made.ensures.makes in
    let placed = rw (c.front_config-by.ensures.way, c.deref.ensures.value) at c.in_ok-made.ensures.places in
    let run =
    rw (c.deref-2.ensures.value, c.deref-3.ensures.value, c.deref-4.ensures.value) at
    (c.in_ok-run_jobs.ensures.shown matches test) in
    records_shown (plan_of matches c.args.context.now.plan.now)
    c.args.records.now.items _ _ c.in_ok-made.made.jobs.items c.in_ok-made.made.places.items _ _ c.run_jobs.new.inspection _ makes
    placed run
    (λ before holds. record { lanes = holds.lanes; writer = holds.writer; tries = holds.tries })
    (rw c.in_ok-run_jobs.ensures.ran.last at c.keep_last.ensures)

pub returns-clause-ends : goal.returns-clause-ends
returns-clause-ends g c = emits_told c.in_ok-run_jobs.ensures.ends (λ none. absurd none)

pub returns-clause-known : goal.returns-clause-known
returns-clause-known g c =
    let makes = rw (c.front_config-by.ensures.way, c.deref.ensures.value) at c.in_ok-made.ensures.makes in
    let learns = rw c.deref-2.ensures.value at c.in_ok-run_jobs.ensures.ran.learns in
    (known_records (jobs_way_by c.args.context.now.plan.now.checks c.args.context.now.plan.now.setup.hosts
    c.args.context.now.plan.now.setup.config)
    c.args.context.now.plan.now.setup.set.rules
    c.args.detector.now _ c.args.records.now.items c.in_ok-made.made.jobs.items
    c.requires.known makes learns c.in_ok-run_jobs.ensures.ran.groups c.in_ok-run_jobs.ensures.ran.none)
