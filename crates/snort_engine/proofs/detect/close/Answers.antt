-- The jobs that the front leaves are sound for the lanes by what the detector knows (`ready_closing`), so that they may be
-- run: whole, or until a fault stops them.
use Rattle.std.proofs.Common.{refl}
use Rattle.std.proofs.lemmas.Result.{err_from_is_err_and}
use Rattle.alert_lines.proofs.Emitting.{emits_nothing, emits_stopped, emits_told}
use Rattle.snort_engine.specs.Trace.{jobs_way_by}
use Rattle.snort_engine.specs.Steps.Showing.{plan_of}
use Rattle.snort_engine.proofs.Lines.Detecting.{closed_nothing, closed_stopped, closed_whole, ready_closing}
use Rattle.snort_engine.proofs.detect.close.Goals as goal

pub returns-in_err-jobs-clause-closed : goal.returns-in_err-jobs-clause-closed
returns-in_err-jobs-clause-closed g c = λ matches test.
    let p = err_from_is_err_and c.from_residual.result c.from_residual.ensures.1 in
    rw (p.1, p.2) (closed_nothing (plan_of matches c.args.context.now.plan.now) _ _)

pub returns-in_err-jobs-clause-ends : goal.returns-in_err-jobs-clause-ends
returns-in_err-jobs-clause-ends g c =
    let p = err_from_is_err_and c.from_residual.result c.from_residual.ensures.1 in
    rw (p.1, p.2) (emits_nothing _ _ _ refl refl)

pub run_jobs-requires-clause-ready : goal.run_jobs-requires-clause-ready
run_jobs-requires-clause-ready g c κs within =
    rw c.deref.ensures.value
    (ready_closing _
    (jobs_way_by c.args.context.now.plan.now.checks c.args.context.now.plan.now.setup.hosts
    c.args.context.now.plan.now.setup.config)
    c.args.context.now.plan.now.setup.set.rules
    c.args.detector c.in_ok-jobs.jobs.items refl c.requires.known c.in_ok-jobs.ensures c.requires.few)

pub returns-in_err-run_jobs-clause-closed : goal.returns-in_err-run_jobs-clause-closed
returns-in_err-run_jobs-clause-closed g c = λ matches test.
    let p = err_from_is_err_and c.from_residual-in_err-run_jobs.result c.from_residual-in_err-run_jobs.ensures.1 in
    let run = rw c.deref.ensures.value at (c.in_err-run_jobs.ensures.shown matches test) in
    rw (p.1, p.2) (closed_stopped (plan_of matches c.args.context.now.plan.now) _ c.in_ok-jobs.jobs.items _ _ _ _ c.in_ok-jobs.ensures run)

pub returns-in_err-run_jobs-clause-ends : goal.returns-in_err-run_jobs-clause-ends
returns-in_err-run_jobs-clause-ends g c =
    let p = err_from_is_err_and c.from_residual-in_err-run_jobs.result c.from_residual-in_err-run_jobs.ensures.1 in
    rw (p.1, p.2) (emits_stopped c.in_err-run_jobs.ensures.ends (λ none. absurd none))

pub returns-clause-closed : goal.returns-clause-closed
returns-clause-closed g c = λ matches test.
    let run = rw c.deref.ensures.value at (c.in_ok-run_jobs.ensures.shown matches test) in
    rw c.counts.ensures
    (closed_whole (plan_of matches c.args.context.now.plan.now) _ c.in_ok-jobs.jobs.items _ _ _ _ c.counts-seen.result c.in_ok-jobs.ensures c.counts-seen.ensures.counts run)

pub returns-clause-ends : goal.returns-clause-ends
returns-clause-ends g c = emits_told c.in_ok-run_jobs.ensures.ends (λ none. absurd none)
