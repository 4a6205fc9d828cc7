-- What `search` finds is the definition's by any test that tells what the maker means (`detects_by`); its lines are made and
-- then offered, unless a fault stops one of these steps.
use Rattle.std.proofs.Common.{refl}
use Rattle.std.proofs.lemmas.Result.{err_from_is_err_and}
use Rattle.alert_lines.specs.Beside.{by_place, source_in}
use Rattle.alert_lines.proofs.Emitting.{any_then, emits_any, emits_nothing}
use Rattle.snort_engine.specs.Trace.{detection_of}
use Rattle.snort_engine.specs.Steps.Detecting.{jobs_stage}
use Rattle.snort_engine.specs.Steps.Showing.{plan_of}
use Rattle.snort_engine.proofs.Lines.Detecting.{advances_nothing, detects_by, has_run, runs_offered, runs_stopped}
use Rattle.snort_engine.proofs.detect.run_jobs.Goals as goal

pub returns-in_err-search-clause-shown : goal.returns-in_err-search-clause-shown
returns-in_err-search-clause-shown g c = λ matches test.
    let p = err_from_is_err_and c.from_residual.result c.from_residual.ensures.1 in
    rw (p.1, p.2)
    (advances_nothing (jobs_stage (plan_of matches c.args.context.now.plan.now))
    (by_place (source_in c.args.records.now c.args.inspection.now.last c.args.places.now) 0 c.args.jobs.now) _ _ _ _ refl refl)

pub returns-in_err-search-clause-ends : goal.returns-in_err-search-clause-ends
returns-in_err-search-clause-ends g c =
    let p = err_from_is_err_and c.from_residual.result c.from_residual.ensures.1 in
    rw (p.1, p.2) (emits_nothing _ _ _ refl refl)

pub returns-in_err-inspection-clause-shown : goal.returns-in_err-inspection-clause-shown
returns-in_err-inspection-clause-shown g c = λ matches test.
    let p = err_from_is_err_and c.from_residual-in_err-inspection.result c.from_residual-in_err-inspection.ensures.1 in
    rw (p.1, p.2)
    (advances_nothing (jobs_stage (plan_of matches c.args.context.now.plan.now))
    (by_place (source_in c.args.records.now c.args.inspection.now.last c.args.places.now) 0 c.args.jobs.now) _ _ _ _ refl refl)

pub returns-in_err-inspection-clause-ends : goal.returns-in_err-inspection-clause-ends
returns-in_err-inspection-clause-ends g c =
    let p = err_from_is_err_and c.from_residual-in_err-inspection.result c.from_residual-in_err-inspection.ensures.1 in
    rw (p.1, p.2) (emits_nothing _ _ _ refl refl)

pub returns-in_err-show-clause-shown : goal.returns-in_err-show-clause-shown
returns-in_err-show-clause-shown g c = λ matches test.
    let p = err_from_is_err_and c.from_residual-in_err-show.result c.from_residual-in_err-show.ensures.1 in
    let plan = plan_of matches c.args.context.now.plan.now in
    let shows = rw c.rules.ensures at c.in_err-show.ensures in
    rw (p.1, p.2) (runs_stopped plan (source_in c.args.records.now c.args.inspection.now.last c.args.places.now) c.args.jobs.now _ _ _ _ _ _ c.search.new.out c.in_err-show.field-0.0
    (λ before holds. c.in_ok-search.ensures.finds test.means (detection_of plan) before (detects_by {P = g.row.P.Denot} g.P.Pattern.finds c.args.context.now.plan.now matches test) holds)
    c.in_ok-inspection.ensures shows c.requires.none)

pub returns-in_err-show-clause-ends : goal.returns-in_err-show-clause-ends
returns-in_err-show-clause-ends g c =
    let p = err_from_is_err_and c.from_residual-in_err-show.result c.from_residual-in_err-show.ensures.1 in
    rw (p.1, p.2) (emits_any c.in_err-show.ensures.emits)

pub returns-clause-shown : goal.returns-clause-shown
returns-clause-shown g c = λ matches test.
    let plan = plan_of matches c.args.context.now.plan.now in
    let shows = rw c.rules.ensures at c.in_ok-show.ensures in
    runs_offered c.write_out.result plan (source_in c.args.records.now c.args.inspection.now.last c.args.places.now) c.args.jobs.now _ _ c.show.new.self _ _ _ _ _ _ c.search.new.out _
    (λ before holds. c.in_ok-search.ensures.finds test.means (detection_of plan) before (detects_by {P = g.row.P.Denot} g.P.Pattern.finds c.args.context.now.plan.now matches test) holds)
    c.in_ok-inspection.ensures shows c.requires.none c.write_out.ensures.emits c.write_out.ensures.holds c.write_out.ensures.emptied

pub returns-clause-ran : goal.returns-clause-ran
returns-clause-ran g c = has_run c.write_out.result _ _ _ c.in_ok-search.ensures.learns refl refl c.write_out.ensures.emptied

pub returns-clause-ends : goal.returns-clause-ends
returns-clause-ends g c = any_then (emits_any c.in_ok-show.ensures.emits) (emits_any c.write_out.ensures.emits)
