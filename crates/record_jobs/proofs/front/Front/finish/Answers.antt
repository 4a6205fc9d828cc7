-- The flows that end are those that live after the records' touches, in ascending order, so their ends are those of the
-- definition (`finishes-are`).
use Rattle.std.proofs.Common.{◌++◌, List, ℕ, ap, subst, sym, ◌∙◌}
use Rattle.stream5_sessions.specs.Liveness.{live_flows}
use Rattle.record_jobs.specs.Fronts.{FrontState, IsFrontAfter}
use Rattle.record_jobs.specs.Inside.{front_of}
use Rattle.record_jobs.specs.Touches.{touches}
use Rattle.record_jobs.proofs.Fronts.Ending.{finishes-are}
use Rattle.record_jobs.proofs.front.Front.finish.Goals as goal

pub returns-in-Ok-clause-ok : goal.returns-in-Ok-clause-ok
returns-in-Ok-clause-ok c = λ way before holds.
    let inside : IsFrontAfter way (front_of c.self.inside) before = subst (λ (front : FrontState). IsFrontAfter way front before) (sym c.self.view_is) holds in
    finishes-are way (front_of c.self.inside) before c.args.out.now.items c.add_finishes.new.out.items c.deref.result.now inside
    (c.deref.ensures.value ∙ c.in_ok-live.ensures.ok (touches way before) inside.flows ∙ ap (λ (fs : List ℕ). fs ++ live_flows c.self.inside.flows.max (touches way before)) c.new-flows.ensures.items)
    c.in-Ok.ensures.ok
