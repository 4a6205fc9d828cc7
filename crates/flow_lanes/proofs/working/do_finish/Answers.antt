-- A flow that is kept ends in its place and is then removed, so that nothing of it is kept; of one that isn't kept there is
-- nothing to end, and no item.
use Rattle.std.proofs.Common.{◌≡◌, None, Some, sym, ◌∙◌, rules}
use Rattle.flow_lanes.specs.Given.{inspection_of}
use Rattle.flow_lanes.specs.Kept.{kept_in}
use Rattle.flow_lanes.specs.Tried.{so_far}
use Rattle.flow_lanes.proofs.Sessions.DetectsOn.{nothing}
use Rattle.flow_lanes.proofs.Jobs.IsDone.{do-finish}
use Rattle.flow_lanes.proofs.Jobs.KeptIn.{looked_up, sets-again, sets-from, sets-none}
use Rattle.flow_lanes.proofs.working.do_finish.Goals as goal

pub returns-in_ok-tally-in-Some : goal.returns-in_ok-tally-in-Some
returns-in_ok-tally-in-Some g c = λ making.
    let old = c.args.flows.now.entries in
    let mid = (c.get_mut.follows.lender c.finish.new.self).entries in
    let new = c.remove.new.self.entries in
    let updates = (c.get_mut.follows.holds c.finish.new.self).3 (search rules) in
    do-finish (inspection_of g.P.Pattern.finds c.args.inspector.now) making c.args.moment c.args.flow old new (Some c.in-Some.kept.now) (so_far c.in_ok-tally-in-Some.tally)
    (c.in-Some.ensures.value ∙ looked_up c.args.flow old)
    (sets-again c.args.flow (Some c.finish.new.self) None old mid new (sets-from c.args.flow (Some c.finish.new.self) old mid (λ other. updates.0 other))
    (sets-from c.args.flow None mid new (λ other. c.remove.ensures.updates.0 other)))
    c.in_ok-tally-in-Some.ensures

pub returns-in-None : goal.returns-in-None
returns-in-None g c = λ making.
    let old = c.args.flows.now.entries in
    let new = c.get_mut.follows.lender-at-none.entries in
    let none : kept_in old c.args.flow ≡ None = sym (looked_up c.args.flow old) ∙ sym c.in-None.ensures.value in
    do-finish (inspection_of g.P.Pattern.finds c.args.inspector.now) making c.args.moment c.args.flow old new None (so_far c.new.result)
    (sym none) (λ other. (λ i. kept_in (c.get_mut.follows.holds-at-none i).entries other) ∙ sets-none c.args.flow old none other)
    (nothing (inspection_of g.P.Pattern.finds c.args.inspector.now) (so_far c.new.result) c.new.ensures.hits c.new.ensures.items c.new.ensures.tries c.new.ensures.visits c.args.moment)
