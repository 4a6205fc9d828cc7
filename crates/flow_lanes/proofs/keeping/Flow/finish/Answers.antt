-- The end of a flow tries the items of its closing session from an empty tally, which are those of `finish_items`;
-- `end_session` lets no session reach further, so that the invariant holds.
use Rattle.std.proofs.Common.{subst}
use Rattle.flow_lanes.specs.Flows.{session_at_hand}
use Rattle.flow_lanes.specs.Given.{inspection_of}
use Rattle.flow_lanes.specs.Items.{finish_items}
use Rattle.flow_lanes.specs.LanesAfter.{KeptFlow}
use Rattle.flow_lanes.specs.Tried.{Tallied, of_job, so_far}
use Rattle.flow_lanes.proofs.Sessions.DetectsOn.{finished}
use Rattle.flow_lanes.proofs.Sessions.IsKeptBy.{kept-still}
use Rattle.flow_lanes.proofs.keeping.Flow.finish.Goals as goal

pub invariant_of-self : goal.invariant_of-self
invariant_of-self g c = kept-still c.self.inside.facts (session_at_hand c.self.inside.found) (session_at_hand c.end_session.new.found) c.self.invariant c.end_session.ensures.keeps

pub invariant_of-self-2 : goal.invariant_of-self-2
invariant_of-self-2 g c = kept-still c.self.inside.facts (session_at_hand c.self.inside.found) (session_at_hand c.end_session.new.found) c.self.invariant c.end_session.ensures.keeps

pub returns : goal.returns
returns g c =
    let by = inspection_of g.P.Pattern.finds c.args.inspector.now in
    subst (λ (k : KeptFlow). Tallied by (of_job (finish_items c.args.moment (session_at_hand k.found)) k.found)
    (so_far c.end_session.new.tally)) c.self.view_is
    (finished by (so_far c.new-tally.result) c.new-tally.ensures.hits c.new-tally.ensures.items c.new-tally.ensures.tries
    c.new-tally.ensures.visits c.args.moment c.self.inside.found (so_far c.end_session.new.tally)
    c.in_ok-end_session.ensures.tallies)
