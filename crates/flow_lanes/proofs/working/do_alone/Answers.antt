-- An item by itself has no session, no bits and no flow: one try from an empty tally is all of the job, and
-- the flows stay as they are.
use Rattle.std.proofs.Common.{None, refl}
use Rattle.flow_lanes.specs.Given.{inspection_of}
use Rattle.flow_lanes.specs.Tried.{so_far}
use Rattle.flow_lanes.proofs.Jobs.IsDone.{do-alone}
use Rattle.flow_lanes.proofs.Sessions.DetectsOn.{alone}
use Rattle.flow_lanes.proofs.working.do_alone.Goals as goal

pub returns : goal.returns
returns g c = λ making.
    let by = inspection_of g.P.Pattern.finds c.args.inspector.now in
    do-alone by making c.args.moment c.args.head.now c.args.payload.now c.args.flows.now.entries (so_far c.try_item.new.tally)
    (alone by (so_far c.new-tally.result) c.new-tally.ensures.hits c.new-tally.ensures.items c.new-tally.ensures.tries
    c.new-tally.ensures.visits c.args.head.now c.args.payload.now None c.try_item.new.bits
    (so_far c.try_item.new.tally) refl c.in_ok-try_item.ensures)
