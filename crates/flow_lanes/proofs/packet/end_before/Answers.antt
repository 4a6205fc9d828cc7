-- Where no session ended before the packet there is no item to try, and a tally that stays as it is has tried an empty list.
use Rattle.std.proofs.Common.{Bool, subst, sym}
use Rattle.flow_lanes.specs.Flows.{bits_at_hand, session_at_hand}
use Rattle.flow_lanes.specs.Given.{inspection_of}
use Rattle.flow_lanes.specs.Tried.{Tallies, of_session, so_far}
use Rattle.flow_lanes.specs.Working.{ended_items}
use Rattle.flow_lanes.proofs.ItemHits.Tried.{tallies-none}
use Rattle.flow_lanes.proofs.packet.end_before.Goals as goal

pub returns-then-not-ended-clause-tallies : goal.returns-then-not-ended-clause-tallies
returns-then-not-ended-clause-tallies g c =
    subst (λ (b : Bool). Tallies (inspection_of g.P.Pattern.finds c.args.inspector.now) (of_session (bits_at_hand c.args.found.now) (ended_items c.args.moment b (session_at_hand c.args.found.now)))
    (so_far c.args.tally.now) (so_far c.args.tally.now)) (sym c.if-not-ended.true)
    (tallies-none (inspection_of g.P.Pattern.finds c.args.inspector.now) (bits_at_hand c.args.found.now) (so_far c.args.tally.now))
