-- A session that stays as it is keeps its place and its bits, so that what `Session::stay` says of the session holds of
-- what is kept (`stays-at`).
use Rattle.std.proofs.Common.{Option, Some, refl, subst, sym}
use Rattle.flow_lanes.specs.Flows.{FlowState}
use Rattle.flow_lanes.specs.Given.{making_of, packet_of}
use Rattle.flow_lanes.specs.Staying.{StaysAt}
use Rattle.flow_lanes.proofs.Sessions.StaysAt.{stays-at}
use Rattle.flow_lanes.proofs.entering.stay.Goals as goal

pub returns-in-Some-clause-stays : goal.returns-in-Some-clause-stays
returns-in-Some-clause-stays c = λ is.
    let making = making_of c.args.settings.now in
    let p = packet_of c.args.p.now in
    let after : FlowState = record { session = c.stay.new.self; bits = c.in-Some.kept.bits } in
    subst (λ (found : Option FlowState). StaysAt making p found c.stay.new.step (Some after)) (sym c.in-Some.is)
    (stays-at making p c.in-Some.kept after c.stay.new.step (c.stay.ensures.stays is) refl)
