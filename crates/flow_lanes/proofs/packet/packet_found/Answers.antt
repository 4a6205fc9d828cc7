-- Either the packet leaves its session as it is, and its items, taken in place, are the definition's (`StaysAt`); or nothing
-- has changed yet, and `packet_on` does it all.
use Rattle.std.proofs.Common.{◌-◌, ◌^◌, Option, OnOk, subst}
use Rattle.std.proofs.lemmas.Result.{on_ok_weaker}
use Rattle.flow_lanes.specs.Detecting.{Leaves, gain_of}
use Rattle.flow_lanes.specs.Flows.{FlowState}
use Rattle.flow_lanes.specs.Given.{inspection_of, making_of, packet_of}
use Rattle.flow_lanes.specs.Sessions.{is_tcp}
use Rattle.flow_lanes.specs.Tried.{ByTest, Tallies, so_far}
use Rattle.flow_lanes.proofs.Sessions.StaysAt.{stayed-gain, stayed-on}
use Rattle.flow_lanes.proofs.packet.packet_found.Goals as goal

pub packet_stays-requires-clause-within : goal.packet_stays-requires-clause-within
packet_stays-requires-clause-within g c κs within = (c.stay.ensures.keeps (is_tcp c.args.p.now.head.now.body) (2 ^ 63 - 2 ^ 31) c.requires.found).within

pub packet_on-requires-clause-found : goal.packet_on-requires-clause-found
packet_on-requires-clause-found g c κs found = c.stay.ensures.keeps (is_tcp c.args.p.now.head.now.body) (2 ^ 63 - 2 ^ 31) c.requires.found

pub returns-then-stay-clause-grows : goal.returns-then-stay-clause-grows
returns-then-stay-clause-grows g c = λ places h.
    let tcp = is_tcp c.args.p.now.head.now.body in
    c.packet_stays.ensures.grows tcp places (c.stay.ensures.keeps tcp places h)

pub returns-then-stay-clause-tallies : goal.returns-then-stay-clause-tallies
returns-then-stay-clause-tallies g c =
    let by = inspection_of g.P.Pattern.finds c.args.inspector.now in
    let before = c.args.found.now in
    let stays = c.stay.ensures.stays c.if-stay.true in
    on_ok_weaker c.packet_stays.result
    (stayed-gain (making_of c.args.settings.now) (packet_of c.args.p.now) before c.stay.new.found c.stay.new.step stays by (so_far c.args.tally.now) (so_far c.packet_stays.new.tally))
    (c.packet_stays.ensures.tallies before stays)

pub returns-then-stay-clause-leaves : goal.returns-then-stay-clause-leaves
returns-then-stay-clause-leaves g c =
    let before = c.args.found.now in
    let stays = c.stay.ensures.stays c.if-stay.true in
    on_ok_weaker c.packet_stays.result
    (λ goes means trying tried. stayed-on (making_of c.args.settings.now) (packet_of c.args.p.now) before c.stay.new.found c.stay.new.step stays trying c.packet_stays.new.found
    (goes means trying tried))
    (c.packet_stays.ensures.goes before stays)

pub returns-else-stay-clause-grows : goal.returns-else-stay-clause-grows
returns-else-stay-clause-grows g c = λ places h. c.packet_on.ensures.grows places (c.stay.ensures.keeps (is_tcp c.args.p.now.head.now.body) places h)

pub returns-else-stay-clause-tallies : goal.returns-else-stay-clause-tallies
returns-else-stay-clause-tallies g c =
    let by = inspection_of g.P.Pattern.finds c.args.inspector.now in
    subst (λ (f : Option FlowState). OnOk c.packet_on.result (Tallies by (gain_of (making_of c.args.settings.now) (packet_of c.args.p.now) f) (so_far c.args.tally.now) (so_far c.packet_on.new.tally)))
    (c.stay.ensures.still c.if-stay.false) c.packet_on.ensures.tallies

pub returns-else-stay-clause-leaves : goal.returns-else-stay-clause-leaves
returns-else-stay-clause-leaves g c =
    let by = inspection_of g.P.Pattern.finds c.args.inspector.now in
    subst (λ (f : Option FlowState). OnOk c.packet_on.result (ByTest by (λ trying. Leaves trying (making_of c.args.settings.now) (packet_of c.args.p.now) f c.packet_on.new.found)))
    (c.stay.ensures.still c.if-stay.false) c.packet_on.ensures.leaves
