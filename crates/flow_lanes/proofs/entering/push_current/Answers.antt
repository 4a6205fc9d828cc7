-- What was left, the packet's streams and its own item are, in this order, the items of the definition (`items-on`); of the
-- steps `accept_packet` alone lets the session reach further.
use Rattle.std.proofs.Common.{subst, Bool}
use Rattle.flow_lanes.specs.Flows.{session_at_hand}
use Rattle.flow_lanes.specs.Given.{making_of, packet_of}
use Rattle.flow_lanes.specs.Items.{session_after}
use Rattle.flow_lanes.specs.Kept.{IsOf}
use Rattle.flow_lanes.proofs.Sessions.IsKeptBy.{IsFound-more}
use Rattle.flow_lanes.proofs.Sessions.ItemsOn.{items-on}
use Rattle.flow_lanes.proofs.entering.push_current.Goals as goal

pub returns-in_err-left-clause-grows : goal.returns-in_err-left-clause-grows
returns-in_err-left-clause-grows c = λ tcp places is h. IsFound-more tcp places (session_at_hand c.take_left_stretches.new.found) (c.take_left_stretches.ensures.keeps tcp places h)

pub returns-in_err-queued-clause-grows : goal.returns-in_err-queued-clause-grows
returns-in_err-queued-clause-grows c = λ tcp places is h.
    c.accept_packet.ensures.grows tcp places
    (record {
      same = subst (λ (b : Bool). IsOf b (session_at_hand c.enter.new.found)) is c.enter.ensures.same;
      within = c.enter.ensures.within places (c.take_left_stretches.ensures.keeps tcp places h).within;
    })

pub returns-clause-grows : goal.returns-clause-grows
returns-clause-grows c = λ tcp places is h.
    c.accept_packet.ensures.grows tcp places
    (record {
      same = subst (λ (b : Bool). IsOf b (session_at_hand c.enter.new.found)) is c.enter.ensures.same;
      within = c.enter.ensures.within places (c.take_left_stretches.ensures.keeps tcp places h).within;
    })

pub returns-clause-items : goal.returns-clause-items
returns-clause-items c =
    let p = packet_of c.args.p.now in
    let found = session_at_hand c.args.found.now in
    let session = session_at_hand c.enter.new.found in
    items-on (making_of c.args.settings.now) p c.args.step.now c.args.state.now found session c.in_ok-left.left
    c.in_ok-queued.queued c.own_facts.result c.args.out.now.items c.accept_packet.new.out.items
    c.in_ok-left.ensures.left (c.enter.ensures.session found c.in_ok-left.ensures.session)
    c.in_ok-queued.ensures.items c.in_ok-queued.ensures.queued
    (c.own_facts.ensures (session_after p c.args.step.now session) c.in_ok-queued.ensures.sizes)
