-- Nothing is left before a packet that stays, and it neither begins nor ends a session: so what it flushes and its own item
-- are the items of `items_on` (`staying-items`).
use Rattle.std.proofs.Common.{◌+◌, ◌^◌, ◌++◌, subst, List}
use Rattle.rule_eval.specs.declared.item.Item.{Item}
use Rattle.flow_lanes.specs.Detecting.{Settles, bits_now}
use Rattle.flow_lanes.specs.Flows.{session_at_hand}
use Rattle.flow_lanes.specs.Given.{inspection_of, making_of, packet_of}
use Rattle.flow_lanes.specs.Items.{session_after}
use Rattle.flow_lanes.specs.Tried.{Tallies, of_session, so_far}
use Rattle.flow_lanes.specs.Working.{own_item}
use Rattle.flow_lanes.proofs.Sessions.StaysAt.{staying-gain, staying-items, staying-on}
use Rattle.flow_lanes.proofs.packet.packet_stays.Goals as goal

pub returns-in_err-try_and_settle-clause-grows : goal.returns-in_err-try_and_settle-clause-grows
returns-in_err-try_and_settle-clause-grows g c = λ tcp places h. c.try_and_settle.ensures.keeps tcp (places + 2 ^ 31) (c.accept_packet.ensures.grows tcp places h)

pub returns-clause-grows : goal.returns-clause-grows
returns-clause-grows g c = λ tcp places h. c.try_and_settle.ensures.keeps tcp (places + 2 ^ 31) (c.accept_packet.ensures.grows tcp places h)

pub returns-clause-tallies : goal.returns-clause-tallies
returns-clause-tallies g c = λ before stays.
    let by = inspection_of g.P.Pattern.finds c.args.inspector.now in
    let p = packet_of c.args.p.now in
    let making = making_of c.args.settings.now in
    let step = c.args.step.now in
    let found = c.args.found.now in
    let own = c.own_facts-own.result in
    let are = staying-items making p before found step stays c.none.result c.in_ok-queued.queued own c.new-items.result.items c.accept_packet.new.out.items
    c.none.ensures c.new-items.ensures.items c.in_ok-queued.ensures.items c.in_ok-queued.ensures.queued
    (c.own_facts-own.ensures (session_after p step (session_at_hand found)) c.in_ok-queued.ensures.sizes) in
    staying-gain making p before found step stays (c.accept_packet.new.out.items ++ own_item p own) c.accept_packet.new.found are c.accept_packet.ensures.bits by (so_far c.args.tally.now)
    (so_far c.try_and_settle.new.tally)
    (subst (λ (xs : List Item). Tallies by (of_session (bits_now step.tracked c.accept_packet.new.found) (xs ++ own_item p own)) (so_far c.args.tally.now) (so_far c.try_and_settle.new.tally))
    c.deref.ensures.value c.in_ok-try_and_settle.ensures.tallies)

pub returns-clause-goes : goal.returns-clause-goes
returns-clause-goes g c = λ before stays means trying tried.
    let p = packet_of c.args.p.now in
    let making = making_of c.args.settings.now in
    let step = c.args.step.now in
    let found = c.args.found.now in
    let own = c.own_facts-own.result in
    let are = staying-items making p before found step stays c.none.result c.in_ok-queued.queued own c.new-items.result.items c.accept_packet.new.out.items
    c.none.ensures c.new-items.ensures.items c.in_ok-queued.ensures.items c.in_ok-queued.ensures.queued
    (c.own_facts-own.ensures (session_after p step (session_at_hand found)) c.in_ok-queued.ensures.sizes) in
    staying-on making p before found step stays (c.accept_packet.new.out.items ++ own_item p own) c.accept_packet.new.found are c.accept_packet.ensures.bits trying c.try_and_settle.new.found
    c.in_ok-queued.ensures.state
    (subst (λ (xs : List Item). Settles trying (xs ++ own_item p own) step c.accept_packet.new.found c.try_and_settle.new.found)
    c.deref.ensures.value (c.in_ok-try_and_settle.ensures.settles means trying tried))
