-- The items that `push_current` makes are those of `items_on`, and `try_and_settle` tries just these, with the bits that the
-- session has then: the lemma `goes-on`.
use Rattle.std.proofs.Common.{List, ◌++◌, ◌+◌, ◌^◌, ap, subst, ◌∙◌}
use Rattle.rule_eval.specs.declared.item.Item.{Item}
use Rattle.flow_lanes.specs.Detecting.{Settles, bits_now}
use Rattle.flow_lanes.specs.Flows.{session_at_hand}
use Rattle.flow_lanes.specs.Given.{inspection_of, making_of, packet_of}
use Rattle.flow_lanes.specs.Tried.{Tallies, of_session, so_far}
use Rattle.flow_lanes.specs.Working.{items_on, own_item}
use Rattle.flow_lanes.proofs.Sessions.DetectsOn.{gains-on, goes-on}
use Rattle.flow_lanes.proofs.packet.go_on.Goals as goal

pub returns-in_err-try_and_settle-clause-grows : goal.returns-in_err-try_and_settle-clause-grows
returns-in_err-try_and_settle-clause-grows g c = λ tcp places is h. c.try_and_settle.ensures.keeps tcp (places + 2 ^ 31) (c.push_current.ensures.grows tcp places is h)

pub returns-clause-grows : goal.returns-clause-grows
returns-clause-grows g c = λ tcp places is h. c.try_and_settle.ensures.keeps tcp (places + 2 ^ 31) (c.push_current.ensures.grows tcp places is h)

pub returns-clause-tallies : goal.returns-clause-tallies
returns-clause-tallies g c =
    let by = inspection_of g.P.Pattern.finds c.args.inspector.now in
    let p = packet_of c.args.p.now in
    let making = making_of c.args.settings.now in
    let step = c.args.step.now in
    let old = c.args.found.now in
    let own = own_item p c.in_ok-own.own in
    gains-on making p step c.args.state.now (c.push_current.new.out.items ++ own) old c.push_current.new.found
    (c.in_ok-own.ensures.items ∙ ap (λ (xs : List Item). xs ++ items_on making p step c.args.state.now (session_at_hand old)) c.new-items.ensures.items)
    c.in_ok-own.ensures.bits by (so_far c.args.tally.now) (so_far c.try_and_settle.new.tally)
    (subst (λ (xs : List Item). Tallies by (of_session (bits_now step.tracked c.push_current.new.found) (xs ++ own)) (so_far c.args.tally.now) (so_far c.try_and_settle.new.tally))
    c.deref.ensures.value c.in_ok-try_and_settle.ensures.tallies)

pub returns-clause-goes : goal.returns-clause-goes
returns-clause-goes g c = λ means trying tried.
    let p = packet_of c.args.p.now in
    let making = making_of c.args.settings.now in
    let step = c.args.step.now in
    let old = c.args.found.now in
    let own = own_item p c.in_ok-own.own in
    goes-on making p step c.args.state.now (c.push_current.new.out.items ++ own) old c.push_current.new.found
    (c.in_ok-own.ensures.items ∙ ap (λ (xs : List Item). xs ++ items_on making p step c.args.state.now (session_at_hand old)) c.new-items.ensures.items)
    c.in_ok-own.ensures.bits trying c.try_and_settle.new.found c.in_ok-own.ensures.state
    (subst (λ (xs : List Item). Settles trying (xs ++ own) step c.push_current.new.found c.try_and_settle.new.found) c.deref.ensures.value (c.in_ok-try_and_settle.ensures.settles means trying tried))
