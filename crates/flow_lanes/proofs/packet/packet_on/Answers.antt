-- A packet before which a session ended begins its own, if it has one (`fresh`): so the items of the ended session and then
-- the packet's are the definition's, each with its own session's bits.
use Rattle.std.proofs.Common.{◌≡◌, true, ap, subst, sym, ◌∙◌}
use Rattle.stream5_sessions.specs.declared.state.State.{State}
use Rattle.stream5_sessions.specs.declared.step.Step.{Step}
use Rattle.flow_lanes.specs.Flows.{session_at_hand}
use Rattle.flow_lanes.specs.Given.{inspection_of, making_of, packet_of}
use Rattle.flow_lanes.specs.Sessions.{is_tcp}
use Rattle.flow_lanes.specs.Tried.{so_far}
use Rattle.flow_lanes.proofs.Sessions.DetectsOn.{told-gain, told-on}
use Rattle.flow_lanes.proofs.Sessions.IsKeptBy.{IsFound-more}
use Rattle.flow_lanes.proofs.Sessions.StepOf.{fresh}
use Rattle.flow_lanes.proofs.Sessions.ItemsOn.{state_found-tcp, state_of-tcp}
use Rattle.flow_lanes.proofs.packet.packet_on.Goals as goal

pub returns-in_err-end_before-clause-grows : goal.returns-in_err-end_before-clause-grows
returns-in_err-end_before-clause-grows g c = λ places h.
    IsFound-more (is_tcp c.args.p.now.head.now.body) places (session_at_hand c.end_before.new.found)
    (c.end_before.ensures.keeps (is_tcp c.args.p.now.head.now.body) places h)

pub returns-in_err-go_on-clause-grows : goal.returns-in_err-go_on-clause-grows
returns-in_err-go_on-clause-grows g c = λ places h.
    let p = packet_of c.args.p.now in
    let found = session_at_hand c.args.found.now in
    let tcp = is_tcp c.args.p.now.head.now.body in
    c.go_on.ensures.grows tcp places
    (ap (λ (s : State). s.tcp) c.take_step.ensures.state ∙ state_of-tcp (making_of c.args.settings.now) p found ∙
    state_found-tcp p found c.requires.found.same)
    (c.end_before.ensures.keeps tcp places h)

pub returns-clause-grows : goal.returns-clause-grows
returns-clause-grows g c = λ places h.
    let p = packet_of c.args.p.now in
    let found = session_at_hand c.args.found.now in
    let tcp = is_tcp c.args.p.now.head.now.body in
    c.go_on.ensures.grows tcp places
    (ap (λ (s : State). s.tcp) c.take_step.ensures.state ∙ state_of-tcp (making_of c.args.settings.now) p found ∙
    state_found-tcp p found c.requires.found.same)
    (c.end_before.ensures.keeps tcp places h)

pub returns-clause-tallies : goal.returns-clause-tallies
returns-clause-tallies g c =
    let p = packet_of c.args.p.now in
    let making = making_of c.args.settings.now in
    let step = c.take_step.new.step in
    let anew : step.ended_before ≡ true → step.begun ≡ step.tracked =
    subst (λ (s : Step). s.ended_before ≡ true → s.begun ≡ s.tracked) (sym c.take_step.ensures.step) (fresh making p (session_at_hand c.args.found.now)) in
    told-gain making p c.args.found.now c.end_before.new.found step c.take_step.new.state c.take_step.ensures.step c.take_step.ensures.state anew
    c.in_ok-end_before.ensures.found
    (inspection_of g.P.Pattern.finds c.args.inspector.now) (so_far c.args.tally.now) (so_far c.end_before.new.tally) (so_far c.go_on.new.tally) c.in_ok-end_before.ensures.tallies
    c.in_ok-go_on.ensures.tallies

pub returns-clause-leaves : goal.returns-clause-leaves
returns-clause-leaves g c = λ means trying tried.
    let p = packet_of c.args.p.now in
    let making = making_of c.args.settings.now in
    let step = c.take_step.new.step in
    let anew : step.ended_before ≡ true → step.begun ≡ step.tracked =
    subst (λ (s : Step). s.ended_before ≡ true → s.begun ≡ s.tracked) (sym c.take_step.ensures.step) (fresh making p (session_at_hand c.args.found.now)) in
    told-on making p c.args.found.now c.end_before.new.found step c.take_step.new.state c.take_step.ensures.step c.take_step.ensures.state anew
    c.in_ok-end_before.ensures.found
    trying c.go_on.new.found (c.in_ok-go_on.ensures.goes means trying tried)
