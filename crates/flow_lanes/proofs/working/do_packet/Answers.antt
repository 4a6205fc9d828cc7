-- The map lends the flow's own entry, which alone changes as `packet` changes it (`do-packet`); where it has none, the
-- packet is the flow's first.
use Rattle.std.proofs.Common.{◌+◌, Option, Some, length, ap, subst, sym, ◌∙◌, rules}
use Rattle.flow_lanes.specs.Given.{inspection_of, making_of, packet_of}
use Rattle.flow_lanes.specs.Kept.{kept_in}
use Rattle.flow_lanes.specs.Sound.{FlowEnds, IsSoundPacket}
use Rattle.flow_lanes.specs.LanesAfter.{KeptFlow, facts_kept}
use Rattle.flow_lanes.specs.Tried.{so_far}
use Rattle.flow_lanes.proofs.Jobs.IsDone.{do-packet}
use Rattle.flow_lanes.proofs.Jobs.KeptIn.{looked_up, sets-from}
use Rattle.flow_lanes.proofs.working.do_packet.Goals as goal

pub packet-requires : goal.packet-requires
packet-requires g c = (
  search rules,
  (
    search rules,
    (
      subst (λ (f : Option KeptFlow). IsSoundPacket (length c.args.settings.now.stream.now.engines) (facts_kept f) (packet_of c.args.p.now))
          (sym (looked_up c.args.flow c.args.flows.now.entries) ∙ sym c.in-Some.ensures.value) c.requires.sound,
      c.requires.none,
    ),
  ),
)

pub first_packet-requires-clause-first : goal.first_packet-requires-clause-first
first_packet-requires-clause-first g c κs first =
    (λ i. kept_in (c.get_mut.follows.holds-at-none i).entries c.args.flow) ∙ sym (looked_up c.args.flow c.args.flows.now.entries) ∙ sym c.in-None.ensures.value

pub returns-in_ok-tally-in-Some : goal.returns-in_ok-tally-in-Some
returns-in_ok-tally-in-Some g c =
    let p = c.args.p.now in
    let old = c.args.flows.now.entries in
    let new = (c.get_mut.follows.lender c.packet.new.self).entries in
    let kept = c.in-Some.kept.now in
    let updates = (c.get_mut.follows.holds c.packet.new.self).3 (search rules) in
    let is = c.in-Some.ensures.value ∙ looked_up c.args.flow old in
    let sound = subst (λ (f : Option KeptFlow). IsSoundPacket (length c.args.settings.now.stream.now.engines) (facts_kept f) (packet_of p)) (sym is) c.requires.sound in
    do-packet (inspection_of g.P.Pattern.finds c.args.inspector.now) (making_of c.args.settings.now) p.moment c.args.flow p.head.now p.payload.now p.to_dst p.to_src old new (Some kept)
    c.packet.new.self (so_far c.in_ok-tally-in-Some.tally)
    is (sets-from c.args.flow (Some c.packet.new.self) old new (λ other. updates.0 other))
    c.in_ok-tally-in-Some.ensures.tallied c.in_ok-tally-in-Some.ensures.leaves
    (c.packet.ensures.facts ∙ ap (λ (e : FlowEnds). record { ends = e; packets = kept.facts.packets + 1 }) sound.same_ends)
