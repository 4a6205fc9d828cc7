-- A flow's first packet keeps the invariant as any other does: at most 2^32 packets of a flow move its session on by at most
-- 2^31 places each, so the session is found within reach.
use Rattle.std.proofs.Common.{Some, length, subst, sym}
use Rattle.flow_lanes.specs.Detecting.{Leaves, gain_of}
use Rattle.flow_lanes.specs.Flows.{session_at_hand}
use Rattle.flow_lanes.specs.Given.{inspection_of, making_of, packet_of}
use Rattle.flow_lanes.specs.Sound.{IsSoundPacket}
use Rattle.flow_lanes.specs.LanesAfter.{KeptFlow}
use Rattle.flow_lanes.specs.Tried.{Tallied, so_far}
use Rattle.flow_lanes.proofs.ItemHits.Tried.{tallied-new}
use Rattle.flow_lanes.proofs.Sessions.IsKeptBy.{found-sound, kept-more}
use Rattle.flow_lanes.proofs.keeping.Flow.begin.Goals as goal

pub packet_on-requires-clause-found : goal.packet_on-requires-clause-found
packet_on-requires-clause-found g c κs found =
    let p = packet_of c.args.p.now in
    let sound = subst (λ (k : KeptFlow). IsSoundPacket (length c.args.settings.now.stream.now.engines) (Some k.facts) p) (sym c.self.view_is) c.requires.sound in
    found-sound p c.self.inside.facts (session_at_hand c.self.inside.found) c.self.invariant sound.same_ends sound.few

pub invariant_of-self : goal.invariant_of-self
invariant_of-self g c =
    let p = packet_of c.args.p.now in
    let sound = subst (λ (k : KeptFlow). IsSoundPacket (length c.args.settings.now.stream.now.engines) (Some k.facts) p) (sym c.self.view_is) c.requires.sound in
    kept-more p c.self.inside.facts (session_at_hand c.self.inside.found) (session_at_hand c.packet_on.new.found) c.self.invariant sound.same_ends sound.few c.packet_on.ensures.grows

pub invariant_of-self-2 : goal.invariant_of-self-2
invariant_of-self-2 g c =
    let p = packet_of c.args.p.now in
    let sound = subst (λ (k : KeptFlow). IsSoundPacket (length c.args.settings.now.stream.now.engines) (Some k.facts) p) (sym c.self.view_is) c.requires.sound in
    kept-more p c.self.inside.facts (session_at_hand c.self.inside.found) (session_at_hand c.packet_on.new.found) c.self.invariant sound.same_ends sound.few c.packet_on.ensures.grows

pub returns-clause-tallied : goal.returns-clause-tallied
returns-clause-tallied g c =
    let by = inspection_of g.P.Pattern.finds c.args.inspector.now in
    let making = making_of c.args.settings.now in
    let p = packet_of c.args.p.now in
    subst (λ (k : KeptFlow). Tallied by (gain_of making p k.found) (so_far c.packet_on.new.tally)) c.self.view_is
    (tallied-new by (gain_of making p c.self.inside.found) (so_far c.new-tally.result) (so_far c.packet_on.new.tally) c.new-tally.ensures.hits c.new-tally.ensures.items
    c.new-tally.ensures.tries c.new-tally.ensures.visits c.in_ok-packet_on.ensures.tallies)

pub returns-clause-leaves : goal.returns-clause-leaves
returns-clause-leaves g c = λ means trying tried.
    subst (λ (k : KeptFlow). Leaves trying (making_of c.args.settings.now) (packet_of c.args.p.now) k.found c.packet_on.new.found) c.self.view_is
    (c.in_ok-packet_on.ensures.leaves means trying tried)
