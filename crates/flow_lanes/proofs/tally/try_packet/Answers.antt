-- No rule matches a packet without a candidate, whatever the facts of its session: so where matches alone are told, counting
-- it is all that is to be done (`tries-nothing`).
use Rattle.std.proofs.Common.{◌≡◌, [], eqb-true, sym, ◌∙◌, add-zero, arith}
use Rattle.std.proofs.lemmas.Result.{on_ok_weaker}
use Rattle.fast_pattern.specs.Candidates.{candidates}
use Rattle.flow_lanes.specs.Given.{inspection_of, packet_of}
use Rattle.flow_lanes.specs.Tried.{so_far}
use Rattle.flow_lanes.specs.Working.{item_with}
use Rattle.flow_lanes.proofs.ItemHits.Tried.{no_element, tries-nothing}
use Rattle.flow_lanes.proofs.tally.try_packet.Goals as goal

pub returns-then-not-inspector : goal.returns-then-not-inspector
returns-then-not-inspector g c =
    let p = packet_of c.args.p.now in
    let size = eqb-true _ _ (sym c.is_empty.ensures ∙ c.if-is_empty.true) in
    let none : candidates c.args.inspector.now.set.now.rules p.head.body p.payload ≡ [] =
    sym c.in_ok-places.ensures ∙ no_element c.in_ok-places.places.items (omega (arith, size, c.in_ok-places.places.ok.0)) in
    on_ok_weaker c.count.result
    (λ counts. tries-nothing (inspection_of g.P.Pattern.finds c.args.inspector.now) (item_with p c.args.facts) c.args.bits.now (so_far c.args.tally.now) (so_far c.count.new.self)
    c.if-not-inspector.true none c.count.ensures.hits counts.0 (counts.1 ∙ add-zero c.args.tally.now.tries) c.count.ensures.visits)
    c.count.ensures.counts
