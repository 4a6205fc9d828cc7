-- Triable rules change known bits alone, so that `matching_among` may be asked; what it finds among the candidates are all
-- rules that match, and the item is tried with these (`tries-one`).
use Rattle.std.proofs.Common.{◌∷◌, [], ◌++◌, length, ap, ◌∙◌, List, arith}
use Rattle.rule_eval.specs.Work.{visits_among}
use Rattle.rule_eval.proofs.ChangesKnownBits.{known_where_triable}
use Rattle.flow_lanes.specs.declared.answer.Hits.{Hits}
use Rattle.flow_lanes.specs.Given.{inspection_of}
use Rattle.flow_lanes.specs.ItemHits.{told}
use Rattle.flow_lanes.specs.Tried.{so_far}
use Rattle.flow_lanes.proofs.ItemHits.Tried.{tries-one}
use Rattle.flow_lanes.proofs.tally.try_candidates.Goals as goal

pub matching_among-requires-clause-known : goal.matching_among-requires-clause-known
matching_among-requires-clause-known g c κs known = known_where_triable c.args.inspector.now.set.now.rules c.args.inspector.now.triable

pub returns : goal.returns
returns g c =
    let item : Hits = record { head = c.args.head.now; rules = c.in_ok-rules.rules } in
    let same = ap length c.count.ensures.hits in
    let more = c.in_ok-tell.ensures.more in
    tries-one (inspection_of g.P.Pattern.finds c.args.inspector.now) (record { head = c.args.head.now; payload = c.args.payload.now }) c.args.bits.now c.matching_among.new.bits c.in_ok-rules.rules
    (so_far c.args.tally.now) (so_far c.tell.new.self) c.in_ok-rules.ensures.hits c.in_ok-rules.ensures.bits
    (c.in_ok-tell.ensures.hits ∙ ap (λ (hits : List Hits). hits ++ told c.args.inspector.now.all (item ∷ [])) c.count.ensures.hits)
    (omega (arith, same, more))
    (c.tell.ensures.items ∙ c.in_ok-count.ensures.counts.0)
    (let size = ap length c.requires in omega (arith, size, c.tell.ensures.tries, c.in_ok-count.ensures.counts.1))
    (λ means made.
    let few = c.matching_among.ensures.visits means made in
    let is = ap (visits_among c.args.inspector.now.set.now.rules (length c.args.payload.now)) c.requires in
    omega (arith, few, is, c.count.ensures.visits, c.tell.ensures.visits))
