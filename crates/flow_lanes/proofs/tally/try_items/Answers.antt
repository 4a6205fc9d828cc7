-- One item more adds its hits, itself and its candidates to what the items before it gave, with the bits that they left
-- (`tries-more`); in the end all items are tried.
use Rattle.std.proofs.Common.{◌<◌, length, arith, subst, List}
use Rattle.std.proofs.lemmas.List.{take_all}
use Rattle.rule_eval.specs.declared.item.Item.{Item}
use Rattle.flow_lanes.specs.Given.{inspection_of}
use Rattle.flow_lanes.specs.Tried.{Tries, so_far}
use Rattle.flow_lanes.proofs.ItemHits.Tried.{tries-more, tries-none}
use Rattle.flow_lanes.proofs.tally.try_items.Goals as goal

pub loop-item-init : goal.loop-item-init
loop-item-init g c = tries-none (inspection_of g.P.Pattern.finds c.args.inspector.now) c.args.bits.now (so_far c.args.tally.now)

pub loop-item-preserved : goal.loop-item-preserved
loop-item-preserved g c =
    let below : c.loop-item.item-index < length c.args.items.now = omega arith in
    tries-more (inspection_of g.P.Pattern.finds c.args.inspector.now) c.args.items.now c.loop-item.item-index c.item-item.result c.bytes.result.now c.args.bits.now c.loop-item.bits c.try_item.new.bits
    (so_far c.args.tally.now) (so_far c.loop-item.tally) (so_far c.try_item.new.tally) below c.item-item.is c.bytes.ensures c.loop-item.invariant c.in_ok-try_item.ensures

pub returns : goal.returns
returns g c =
    subst (λ (xs : List Item). Tries (inspection_of g.P.Pattern.finds c.args.inspector.now) xs c.args.bits.now c.loop-item.bits (so_far c.args.tally.now) (so_far c.loop-item.tally))
    (take_all c.loop-item.item-index c.args.items.now (omega arith)) c.loop-item.invariant
