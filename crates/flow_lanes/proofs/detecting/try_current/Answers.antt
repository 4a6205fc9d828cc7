-- The streams are tried first, and then the packet's own item with the bits that they left: both lists are tried
-- as one, by `tries-append`.
use Rattle.flow_lanes.specs.Given.{inspection_of, packet_of}
use Rattle.flow_lanes.specs.Tried.{so_far}
use Rattle.flow_lanes.specs.Working.{own_item}
use Rattle.flow_lanes.proofs.ItemHits.Tried.{tries-append}
use Rattle.flow_lanes.proofs.detecting.try_current.Goals as goal

pub returns : goal.returns
returns g c =
    tries-append (inspection_of g.P.Pattern.finds c.args.inspector.now) c.args.streams.now (own_item (packet_of c.args.p.now) c.args.own.now) c.args.bits.now c.try_items.new.bits c.try_own.new.bits
    (so_far c.args.tally.now) (so_far c.try_items.new.tally) (so_far c.try_own.new.tally) c.in_ok-try_items.ensures c.in_ok-try_own.ensures
