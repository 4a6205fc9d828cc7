-- The packet's own item is a list of one item or of none, so that what is said of one or of none (`tries-none`) is enough.
use Rattle.flow_lanes.specs.Given.{inspection_of}
use Rattle.flow_lanes.specs.Tried.{so_far}
use Rattle.flow_lanes.proofs.ItemHits.Tried.{tries-none}
use Rattle.flow_lanes.proofs.tally.try_own.Goals as goal

pub returns-in-None : goal.returns-in-None
returns-in-None g c = rw c.in-None.is (tries-none (inspection_of g.P.Pattern.finds c.args.inspector.now) c.args.bits.now (so_far c.args.tally.now))

pub returns-in-Some : goal.returns-in-Some
returns-in-Some g c = rw c.in-Some.is c.try_packet.ensures
