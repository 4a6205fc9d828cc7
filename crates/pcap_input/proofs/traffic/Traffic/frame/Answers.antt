-- The draw below four decides as in the definition: a datagram on 0, a segment on any other.
use Rattle.pcap_input.proofs.Made.Making.{made-datagram, made-segment}
use Rattle.pcap_input.proofs.traffic.Traffic.frame.Goals as goal

pub returns-in_ok-frame-clause-made : goal.returns-in_ok-frame-clause-made
returns-in_ok-frame-clause-made c =
    made-datagram c.args.self.now _ c.below.result c.below.new.self.state _ c.below.ensures.drawn c.below.ensures.stepped c.if-below-eq0.true c.in_ok-frame.ensures.made

pub returns-in_ok-frame-2-clause-made : goal.returns-in_ok-frame-2-clause-made
returns-in_ok-frame-2-clause-made c =
    made-segment c.args.self.now _ c.below.result c.below.new.self.state _ c.below.ensures.drawn c.below.ensures.stepped c.if-below-eq0.false c.in_ok-frame-2.ensures.made
