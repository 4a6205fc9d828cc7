-- The session that sends is drawn, then its payload: that session
-- alone moves on by a turn, and its frame is the definition's.
use Rattle.std.proofs.Common.{◌∙◌, ap}
use Rattle.pcap_input.specs.declared.traffic.TrafficSession.{TrafficSession}
use Rattle.pcap_input.specs.declared.traffic.Traffic.{Traffic}
use Rattle.pcap_input.specs.Frames.{tcp_frame}
use Rattle.pcap_input.proofs.Made.Making.{segment-made}
use Rattle.pcap_input.proofs.traffic.Traffic.segment.Goals as goal

pub returns-clause-made : goal.returns-clause-made
returns-clause-made c =
    segment-made c.args.self.now c.below-number.result c.below-number.new.self.state c.payload.new.self.draws.state
    c.session-session.result c.after.result c.payload.new.self.sessions c.segment.result c.in_ok-payload.payload.items c.in_ok-frame.frame.items
    c.below-number.ensures.drawn
    c.below-number.ensures.stepped
    c.session-session.ensures
    c.in_ok-payload.ensures.drawn
    c.in_ok-payload.ensures.state
    c.in_ok-payload.ensures.sessions
    c.after.ensures
    c.segment.ensures
    (c.in_ok-frame.ensures.made ∙ ap (tcp_frame c.segment.result) c.deref.ensures.value)
