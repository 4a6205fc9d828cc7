-- Data and acknowledgement change different sides, so that with the data first the session is the same (`data_first`), and
-- each side comes further once (`grow-both`).
use Rattle.std.proofs.Common.{◌+◌, ◌-◌, ◌^◌, ap, ◌∙◌}
use Rattle.flow_lanes.specs.Given.{packet_of}
use Rattle.flow_lanes.specs.Sessions.{after_ack, is_from_client, sizes_of}
use Rattle.flow_lanes.proofs.Sessions.ItemsOn.{data_first, streams-are}
use Rattle.flow_lanes.proofs.Sessions.Reaches.{grow-both}
use Rattle.flow_lanes.proofs.session.FlowSession.accept_packet.Goals as goal

pub returns-in_err-accept_ack-clause-grows : goal.returns-in_err-accept_ack-clause-grows
returns-in_err-accept_ack-clause-grows c =
    grow-both (is_from_client c.args.step.now) c.args.self.now c.accept_data.new.self c.accept_ack.new.self
    c.accept_data.ensures.grows c.accept_ack.ensures.grows

pub end_if-requires : goal.end_if-requires
end_if-requires c =
    grow-both (is_from_client c.args.step.now) c.args.self.now c.accept_data.new.self c.accept_ack.new.self
    c.accept_data.ensures.grows c.accept_ack.ensures.grows (2 ^ 63 - 2 ^ 31) c.requires.within

pub returns-in_err-end_if-clause-grows : goal.returns-in_err-end_if-clause-grows
returns-in_err-end_if-clause-grows c = λ places h.
    c.end_if.ensures.within (places + 2 ^ 31) (places + 2 ^ 31)
    (grow-both (is_from_client c.args.step.now) c.args.self.now c.accept_data.new.self c.accept_ack.new.self c.accept_data.ensures.grows c.accept_ack.ensures.grows places h)

pub returns-clause-grows : goal.returns-clause-grows
returns-clause-grows c = λ places h.
    c.end_if.ensures.within (places + 2 ^ 31) (places + 2 ^ 31)
    (grow-both (is_from_client c.args.step.now) c.args.self.now c.accept_data.new.self c.accept_ack.new.self c.accept_data.ensures.grows c.accept_ack.ensures.grows places h)

pub returns-clause-items : goal.returns-clause-items
returns-clause-items c =
    streams-are (packet_of c.args.p.now) c.args.step.now c.args.left c.args.self.now c.accept_data.new.self c.accept_ack.new.self c.sizes-sizes.result
    c.args.out.now.items c.push_maybe.new.out.items c.accept_ack.new.out.items c.end_if.new.out.items
    c.in_ok-queued.ensures.state c.sizes-sizes.ensures c.in_ok-push_maybe.ensures c.in_ok-accept_ack.ensures.items c.in_ok-accept_ack.ensures.state c.in_ok-end_if.ensures.items

pub returns-clause-state : goal.returns-clause-state
returns-clause-state c = λ on.
    c.in_ok-end_if.ensures.state on
    ∙ c.in_ok-accept_ack.ensures.state
    ∙ ap (after_ack (packet_of c.args.p.now) c.args.step.now) c.in_ok-queued.ensures.state
    ∙ data_first (packet_of c.args.p.now) c.args.step.now c.args.self.now

pub returns-clause-sizes : goal.returns-clause-sizes
returns-clause-sizes c =
    c.in_ok-end_if.ensures.sizes
    ∙ ap sizes_of
    (c.in_ok-accept_ack.ensures.state ∙ ap (after_ack (packet_of c.args.p.now) c.args.step.now) c.in_ok-queued.ensures.state ∙
    data_first (packet_of c.args.p.now) c.args.step.now c.args.self.now)
