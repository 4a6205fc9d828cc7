-- An event's text is its head, its two addresses and its tail, which are appended one after another.
use Rattle.unified2_out.proofs.Writing.{event-appended}
use Rattle.unified2_out.proofs.write.push_event.Goals as goal

pub returns-clause-appended : goal.returns-clause-appended
returns-clause-appended c =
    event-appended c.args.event.now c.args.out.now.items c.event_head.result c.event_tail.result
    c.extend_from_slice.new.self.items c.push_address.new.out.items c.push_address-2.new.out.items
    c.extend_from_slice-2.new.self.items c.event_head.ensures c.event_tail.ensures c.in_ok-extend_from_slice.ensures.items
    c.in_ok-push_address.ensures.appended c.in_ok-push_address-2.ensures.appended c.in_ok-extend_from_slice-2.ensures.items
