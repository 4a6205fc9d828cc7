-- To insert an event at the first place that it comes before is to join the queue in order.
use Rattle.std.proofs.Common.{ℕ, insert, sym, ap, ◌∙◌}
use Rattle.event_filters.specs.Queue.{comes_before}
use Rattle.event_filters.proofs.Queues.{joined-insert}
use Rattle.event_filters.proofs.queue.join.Goals as goal

pub returns-clause-joined : goal.returns-clause-joined
returns-clause-joined c =
    let items = c.args.queue.now.items in
    let o = c.args.order in
    c.in-Ok.ensures.items ∙ ap (λ (i : ℕ). insert items i c.args.event) (rw c.deref.ensures.value at c.place_for-place.ensures.place)
    ∙ sym (joined-insert (comes_before o.by_priority o.rules.now o.sizes.now) items c.args.event)
