-- The queue is that of the rules so far, and `add` is one rule more of it.
use Rattle.std.proofs.Common.{ℕ, List, get_or, arith, sym, ap, ◌∙◌}
use Rattle.event_filters.specs.Queue.{comes_before, with_event}
use Rattle.event_filters.proofs.Queues.{filled-more}
use Rattle.event_filters.proofs.queue.fill.Goals as goal

pub loop-place-preserved : goal.loop-place-preserved
loop-place-preserved c =
    let o = c.args.order in
    let places = c.args.places.now in
    let i = c.loop-place.place-index in
    let before = comes_before o.by_priority o.rules.now o.sizes.now in record {
      filled = c.add.ensures.added ∙ ap (λ (q : List ℕ). with_event before c.args.most o.rules.now q (get_or places i 0)) c.loop-place.invariant.filled
          ∙ sym (filled-more before c.args.most o.rules.now places i 0 c.loop-place-test.true);
      few = omega (arith, c.add.ensures.few, c.loop-place.invariant.few);
      room = omega (arith, c.add.ensures.room, c.loop-place.invariant.room);
    }
