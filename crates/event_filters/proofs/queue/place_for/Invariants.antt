-- The event comes before none of those so far.
use Rattle.std.proofs.Common.{◌≡◌, ℕ, ◌<◌, false, get_or}
use Rattle.event_filters.specs.Queue.{comes_before}
use Rattle.event_filters.proofs.queue.place_for.Given as goal

abbrev pub invariant-loop-place : goal.invariant-loop-place
invariant-loop-place l = (k : ℕ) → k < l.place → comes_before l.order.by_priority l.order.rules.now l.order.sizes.now l.event (get_or l.queue k 0) ≡ false
