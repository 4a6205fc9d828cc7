-- The queue of the rules so far.
use Rattle.std.proofs.Common.{◌≡◌, ◌≤◌, take, length, vec_len, vec_capacity}
use Rattle.event_filters.specs.Queue.{comes_before, first_events, ordered}
use Rattle.event_filters.proofs.queue.fill.Given as goal

abbrev pub invariant-loop-place : goal.invariant-loop-place
invariant-loop-place l = record {
  filled : l.queue.items ≡ ordered (comes_before l.order.by_priority l.order.rules.now l.order.sizes.now) (first_events l.most l.order.rules.now (take l.place-index l.places));
  few : vec_len l.queue ≤ l.place-index;
  room : length l.places ≤ vec_capacity l.queue;
}
