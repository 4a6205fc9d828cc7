-- The events so far were counted.
use Rattle.std.proofs.Common.{◌+◌, ◌≤◌, length, take, vec_len, vec_capacity}
use Rattle.std.specs.HashMap.{spare}
use Rattle.event_filters.specs.Runs.{Keeps, lines_of}
use Rattle.event_filters.proofs.filtering.keep_all.Given as goal

abbrev pub invariant-loop-event : goal.invariant-loop-event
invariant-loop-event l = record {
  keeps : Keeps (lines_of l.lines) l.head
      (record { own = l.fn.own.entries; global = l.fn.global.entries; written = l.fn.out.items })
      (take l.event-index l.events)
      (record { own = l.own.entries; global = l.global.entries; written = l.out.items });
  own : length l.events ≤ spare l.own + l.event-index;
  global : length l.events ≤ spare l.global + l.event-index;
  few : vec_len l.out ≤ vec_len l.fn.out + l.event-index;
  space : vec_len l.fn.out + length l.events ≤ vec_capacity l.out;
}
