-- The matches so far were counted.
use Rattle.std.proofs.Common.{◌+◌, ◌≤◌, [], length, take, vec_len, vec_capacity}
use Rattle.std.specs.HashMap.{spare}
use Rattle.event_filters.specs.Runs.{Stays}
use Rattle.event_filters.proofs.detection.stay_all.Given as goal

abbrev pub invariant-loop-place : goal.invariant-loop-place
invariant-loop-place l = record {
  stays : Stays l.rules l.head (record { matches = l.fn.windows.entries; written = [] }) (take l.place-index l.places) (record { matches = l.windows.entries; written = l.staying.items });
  room : length l.places ≤ spare l.windows + l.place-index;
  few : vec_len l.staying ≤ l.place-index;
  space : length l.places ≤ vec_capacity l.staying;
}
