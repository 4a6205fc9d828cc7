-- The bytes that occur before the place were added.
use Rattle.std.proofs.Common.{◌+◌, ◌-◌, ◌≤◌, length}
use Rattle.option_eval.specs.Sets.{IsRising, Adds, IsHitIn}
use Rattle.option_eval.proofs.sweep.gather.Given as goal

abbrev pub invariant-loop-start : goal.invariant-loop-start
invariant-loop-start l = record {
  low : l.low ≤ l.at;
  high : l.at ≤ l.end;
  added : Adds l.every (IsHitIn l.needle.nocase l.payload l.needle.bytes.now l.low l.at) l.fn.places.items l.next.items;
  rising : IsRising 0 l.next.items (l.at + length l.needle.bytes.now);
}

abbrev pub decreases-loop-start : goal.decreases-loop-start
decreases-loop-start l = l.end - l.at
