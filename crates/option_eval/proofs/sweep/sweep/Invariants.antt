-- The places before the rest were asked, and the window from `from` on and below `done` is still to be searched.
use Rattle.std.proofs.Common.{◌+◌, ◌≤◌, length}
use Rattle.option_eval.specs.Sets.{IsRising}
use Rattle.option_eval.proofs.Sets.Sweeping.{Swept}
use Rattle.option_eval.proofs.sweep.sweep.Given as goal

abbrev pub invariant-loop-rest : goal.invariant-loop-rest
invariant-loop-rest g l = record {
  swept : Swept l.every l.needle.nocase l.payload l.needle.bytes.now l.reach l.places l.rest l.from l.done l.next.items;
  rest_rising : IsRising 0 l.rest (length l.payload + 1);
  rising : IsRising 0 l.next.items (l.from + length l.needle.bytes.now);
  within : l.done ≤ l.bound;
  counted : l.visits ≤ l.fn.visits + l.done;
}

abbrev pub decreases-loop-rest : goal.decreases-loop-rest
decreases-loop-rest g l = length l.rest
