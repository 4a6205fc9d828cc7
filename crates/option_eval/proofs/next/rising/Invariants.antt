-- The sorted places before the rest are in the set, each once.
use Rattle.std.proofs.Common.{◌-◌, length}
use Rattle.option_eval.specs.Sets.{IsRising, IsAscending}
use Rattle.option_eval.proofs.Sets.Asking.{Deduped}
use Rattle.option_eval.proofs.next.rising.Given as goal

abbrev pub invariant-loop-rest : goal.invariant-loop-rest
invariant-loop-rest l = record {
  deduped : Deduped l.sorted l.rest l.low l.next.items;
  ascending : IsAscending (l.low - 1) l.rest;
  rising : IsRising 0 l.next.items l.low;
}

abbrev pub decreases-loop-rest : goal.decreases-loop-rest
decreases-loop-rest l = length l.rest
