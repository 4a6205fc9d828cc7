-- Each turn is one step on from the front.
use Rattle.std.proofs.Common.{◌≡◌}
use Rattle.piece_list.proofs.few.step_on.Given as goal

abbrev pub invariant-loop-step : goal.invariant-loop-step
invariant-loop-step g l = record {
  list : l.linked.list ≡ l.fn.linked.list;
  place : l.linked.place ≡ l._step;
  spare : l.linked.spare ≡ l.fn.linked.spare;
}
