-- The places before the rest were asked, and what is seen serves the rest.
use Rattle.std.proofs.Common.{◌+◌, ◌≤◌, length}
use Rattle.option_eval.specs.Absent.{IsReached}
use Rattle.option_eval.specs.Sets.{IsRising}
use Rattle.option_eval.proofs.Sets.Asking.{Kept}
use Rattle.option_eval.proofs.Sets.Looking.{Serves}
use Rattle.option_eval.proofs.absent.places_without.Given as goal

abbrev pub invariant-loop-rest : goal.invariant-loop-rest
invariant-loop-rest g l = record {
  kept : Kept (λ p. ¬ IsReached l.needle.nocase l.at.payload.now l.needle.bytes.now l.reach p) l.at.places.now l.rest l.next.items;
  serves : Serves l.needle.nocase l.at.payload.now l.needle.bytes.now l.reach l.rest l.seen;
  rest_rising : IsRising l.asked l.rest (length l.at.payload.now + 1);
  rising : IsRising 0 l.next.items l.asked;
  counted : l.visits + length l.rest ≤ l.fn.visits + length l.at.places.now;
}

abbrev pub decreases-loop-rest : goal.decreases-loop-rest
decreases-loop-rest g l = length l.rest
