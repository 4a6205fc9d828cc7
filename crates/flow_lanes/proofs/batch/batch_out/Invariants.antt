-- The loop of `batch_out` has the entries of the answers so far and the sum of their candidates; each answer adds less than
-- 2^64, so that the sum fits `u128`.
use Rattle.std.proofs.Common.{◌≡◌, ◌*◌, ◌≤◌, length, map}
use Rattle.std.specs.Prelude.{sum_by}
use Rattle.flow_lanes.proofs.batch.batch_out.Given as goal

abbrev pub invariant-loop-answer : goal.invariant-loop-answer
invariant-loop-answer l = record {
  hits : l.hits.items ≡ map (λ answer. answer.value.hits) l.yielded;
  tries : l.tries ≡ sum_by (λ answer. answer.value.tries) l.yielded;
  least : l.tries ≤ 18446744073709551615 * length l.yielded;
}
