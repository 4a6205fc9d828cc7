-- The loop of `fill` has the entries of the jobs so far and the sums of their items and candidates; each job adds less than
-- 2^64, so that the sums fit `u128`.
use Rattle.std.proofs.Common.{◌≡◌, ◌*◌, ◌≤◌, length, map}
use Rattle.std.specs.Prelude.{sum_by}
use Rattle.flow_lanes.proofs.answer.Matches.fill.Given as goal

-- the counts are of the jobs so far; each job's is below 2^64
abbrev pub invariant-loop-job : goal.invariant-loop-job
invariant-loop-job l = record {
  hits : l.self.hits.items ≡ map (λ job. job.value.hits) l.yielded;
  items : l.self.items ≡ sum_by (λ job. job.value.items) l.yielded;
  tries : l.self.tries ≡ sum_by (λ job. job.value.tries) l.yielded;
  few_items : l.self.items ≤ 18446744073709551615 * length l.yielded;
  few_tries : l.self.tries ≤ 18446744073709551615 * length l.yielded;
}
