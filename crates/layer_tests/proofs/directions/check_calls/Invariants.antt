-- Each call so far moved the direction's base by 2^30 places at most, so that a hundred calls stay within 2^62.
use Rattle.std.proofs.Common.{◌≤◌, ◌*◌, ◌^◌}
use Rattle.stream5_reassembly.specs.Segments.{passed}
use Rattle.layer_tests.proofs.directions.check_calls.Given as goal

abbrev pub invariant-loop-step : goal.invariant-loop-step
invariant-loop-step g l = passed l.direction ≤ 2 ^ 30 * l.done
