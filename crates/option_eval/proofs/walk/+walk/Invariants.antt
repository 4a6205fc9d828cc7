-- `is_walked` goes on with one option fewer in `is_walked_from`, which calls it
-- back with the same options: so twice their number falls, and one more than that.
use Rattle.std.proofs.Common.{◌*◌, ◌+◌, length}
use Rattle.option_eval.proofs.walk.+walk.Given as goal

abbrev pub decreases-is_walked : goal.decreases-is_walked
decreases-is_walked g l = 2 * length l.options.now

abbrev pub decreases-is_walked_from : goal.decreases-is_walked_from
decreases-is_walked_from g l = 2 * length l.options.now + 1
