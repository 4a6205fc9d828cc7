-- `is_read` calls itself on the options after the first, so the number of options falls.
use Rattle.std.proofs.Common.{length}
use Rattle.option_eval.proofs.kept.+is_read.Given as goal

abbrev pub decreases-is_read : goal.decreases-is_read
decreases-is_read l = length l.options.now
