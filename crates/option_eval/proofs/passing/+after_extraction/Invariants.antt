-- The search for the first extraction goes on in the options after the first, which are fewer.
use Rattle.std.proofs.Common.{length}
use Rattle.option_eval.proofs.passing.+after_extraction.Given as goal

abbrev pub decreases-after_extraction : goal.decreases-after_extraction
decreases-after_extraction g l = length l.options.now
