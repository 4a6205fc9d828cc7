-- `needs_place` asks the same of the options after the first, a list that is one shorter.
use Rattle.std.proofs.Common.{length}
use Rattle.option_eval.proofs.kind.+needs_place.Given as goal

abbrev pub decreases-needs_place : goal.decreases-needs_place
decreases-needs_place l = length l.options.now
