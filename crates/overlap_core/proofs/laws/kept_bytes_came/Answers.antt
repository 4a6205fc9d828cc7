-- The segment that is chosen at a place is one of those that cover it, since each step of the choice gives one of its two.
use Rattle.overlap_core.proofs.Segments.Agreeing.{chosen_byte-came}
use Rattle.overlap_core.proofs.laws.kept_bytes_came.Goals as goal

pub returns : goal.returns
returns c = chosen_byte-came
