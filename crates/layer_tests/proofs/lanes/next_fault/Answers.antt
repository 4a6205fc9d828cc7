-- Lanes that have failed are asked for nothing of the jobs, since what is asked holds of lanes that work alone; they answer
-- a fault, and have failed still.
use Rattle.std.proofs.Common.{sym, ◌∙◌}
use Rattle.std.proofs.lemmas.Bool.{true≢false}
use Rattle.layer_tests.proofs.lanes.next_fault.Goals as goal

pub batch-requires-clause-sound : goal.batch-requires-clause-sound
batch-requires-clause-sound g c κs within = λ working. absurd (true≢false (sym c.requires.failed ∙ working))

pub batch-requires-clause-next : goal.batch-requires-clause-next
batch-requires-clause-next g c κs within = λ working. absurd (true≢false (sym c.requires.failed ∙ working))

pub returns : goal.returns
returns g c = rw (c.batch.ensures.failed.1 c.requires.failed) at c.batch.ensures.fails
