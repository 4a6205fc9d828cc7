-- After `step_back` the place is no later than the one sought, and from there `step_on` comes just to it.
use Rattle.std.proofs.Common.{◌∙◌}
use Rattle.overlap_core.proofs.row.seek.Goals as goal

pub returns-clause-place : goal.returns-clause-place
returns-clause-place c = λ front rest list below from. c.step_on.ensures.place front rest (c.step_back.ensures.list ∙ list) below from (c.step_back.ensures.place front rest list from)
