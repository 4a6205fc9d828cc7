-- The parts of an item's line are those of what it tells, one by one: the same time, the text of the rule's class, and
-- ports where the body has them.
use Rattle.alert_fast.proofs.Telling.{line_text-told}
use Rattle.alert_fast.proofs.laws.lines_are_told.Goals as goal

pub returns : goal.returns
returns c = line_text-told
