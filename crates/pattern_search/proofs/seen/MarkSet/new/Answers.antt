-- A set that is empty has no place (`none-marked`).
use Rattle.pattern_search.proofs.Finding.Marking.{none-marked}
use Rattle.pattern_search.proofs.seen.MarkSet.new.Goals as goal

pub returns : goal.returns
returns c = none-marked (record { places = c.new.result }) c.new.ensures.empty
