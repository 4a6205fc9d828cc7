-- Lines of joined records are those of the first and then those of the others after them, so that the lines of the first
-- records begin those of more: `prefix_law`.
use Rattle.snort_engine.proofs.Lines.Laws.{prefix_law}
use Rattle.snort_engine.proofs.laws.first_lines_stay.Goals as goal

pub returns : goal.returns
returns c = prefix_law
