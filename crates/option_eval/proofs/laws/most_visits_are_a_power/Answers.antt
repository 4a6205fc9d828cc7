-- The law rests on going through the options once more for each list of values
-- at each extraction, which multiplies the visits by `list_count` at most.
use Rattle.option_eval.proofs.Costs.Visits.{visits_closed}
use Rattle.option_eval.proofs.laws.most_visits_are_a_power.Goals as goal

pub returns : goal.returns
returns c = visits_closed
