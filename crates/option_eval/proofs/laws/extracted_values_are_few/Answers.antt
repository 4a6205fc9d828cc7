-- The law rests on the lists of `Values`: one of the numbers that extractions take
-- at their places, one of the points after them, each as short as its count says.
use Rattle.option_eval.proofs.Costs.Values.{values_few}
use Rattle.option_eval.proofs.laws.extracted_values_are_few.Goals as goal

pub returns : goal.returns
returns c = values_few
