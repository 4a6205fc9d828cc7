-- The list that a test gives is of all rules that match, as the test tells of each, and there is only one
-- such list: `matching-hits`.
use Rattle.rule_eval.proofs.AreHits.{matching-hits}
use Rattle.rule_eval.proofs.laws.tests_tell_the_hits.Goals as goal

pub returns : goal.returns
returns c = λ means trying tells item bits places. matching-hits means trying tells item bits places
