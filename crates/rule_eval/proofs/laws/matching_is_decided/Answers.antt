-- Each part of a match is decided, the way through the payload options too, since from a place an option leads to few: so
-- the deciding itself is the test (`test_of`).
use Rattle.rule_eval.proofs.Tells.{test_of, test_of-tells}
use Rattle.rule_eval.proofs.laws.matching_is_decided.Goals as goal

pub returns : goal.returns
returns c = λ means. (test_of means, test_of-tells means)
