-- Since it is decided whether a rule matches there is a list, and at each rule the relation goes one way alone, so that two
-- lists are the same (`AreMatches-unique`).
use Rattle.rule_eval.specs.Hits.{places_from}
use Rattle.rule_eval.proofs.AreHits.{AreMatches-unique, places_from-are}
use Rattle.rule_eval.proofs.Tells.{test_of, test_of-tells}
use Rattle.rule_eval.proofs.laws.hits_are_one.Goals as goal

pub returns-clause-some : goal.returns-clause-some
returns-clause-some c = λ means rules item bits.
    (places_from (test_of means) item 0 rules bits, places_from-are means (test_of means) (test_of-tells means) item 0 rules bits)

pub returns-clause-one : goal.returns-clause-one
returns-clause-one c = λ means rules item bits xs ys of_xs of_ys. AreMatches-unique means item 0 rules bits xs ys of_xs of_ys
