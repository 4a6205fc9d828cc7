-- The header of a rule that matches fits the item, and its fast pattern, if it has one, occurs in the payload: a candidate
-- has to have no more than these two (`matching-candidate`).
use Rattle.rule_eval.proofs.Candidates.{matching-candidate}
use Rattle.rule_eval.proofs.laws.matching_rules_are_candidates.Goals as goal

pub returns : goal.returns
returns c = λ means rule item bits matches. matching-candidate means rule item bits matches
