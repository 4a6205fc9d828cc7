-- No rules have no numbers, so an empty set of these keeps the invariant.
use Rattle.std.proofs.Common.{ap}
use Rattle.option_eval.specs.RuleSet.{Rules}
use Rattle.snort_setup.proofs.Numbered.{numbers-nil}
use Rattle.snort_setup.proofs.accepted.Accepted.new.Goals as goal

pub invariant_of-result : goal.invariant_of-result
invariant_of-result g c = numbers-nil _ _ (ap (λ (s : Rules g.row.P.Denot). s.rules) c.new.ensures) c.new-2.ensures.empty
