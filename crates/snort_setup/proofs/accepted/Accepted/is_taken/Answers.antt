-- The set of numbers has just the numbers of the accepted rules, by the invariant of `Accepted`.
use Rattle.std.proofs.Common.{◌∙◌, ap}
use Rattle.std.specs.BTreeSet.{contains}
use Rattle.option_eval.specs.RuleSet.{Rules}
use Rattle.snort_setup.specs.Numbers.{number_cmp}
use Rattle.snort_setup.specs.Rules.{is_taken}
use Rattle.snort_setup.proofs.accepted.Accepted.is_taken.Goals as goal

pub returns : goal.returns
returns g c =
    c.contains.ensures
    ∙ ap (contains number_cmp c.self.inside.numbers) c.of.ensures
    ∙ c.self.invariant.found c.args.rule.now
    ∙ ap (λ (s : Rules g.row.P.Denot). is_taken s.rules c.args.rule.now) c.self.view_is
