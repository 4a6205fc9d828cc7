-- The patterns of the rules and of this one find what they mean: the set is the one that was taken apart.
use Rattle.std.proofs.Common.{sym, subst}
use Rattle.option_eval.specs.RuleSet.{Rules, FindWhatIsMeant}
use Rattle.snort_setup.proofs.accepted.Accepted.with_rule.Goals as goal

pub returns-in_ok-insert-in-Ok-clause-meant : goal.returns-in_ok-insert-in-Ok-clause-meant
returns-in_ok-insert-in-Ok-clause-meant g c = λ finds.
    c.in-Ok.ensures.found (subst (λ (s : Rules g.row.P.Denot). FindWhatIsMeant g.P.Pattern.finds (g.M.PatternMaker.means c.args.maker.now) s) (sym c.self.view_is) finds)
