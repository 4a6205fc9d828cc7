-- The rule and what serves its options join the ends of two lists, so at each place the one still serves the other.
use Rattle.std.proofs.Common.{◌++◌, ◌∷◌, [], sym, subst}
use Rattle.std.specs.List.{AllZip}
use Rattle.option_eval.specs.Ready.{IsReady}
use Rattle.option_eval.proofs.Chosen.{zip_push}
use Rattle.option_eval.proofs.rule_set.RuleSet.append.Goals as goal

pub invariant_of-self-in-Ok : goal.invariant_of-self-in-Ok
invariant_of-self-in-Ok g c =
    let rules = c.in-Ok.ensures.items in
    let made = c.in_ok-push.ensures.items in
    subst (λ xs. AllZip (λ rule made. AllZip (IsReady {P = g.row.P.Denot}) rule.opts made.items) xs c.push.new.self.items) (sym rules)
    (subst (λ ys. AllZip (λ rule made. AllZip (IsReady {P = g.row.P.Denot}) rule.opts made.items) (c.self.inside.rules.items ++ c.args.rule ∷ []) ys) (sym made)
    (zip_push (λ rule made. AllZip (IsReady {P = g.row.P.Denot}) rule.opts made.items) c.self.inside.rules.items c.self.inside.made.items c.args.rule c.args.made c.self.invariant c.requires))
