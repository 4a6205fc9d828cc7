-- What `make_all` made finds what the maker means, so with it at the end each rule's patterns still do.
use Rattle.std.proofs.Common.{[], map, sym, subst}
use Rattle.std.specs.List.{AllZip}
use Rattle.std.proofs.lemmas.Result.{on_ok_weaker}
use Rattle.option_eval.specs.Ready.{pattern_of}
use Rattle.option_eval.specs.RuleSet.{Rules, AreMade}
use Rattle.option_eval.proofs.Chosen.{zip_push, all_in_range}
use Rattle.option_eval.proofs.rule_set.RuleSet.push.Goals as goal

pub make_all-requires-after_bounds : goal.make_all-requires-after_bounds
make_all-requires-after_bounds g c κs within = rw c.as_slice.ensures (all_in_range [] c.args.rule.opts c.requires.options)

pub returns-clause-found : goal.returns-clause-found
returns-clause-found g c =
    let served = rw c.as_slice.ensures at c.in_ok-made.ensures.found in
    let set = c.args.self.now in
    on_ok_weaker c.append.result
    (λ is finds. subst (λ (s : Rules g.row.P.Denot). AllZip (AreMade g.P.Pattern.finds (g.M.PatternMaker.means c.args.maker.now)) s.rules s.patterns) (sym is)
    (zip_push (AreMade g.P.Pattern.finds (g.M.PatternMaker.means c.args.maker.now)) set.rules set.patterns c.args.rule (map (pattern_of {P = g.row.P.Denot}) c.in_ok-made.made.items) finds served))
    c.append.ensures.pushed
