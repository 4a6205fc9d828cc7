-- A negated content leads where it says, and a relative option may tell of the places before it.
use Rattle.std.proofs.Common.{sym, subst, ◌∙◌, IfOk}
use Rattle.std.proofs.lemmas.Bool.{false≢true}
use Rattle.rule_types.specs.declared.option.Opt.{Opt}
use Rattle.option_eval.specs.Trying.{LeadsTo}
use Rattle.option_eval.specs.declared.next.NextPlaces.TheVariants as next
use Rattle.option_eval.proofs.Walks.Staying.{next_of}
use Rattle.option_eval.proofs.next.places_after_relative_test.Goals as goal

pub returns-in-Content-Needle-clause-after : goal.returns-in-Content-Needle-clause-after
returns-in-Content-Needle-clause-after g c = λ every.
    let at = c.args.at.now in
    let answer = c.places_after_negated_content in
    next_of g.P.Pattern.finds c.args.option.now c.args.made.now at every answer.result
    (λ means made. subst (λ (o : Opt). IfOk answer.result (λ places. LeadsTo means o every at (next.To places)))
    (sym c.in-Content-Needle.is-0) (answer.ensures.found means every))
    answer.ensures.rising (λ free test. false≢true (sym free ∙ c.requires.relative))
