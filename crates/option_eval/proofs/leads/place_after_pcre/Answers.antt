-- The pattern that was made finds what is meant: the end of the one span
-- that it finds is the only place led to, and without a span there is none.
use Rattle.std.proofs.Common.{◌∙◌, sym, Some, None}
use Rattle.option_eval.proofs.Walks.Leading.{pcre_only}
use Rattle.option_eval.proofs.leads.place_after_pcre.Goals as goal

pub returns-in-None-clause-only : goal.returns-in-None-clause-only
returns-in-None-clause-only g c = λ text flags means values made.
    let finds = rw c.in-Pattern.is at made in
    pcre_only means c.args.payload.now values c.args.place text flags c.args.relative None (sym c.in-None.is ∙ c.in_ok-pcre_finds-in-Pattern.ensures.found ∙ finds _)

pub returns-in-Some-clause-only : goal.returns-in-Some-clause-only
returns-in-Some-clause-only g c = λ text flags means values made.
    let finds = rw c.in-Pattern.is at made in
    rw c.origin.ensures
    (pcre_only means c.args.payload.now values c.args.place text flags c.args.relative (Some c.in-Some.span)
    (sym c.in-Some.is ∙ c.in_ok-pcre_finds-in-Pattern.ensures.found ∙ finds _))
