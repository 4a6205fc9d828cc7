-- The pattern that was made finds what its text and flags mean, so a `pcre:!` holds just if it finds nothing.
use Rattle.std.proofs.Common.{◌∙◌}
use Rattle.option_eval.proofs.Walks.Leading.{pcre_absent}
use Rattle.option_eval.proofs.leads.negated_pcre_holds.Goals as goal

pub returns-in_ok-pcre_finds-in-Pattern : goal.returns-in_ok-pcre_finds-in-Pattern
returns-in_ok-pcre_finds-in-Pattern g c = λ text flags means values made.
    let finds = rw c.in-Pattern.is at made in
    pcre_absent means c.args.payload.now values c.args.place text flags c.args.relative c.in_ok-pcre_finds-in-Pattern.field-0
    c.is_none.result (c.in_ok-pcre_finds-in-Pattern.ensures.found ∙ finds _)
    c.is_none.ensures
