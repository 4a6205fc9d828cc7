-- Each place of a merged state is a point of its own, so more than a
-- part's places mean that any list of the points is longer than a part.
use Rattle.std.proofs.Common.{List, ℕ, Contains, arith, sym, subst}
use Rattle.std.specs.Prelude.{⊤, ◌<◌, ◌^◌}
use Rattle.option_eval.specs.Sets.{point}
use Rattle.option_eval.specs.States.{EachState}
use Rattle.option_eval.specs.declared.states.States.{States}
use Rattle.option_eval.proofs.part.taken_part.Goals as goal

pub merged_states-requires : goal.merged_states-requires
merged_states-requires c = record { small = subst (λ (s : States). EachState (λ v. ⊤) (λ v p. p < 2 ^ 63) s) (sym c.replace-taken.ensures.value) c.requires.small }

pub returns-clause-many : goal.returns-clause-many
returns-clause-many c = λ listed each.
    let few = c.in_ok-part.ensures.few listed (subst (λ (s : States). EachState (λ v. ⊤) (λ v p. Contains listed (point v p)) s) (sym c.replace-taken.ensures.value) each) in
    omega (arith, few, c.place_count-held.ensures, c.if-held-le-PART_STANDINGS.false)
