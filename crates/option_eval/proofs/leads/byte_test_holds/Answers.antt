-- With no number at the place the test fails, with `!` or without; else
-- `compares` decides it, as the value fits its 128 bits unchanged.
use Rattle.std.proofs.Common.{ℤ, ◌∙◌, subst, IsTrue}
use Rattle.std.specs.Int.{w128}
use Rattle.std.proofs.lemmas.Bool.{false≢true}
use Rattle.std.proofs.lemmas.Int.{to_z-of_z}
use Rattle.option_eval.specs.Places.{Compares}
use Rattle.option_eval.proofs.Walks.Leading.{byte_test_none, byte_test_some}
use Rattle.option_eval.proofs.leads.byte_test_holds.Goals as goal

pub returns-in-None : goal.returns-in-None
returns-in-None c = λ means. (
  λ yes. absurd (false≢true yes),
  λ led. absurd (byte_test_none means c.args.payload.now c.args.values.now c.args.place c.args.fetch.now c.args.negated c.args.cmp c.args.value c.args.place c.in-None.ensures.value led),
)

pub returns-in-Some : goal.returns-in-Some
returns-in-Some c = λ means.
    let wide = to_z-of_z w128 c.number.result (record { sfits = c.number.type_inv }) ∙ c.number.ensures.value in
    byte_test_some means c.args.payload.now c.args.values.now c.args.place c.args.fetch.now c.args.negated c.args.cmp c.args.value
    _ c.compares.result c.unless.result c.in-Some.ensures.value c.unless.ensures
    (subst (λ (z : ℤ). (IsTrue c.compares.result → Compares c.args.cmp c.in-Some.read.number z) ×
    (Compares c.args.cmp c.in-Some.read.number z → IsTrue c.compares.result)) wide c.compares.ensures)
