-- Without a number at the place nothing is added; with one, what is added is
-- its state: the values with that number, kept as far as they are still read.
use Rattle.std.proofs.Common.{◌∙◌, ap, slice_set, arith, length}
use Rattle.std.specs.Prelude.{⊤, ◌≤◌}
use Rattle.std.proofs.lemmas.Result.{IfOk-weaker}
use Rattle.option_eval.specs.Kept.{kept_values}
use Rattle.option_eval.proofs.Extractions.Extracting.{leaves_none, leaves_some}
use Rattle.option_eval.proofs.Extractions.Stating.{each_added}
use Rattle.option_eval.proofs.extract.Extraction.extract_at.Goals as goal

pub returns-in-None-clause-right : goal.returns-in-None-clause-right
returns-in-None-clause-right c = λ means later reads.
    let it = c.args.self.now in
    leaves_none means c.args.payload.now it.fetch it.name it.times it.align later c.args.values.now c.args.place c.in-None.ensures.value c.args.states.now

pub returns-in-Some-clause-right : goal.returns-in-Some-clause-right
returns-in-Some-clause-right c = λ means later reads.
    let it = c.args.self.now in
    let number = rw (c.from.ensures, c.from-in-Some.ensures) at c.rounded_up-number.ensures.value in
    let full = c.with_value.ensures ∙ ap (slice_set c.args.values.now it.name) number in
    IfOk-weaker c.add.result _ _
    (λ done added. leaves_some means c.args.payload.now it.fetch it.name it.times it.align later c.args.values.now c.args.place _
    c.kept_values-after.result c.in-Some.ensures.value (omega (arith, c.fits-values))
    (c.kept_values-after.ensures later reads ∙ ap (kept_values later) full) c.args.states.now c.add.new.self added)
    c.add.ensures

pub returns-in-Some-clause-inside : goal.returns-in-Some-clause-inside
returns-in-Some-clause-inside c = λ before.
    IfOk-weaker c.add.result _ _
    (λ done added. each_added c.args.states.now c.add.new.self c.kept_values-after.result c.in-Some.read.stop added (λ v. ⊤) (λ v p. p ≤ length c.args.payload.now) before tt c.in-Some.ensures.inside)
    c.add.ensures
