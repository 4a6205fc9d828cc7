-- A place and a small number fit 128 bits, so the sum compared with the payload's length is the one of the whole numbers.
use Rattle.std.proofs.Common.{arith}
use Rattle.std.proofs.lemmas.Int.{ints}
use Rattle.option_eval.proofs.Walks.Leading.{isdataat}
use Rattle.option_eval.proofs.leads.isdataat_holds.Goals as goal

pub returns : goal.returns
returns c = λ means.
    let value = c.number.ensures.value in
    let small = c.number.ensures.small in
    let start = c.origin.ensures in
    isdataat means c.args.payload.now c.args.values.now c.args.place c.args.at c.args.relative c.args.negated c.is_before.result c.unless.result c.unless.ensures
    (λ yes. let before = c.is_before.ensures.0 yes in omega (arith, ints), λ before. c.is_before.ensures.1 (omega (arith, ints)))
