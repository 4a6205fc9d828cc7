-- A place is within reach from below just if the window's start isn't past it, and `first_from` gives the first such place.
use Rattle.std.proofs.Common.{arith}
use Rattle.std.proofs.lemmas.Int.{ints}
use Rattle.option_eval.proofs.reach.Reach.low.Goals as goal

pub returns-clause-low : goal.returns-clause-low
returns-clause-low c = λ i below.
    let h = c.first_from.ensures.from i below in
    let small = c.start.ensures.small in
    (λ from. h.0 (omega (arith, ints)), λ reached. let from = h.1 reached in omega (arith, ints))
