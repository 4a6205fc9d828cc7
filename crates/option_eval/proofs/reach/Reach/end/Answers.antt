-- Bytes end within the room just before the place that `first_past`
-- finds, as the room and the window's start are small numbers.
use Rattle.std.proofs.Common.{arith}
use Rattle.std.proofs.lemmas.Int.{ints}
use Rattle.option_eval.proofs.reach.Reach.end.Goals as goal

pub first_past-requires-clause-room : goal.first_past-requires-clause-room
first_past-requires-clause-room c =
    let small = c.args.self.now.room_small c.in-Some.room c.in-Some.is in
    (omega (arith, ints), omega (arith, ints))

pub returns-in-Some-clause-end : goal.returns-in-Some-clause-end
returns-in-Some-clause-end c = λ i below.
    let h = c.first_past.ensures.end i below in
    let room_small = c.args.self.now.room_small c.in-Some.room c.in-Some.is in
    let start_small = c.start.ensures.small in
    rw c.in-Some.is (λ within. h.0 (omega (arith, ints)), λ under. let within = h.1 under in omega (arith, ints))
