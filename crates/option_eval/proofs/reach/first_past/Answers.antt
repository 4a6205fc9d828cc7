-- Bytes of this size end within the room up to the start of the last that do, so the first place past it is one more.
use Rattle.std.proofs.Common.{arith}
use Rattle.std.proofs.lemmas.Int.{ints}
use Rattle.option_eval.proofs.Sets.Spans.{past_the_room}
use Rattle.option_eval.proofs.reach.first_past.Goals as goal

pub returns-clause-end : goal.returns-clause-end
returns-clause-end c = λ i below.
    let h = c.first_from.ensures.from i below in
    past_the_room c.args.start c.args.room _ c.args.size i c.first_from.result (omega (arith, ints)) h.0 h.1
