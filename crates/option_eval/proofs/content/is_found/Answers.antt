-- The places within reach are those from `low` on and below `end`,
-- so what the search finds between them answers for the window.
use Rattle.std.proofs.Common.{◌+◌, ◌-◌, length, arith}
use Rattle.option_eval.proofs.Sets.Contents.{window_answer}
use Rattle.option_eval.proofs.content.is_found.Goals as goal

pub returns : goal.returns
returns c =
    let needle = c.args.needle.now in
    let payload = c.args.payload.now in
    let fits = c.requires.fits in
    window_answer needle.nocase payload needle.bytes.now c.args.reach.now c.args.place
    (length payload - length needle.bytes.now + 1)
    c.low.result c.end-end.result c.min-low.result c.first_in.result c.is_some.result
    c.is_some.ensures c.first_in.ensures (λ i within. omega arith) c.low.ensures.low c.end-end.ensures.end c.min-low.ensures
