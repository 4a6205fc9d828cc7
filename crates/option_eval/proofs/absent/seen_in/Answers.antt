-- A search that finds nothing moves `done` alone, one that finds an occurrence
-- moves both marks just past it; either way what was noted stays noted.
use Rattle.std.proofs.Common.{arith, refl}
use Rattle.option_eval.specs.Sets.{Occurs}
use Rattle.option_eval.proofs.Sets.Looking.{sees_none, sees_some}
use Rattle.option_eval.proofs.absent.seen_in.Goals as goal

pub returns-in-None : goal.returns-in-None
returns-in-None c =
    let needle = c.args.needle.now in
    sees_none (Occurs needle.nocase c.args.payload.now needle.bytes.now)
    c.args.low c.args.end c.max-from.result c.args.seen c.max-from.ensures _ refl refl (omega arith) (omega arith)
    c.in-None.ensures

pub returns-in-Some : goal.returns-in-Some
returns-in-Some c =
    let needle = c.args.needle.now in
    let first = c.in-Some.ensures.0 in
    let low = first.low in
    let high = first.high in
    sees_some (Occurs needle.nocase c.args.payload.now needle.bytes.now) c.args.low c.args.end c.max-from.result c.args.seen c.max-from.ensures _ c.in-Some.start refl refl low high c.in-Some.ensures.1
