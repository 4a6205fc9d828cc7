-- Two skips in a row are one (`skips-trans`), and in a rest shorter than any pattern none begins (`skips-end`).
use Rattle.std.proofs.Common.{arith}
use Rattle.pattern_search.proofs.Sieving.{skips-trans, skips-end}
use Rattle.pattern_search.proofs.sieve.Sieve.next_start.Goals as goal

pub returns-then-bytes-to-clause-skips : goal.returns-then-bytes-to-clause-skips
returns-then-bytes-to-clause-skips c =
    let sieve = c.args.self.now in
    let bytes = c.args.bytes.now in
    let near = c.skip_turns-near in
    let to = c.skip_windows-to in
    skips-end sieve bytes c.args.from to.result to.ensures.within (omega (arith, c.if-bytes-to.true, to.ensures.within))
    (skips-trans sieve bytes c.args.from near.result to.result near.ensures.skips to.ensures.skips)

pub returns-clause-skips : goal.returns-clause-skips
returns-clause-skips c = skips-trans c.args.self.now c.args.bytes.now c.args.from c.skip_turns-near.result c.skip_windows-to.result c.skip_turns-near.ensures.skips c.skip_windows-to.ensures.skips
