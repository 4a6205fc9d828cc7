-- Where a window's slot isn't set, no pattern begins at the places up to it that the stride takes (`skips-more`).
use Rattle.std.proofs.Common.{arith}
use Rattle.pattern_search.proofs.Sieving.{skips-none, skips-more}
use Rattle.pattern_search.proofs.sieve.Sieve.skip_windows.Goals as goal

pub loop-to-init : goal.loop-to-init
loop-to-init c = (omega arith, omega (arith, c.requires.within), skips-none c.args.self.now c.args.bytes.now c.args.from)

pub loop-to-preserved : goal.loop-to-preserved
loop-to-preserved c =
    let l = c.loop-to in (
      omega (arith, l.invariant.0),
      omega (arith, c.loop-to-test.true),
      skips-more c.args.self.now c.args.bytes.now c.args.from l.to c.requires.some
          (omega (arith, c.window_bit.ensures.is, c.if-window_bit-ne0.false))
          l.invariant.2,
    )
