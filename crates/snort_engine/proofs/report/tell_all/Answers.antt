-- The texts so far were told as one joined text, of which a sink that failed has a part; the next text is told after them,
-- or not at all (`tells_step`).
use Rattle.std.proofs.Common.{arith}
use Rattle.snort_engine.proofs.Headline.Reported.{tells_none, tells_step}
use Rattle.snort_engine.proofs.report.tell_all.Goals as goal

pub loop-text-init : goal.loop-text-init
loop-text-init g c = record { tells = tells_none _ _; later = omega arith }

pub loop-text-preserved : goal.loop-text-preserved
loop-text-preserved g c = record {
  tells = tells_step c.args.texts.now c.loop-text.text-index c.text-item.result c.bytes.result.now _ _ _ _ _ _ _ _ c.loop-text-test.true c.text-item.is c.bytes.ensures
      c.loop-text.invariant.later c.tell-well.ensures.later c.loop-text.invariant.tells c.tell-well.ensures.tells;
  later = omega (arith, c.tell-well.ensures.later, c.loop-text.invariant.later);
}
