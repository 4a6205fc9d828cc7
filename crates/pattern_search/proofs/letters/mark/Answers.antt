-- A mark that is set clears none (`keeps-set`), so with the next one's all bytes so far are marked (`marked-more`).
use Rattle.std.proofs.Common.{true, ◌∙◌, arith, length-set}
use Rattle.pattern_search.proofs.Lettering.{keeps-refl, keeps-set, keeps-trans, marked-none, marked-more, marked-all}
use Rattle.pattern_search.proofs.letters.mark.Goals as goal

pub loop-byte-init : goal.loop-byte-init
loop-byte-init c = record {
  sized = c.told-used;
  kept = keeps-refl c.args.used.now;
  marked = marked-none c.args.used.now c.args.pattern.now;
}

pub loop-byte-preserved : goal.loop-byte-preserved
loop-byte-preserved c =
    let was = c.loop-byte.invariant in
    record {
      sized = length-set c.loop-byte.used c.lower.result true ∙ was.sized;
      kept = keeps-trans c.args.used.now c.loop-byte.used _ was.kept (keeps-set c.loop-byte.used c.lower.result);
      marked =
          marked-more c.loop-byte.used c.args.pattern.now c.loop-byte.byte-index c.lower.result was.marked c.loop-byte-test.true
          (omega (arith, c.type_inv.pattern c.loop-byte.byte-index))
          c.lower.ensures was.sized;
    }

pub returns-clause-marked : goal.returns-clause-marked
returns-clause-marked c = marked-all c.loop-byte.used c.args.pattern.now c.loop-byte.byte-index c.loop-byte-test.false c.loop-byte.invariant.marked
