-- One more byte gets the letter of its lower case, and no letter before it changes (`folded-more`).
use Rattle.pattern_search.proofs.Lettering.{folded-none, folded-more}
use Rattle.pattern_search.proofs.letters.folded.Goals as goal

pub loop-byte-init : goal.loop-byte-init
loop-byte-init c = folded-none c.args.lowered.now

pub loop-byte-preserved : goal.loop-byte-preserved
loop-byte-preserved c = folded-more c.args.lowered.now c.loop-byte.of c.loop-byte.byte c.lower.result c.loop-byte.invariant c.loop-byte-test.true c.lower.ensures
