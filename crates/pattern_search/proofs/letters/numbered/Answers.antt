-- A marked byte gets a letter above all others (`numbered-more`), an unmarked one keeps the letter 0 (`numbered-skip`).
use Rattle.pattern_search.proofs.Lettering.{numbered-none, numbered-skip, numbered-more}
use Rattle.pattern_search.proofs.letters.numbered.Goals as goal
use Rattle.pattern_search.proofs.letters.numbered.Goals.{then-used-byte, else-used-byte}

pub loop-byte-init : goal.loop-byte-init
loop-byte-init c = numbered-none c.args.used.now

pub loop-byte-preserved : goal.loop-byte-preserved
loop-byte-preserved c = elim c.if-used-byte.branch [
  | then-used-byte w ↦ rw (w.of-is, w.last-is) (numbered-more c.args.used.now c.loop-byte.of c.loop-byte.byte c.loop-byte.last c.loop-byte.invariant c.loop-byte-test.true w.if-used-byte.true)
  | else-used-byte w ↦ rw (w.of-is, w.last-is) (numbered-skip c.args.used.now c.loop-byte.of c.loop-byte.byte c.loop-byte.last c.loop-byte.invariant c.loop-byte-test.true w.if-used-byte.false)
]
