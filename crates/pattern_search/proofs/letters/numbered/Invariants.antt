-- The marked bytes below `byte` have rising letters, none above `last`, and all other bytes have the letter 0.
use Rattle.pattern_search.specs.Letters.{AreNumbered}
use Rattle.pattern_search.proofs.letters.numbered.Given as goal

abbrev pub invariant-loop-byte : goal.invariant-loop-byte
invariant-loop-byte l = AreNumbered l.used l.of l.byte l.last
