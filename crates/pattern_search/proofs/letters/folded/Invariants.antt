-- Each byte below `byte` has the letter of its lower case.
use Rattle.pattern_search.specs.Letters.{AreFolded}
use Rattle.pattern_search.proofs.letters.folded.Given as goal

abbrev pub invariant-loop-byte : goal.invariant-loop-byte
invariant-loop-byte l = AreFolded l.lowered l.of l.byte
