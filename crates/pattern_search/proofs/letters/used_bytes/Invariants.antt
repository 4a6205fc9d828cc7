-- The bytes of the patterns so far are marked.
use Rattle.std.proofs.Common.{take}
use Rattle.pattern_search.specs.Letters.{AllMarked}
use Rattle.pattern_search.proofs.letters.used_bytes.Given as goal

abbrev pub invariant-loop-pattern : goal.invariant-loop-pattern
invariant-loop-pattern l = AllMarked l.used (take l.pattern-index l.patterns)
