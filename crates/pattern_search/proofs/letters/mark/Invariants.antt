-- The pattern's bytes so far are marked, no mark was cleared, and there are still 256 of them.
use Rattle.std.proofs.Common.{◌≡◌, length, take}
use Rattle.pattern_search.specs.Letters.{AreMarked, KeepsMarks}
use Rattle.pattern_search.proofs.letters.mark.Given as goal

abbrev pub invariant-loop-byte : goal.invariant-loop-byte
invariant-loop-byte l = record {
  sized : length l.used ≡ 256;
  kept : KeepsMarks l.fn.used l.used;
  marked : AreMarked l.used (take l.byte-index l.pattern);
}
