-- The windows of the patterns so far are in the table, which is as long as it was.
use Rattle.std.proofs.Common.{◌≡◌, ℕ, ◌<◌, length}
use Rattle.pattern_search.specs.Words.{word_at}
use Rattle.pattern_search.specs.Windows.{HasWindows}
use Rattle.pattern_search.proofs.windows.add_all_windows.Given as goal

abbrev pub invariant-loop-pattern : goal.invariant-loop-pattern
invariant-loop-pattern l = (length l.table ≡ length l.fn.table) × ((k : ℕ) → k < l.pattern-index → HasWindows l.table l.mask l.stride (word_at l.patterns k))
