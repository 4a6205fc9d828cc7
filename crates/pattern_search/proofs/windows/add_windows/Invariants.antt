-- No slot was cleared, and those of the pattern's first `offset` windows are set.
use Rattle.std.proofs.Common.{ℕ, ◌<◌}
use Rattle.pattern_search.specs.Slots.{slot_bit, KeepsSlots}
use Rattle.pattern_search.specs.Windows.{window_at, slot_of}
use Rattle.pattern_search.proofs.windows.add_windows.Given as goal

abbrev pub invariant-loop-offset : goal.invariant-loop-offset
invariant-loop-offset l = KeepsSlots l.fn.table l.table × ((k : ℕ) → k < l.offset → 0 < slot_bit l.table (slot_of (window_at l.pattern k) l.mask))
