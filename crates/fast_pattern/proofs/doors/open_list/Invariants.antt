-- No slot was cleared; an empty list has let all ports in, and each of the list's first parts its own.
use Rattle.std.proofs.Common.{◌≡◌, ℕ, ◌<◌, true, length, get_or}
use Rattle.net_lists.specs.declared.part.ValueBounds.{ValueBounds}
use Rattle.net_lists.specs.declared.part.Part.{Part}
use Rattle.pattern_search.specs.Slots.{KeepsSlots}
use Rattle.fast_pattern.specs.Doors.{is_all, OpensPart}
use Rattle.fast_pattern.proofs.doors.open_list.Given as goal

abbrev pub invariant-loop-range : goal.invariant-loop-range
invariant-loop-range l =
    KeepsSlots l.fn.table l.table
    × (length l.ports ≡ 0 → is_all l.table l.part ≡ true)
    × ((k : ℕ) (d : Part (ValueBounds ℕ)) → k < l.range-index → OpensPart l.part l.table (get_or l.ports k d))
