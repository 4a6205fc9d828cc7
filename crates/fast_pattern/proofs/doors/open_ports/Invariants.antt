-- No slot was cleared, and the first `offset` ports from `low` on are let in.
use Rattle.std.proofs.Common.{◌≡◌, ℕ, ◌+◌, ◌<◌, ◌≤◌, true}
use Rattle.pattern_search.specs.Slots.{KeepsSlots}
use Rattle.fast_pattern.specs.Doors.{is_open}
use Rattle.fast_pattern.proofs.doors.open_ports.Given as goal

abbrev pub invariant-loop-offset : goal.invariant-loop-offset
invariant-loop-offset l = KeepsSlots l.fn.table l.table × ((port : ℕ) → l.low ≤ port → port < l.low + l.offset → is_open l.table l.part port ≡ true)
