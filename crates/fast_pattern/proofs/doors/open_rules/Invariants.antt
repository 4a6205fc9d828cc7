-- No slot was cleared, and what the headers of the rules so far fit is let in.
use Rattle.std.proofs.Common.{◌≡◌, ℕ, ◌<◌, length, get_or}
use Rattle.fast_pattern.specs.declared.header.RuleHead.{RuleHead}
use Rattle.pattern_search.specs.Slots.{KeepsSlots}
use Rattle.fast_pattern.specs.Doors.{LetsIn}
use Rattle.fast_pattern.proofs.doors.open_rules.Given as goal

abbrev pub invariant-loop-asked : goal.invariant-loop-asked
invariant-loop-asked l = KeepsSlots l.fn.table l.table × ((k : ℕ) (d : RuleHead) → k < l.asked-index → LetsIn (get_or l.rules k d) l.table)
