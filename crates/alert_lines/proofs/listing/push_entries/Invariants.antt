-- The lines of the records so far were appended.
use Rattle.std.proofs.Common.{◌≡◌, ◌++◌, take}
use Rattle.alert_lines.specs.RecordLines.{entry_lines}
use Rattle.alert_lines.proofs.listing.push_entries.Given as goal

abbrev pub invariant-loop-entry : goal.invariant-loop-entry
invariant-loop-entry l = record { lines : l.out.items ≡ l.fn.out.items ++ entry_lines (take l.entry-index l.entries) }
