-- `entries` has the moves to the states below `state`.
use Rattle.pattern_search.specs.Rows.{AreEntries}
use Rattle.pattern_search.proofs.rows.entries_of.Given as goal

abbrev pub invariant-loop-state : goal.invariant-loop-state
invariant-loop-state l = AreEntries l.width l.dense l.heads l.entries.items l.state
