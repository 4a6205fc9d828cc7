-- The lines so far are those of the records so far.
use Rattle.std.proofs.Common.{◌≡◌, ◌++◌, take}
use Rattle.snort_eve.specs.Joins.{held_after, completed_by, lines_of}
use Rattle.snort_eve.proofs.joins.push_all.Given as goal

abbrev pub invariant-loop-entry : goal.invariant-loop-entry
invariant-loop-entry g l = record {
  waits : l.waits ≡ held_after l.fn.held (take l.entry-index l.entries);
  written : l.out.items ≡ l.fn.out.items ++ lines_of (g.T.Teller.line l.teller) (completed_by l.fn.held (take l.entry-index l.entries));
}
