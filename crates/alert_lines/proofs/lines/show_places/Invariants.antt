-- The lines so far are those of the rules at the places so far.
use Rattle.std.proofs.Common.{◌≤◌, Ok, take}
use Rattle.alert_lines.specs.Gathering.{sending}
use Rattle.alert_lines.specs.Showing.{ShowsPlaces, subject_of}
use Rattle.alert_lines.proofs.lines.show_places.Given as goal

abbrev pub invariant-loop-place : goal.invariant-loop-place
invariant-loop-place g l = record {
  shown : ShowsPlaces (subject_of l.subject) l.before (take l.place-index l.places)
      (sending g.A.Sink l.fn.block.items l.fn.alerts) (sending g.A.Sink l.block.items l.alerts) (Ok l.count);
  few : l.count ≤ l.place-index;
}
