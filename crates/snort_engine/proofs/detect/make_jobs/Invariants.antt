-- The records so far were taken, and each of their jobs has a place.
use Rattle.std.proofs.Common.{◌≡◌, ◌+◌, length, take}
use Rattle.record_jobs.specs.Way.{way_of}
use Rattle.snort_engine.specs.Steps.Detecting.{MakesJobs}
use Rattle.snort_engine.specs.Steps.Sourcing.{PlacesJobs}
use Rattle.snort_engine.proofs.detect.make_jobs.Given as goal

abbrev pub invariant-loop-record : goal.invariant-loop-record
invariant-loop-record l = record {
  makes : MakesJobs (way_of l.by) (take l.record-index l.records) l.fn.front l.front l.jobs.items;
  places : PlacesJobs (way_of l.by) (take l.record-index l.records) l.fn.front l.places.items;
  each : length l.places.items ≡ length l.jobs.items;
  at : l.place ≡ l.record-index;
  count : l.front.counts.records ≡ l.fn.front.counts.records + l.record-index;
}
