-- The work is under way, a batch may come, no record waits, and the counts are as before.
use Rattle.std.proofs.Common.{◌≡◌, ◌-◌, [], Option}
use Rattle.edge_io.specs.Files.{Files, MaySee, left_by}
use Rattle.rule_eval.specs.Hits.{Test}
use Rattle.edge_io.specs.Frames.{OnlyRead}
use Rattle.snort_engine.specs.Steps.Reader.{number_of}
use Rattle.snort_engine.specs.Steps.Detecting.{IsDetectorAfter}
use Rattle.snort_engine.specs.Steps.Showing.{plan_of, IsTest, IsUnderWay, MayGoOn}
use Rattle.snort_engine.proofs.show.show_batches.Given as goal

abbrev pub invariant-batches : goal.invariant-batches
invariant-batches g l = record {
  going : (matches : Test) → IsTest g.P.Pattern.finds l.context.plan.now.setup.set matches → IsDetectorAfter (plan_of matches l.context.plan.now) [] l.fn.detector
      → (seen : Option Files) → MaySee (g.H.Host.contents l.host) (g.H.Host.agrees l.host) seen
      → IsUnderWay (plan_of matches l.context.plan.now) l.fn.reader (record { left = left_by (g.H.Host.left_of l.fn.host) seen; written = g.A.Sink.written l.fn.alerts })
      (record { reader = l.reader; room = l.room; detector = l.detector; streams = record { left = left_by (g.H.Host.left_of l.host) seen; written = g.A.Sink.written l.alerts } });
  ready : MayGoOn l.context.plan.now l.reader l.detector;
  shown : l.records.items ≡ [];
  quiet : g.H.Host.faults l.host ≡ g.H.Host.faults l.fn.host;
  quiet_alerts : g.A.Sink.faults l.alerts ≡ g.A.Sink.faults l.fn.alerts;
  host : OnlyRead g.H.Host l.fn.host l.host;
}

abbrev pub decreases-batches : goal.decreases-batches
decreases-batches g l = 4294967296 - number_of l.reader
