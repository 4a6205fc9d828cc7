-- Reading went on from where the batch began, by as many records as the batch has.
use Rattle.std.proofs.Common.{◌≡◌, ◌+◌, ◌-◌, ◌<◌, ◌≤◌, [], Option, vec_len}
use Rattle.edge_io.specs.Files.{Files, MaySee, left_by}
use Rattle.pcap_input.specs.Savefile.{most_records}
use Rattle.snort_engine.specs.Steps.Reader.{IsFresh, number_of}
use Rattle.snort_engine.specs.Steps.Batch.{ReadsOn}
use Rattle.edge_io.specs.Frames.{OnlyRead}
use Rattle.snort_engine.specs.declared.batch.BatchEnd.TheVariants.{More}
use Rattle.snort_engine.proofs.batch.read_batch.Given as goal

abbrev pub invariant-batch : goal.invariant-batch
invariant-batch g l = record {
  reads : (seen : Option Files)
      → MaySee (g.H.Host.contents l.host) (g.H.Host.agrees l.host) seen
      → ReadsOn (record { reader = l.fn.reader; records = []; left = left_by (g.H.Host.left_of l.fn.host) seen })
      (record { reader = l.reader; records = l.records.items; left = left_by (g.H.Host.left_of l.host) seen }) More;
  fresh : IsFresh l.reader;
  few : vec_len l.records ≤ l.most;
  number : number_of l.reader ≡ number_of l.fn.reader + vec_len l.records;
  within : 0 < vec_len l.records → number_of l.reader ≤ most_records;
  same : g.H.Host.faults l.host ≡ g.H.Host.faults l.fn.host;
  host : OnlyRead g.H.Host l.fn.host l.host;
}

abbrev pub decreases-batch : goal.decreases-batch
decreases-batch g l = l.most - vec_len l.records
