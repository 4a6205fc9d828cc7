-- One record more adds its jobs, and its place once for each of them, so that the jobs and the places stay of one length; in
-- the end all records are taken.
use Rattle.std.proofs.Common.{◌≡◌, length, refl, take, arith}
use Rattle.std.proofs.lemmas.List.{take_all}
use Rattle.record_jobs.specs.Way.{way_of}
use Rattle.snort_engine.proofs.Lines.Detecting.{makes_none, makes_step}
use Rattle.snort_engine.proofs.Lines.Sourcing.{places_more, places_none}
use Rattle.snort_engine.proofs.detect.make_jobs.Goals as goal

pub loop-record-init : goal.loop-record-init
loop-record-init c = record {
  makes = rw c.new-jobs.ensures.items (makes_none (way_of c.args.by.now) c.args.front.now);
  places = rw c.new-places.ensures.items (places_none (way_of c.args.by.now) c.args.front.now);
  each = rw (c.new-jobs.ensures.items, c.new-places.ensures.items) refl;
  at = refl;
  count = omega arith;
}

pub loop-record-preserved : goal.loop-record-preserved
loop-record-preserved c = record {
  makes =
      makes_step (way_of c.args.by.now) c.args.records.now c.loop-record.record-index c.record-item.result c.args.front.now _ _ _
      _ c.loop-record-test.true c.record-item.is
      c.loop-record.invariant.makes (rw (c.link.ensures, c.captured.ensures) at c.in_ok-jobs.ensures.takes);
  places =
      rw (c.in_ok-resize.ensures.items, c.loop-record.invariant.at)
      (places_more (way_of c.args.by.now) c.args.records.now c.loop-record.record-index c.record-item.result c.args.front.now _ _
      _ _ c.loop-record.places.items c.len.result c.loop-record.places.len c.loop-record-test.true c.record-item.is
      c.loop-record.invariant.makes (rw (c.link.ensures, c.captured.ensures) at c.in_ok-jobs.ensures.takes)
      c.loop-record.invariant.places c.loop-record.invariant.each
      (let all : c.len.result ≡ length c.jobs.new.out.items = omega (arith, c.len.ensures, c.jobs.new.out.ok.0) in all)
      (let sized : c.loop-record.places.len ≡
      length c.loop-record.places.items = omega (arith, c.loop-record.places.ok.0) in sized));
  each = omega (arith, c.in_ok-resize.ensures.len, c.resize.new.self.ok.0, c.len.ensures, c.jobs.new.out.ok.0);
  at = omega (arith, c.loop-record.invariant.at);
  count = omega (arith, c.in_ok-jobs.ensures.records, c.loop-record.invariant.count);
}

pub returns-clause-makes : goal.returns-clause-makes
returns-clause-makes c =
    let all : take c.loop-record.record-index c.args.records.now ≡ c.args.records.now = take_all c.loop-record.record-index c.args.records.now (omega arith) in
    rw all at c.loop-record.invariant.makes

pub returns-clause-places : goal.returns-clause-places
returns-clause-places c =
    let all : take c.loop-record.record-index c.args.records.now ≡ c.args.records.now = take_all c.loop-record.record-index c.args.records.now (omega arith) in
    rw all at c.loop-record.invariant.places
