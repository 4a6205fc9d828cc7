-- A batch has the next records, as many as there is room for unless the capture ends; they are shown, or a part of their
-- lines where memory is lacking or a write fails; after a full one the reader is further on.
use Rattle.std.proofs.Common.{◌≡◌, ◌≤◌, ℕ, Err, length, vec_len, sym, ap, subst, ◌∙◌, arith}
use Rattle.std.proofs.lemmas.Result.{err_from_is_err_and}
use Rattle.edge_io.specs.Files.{left_by}
use Rattle.edge_io.specs.Told.{Rose}
use Rattle.pcap_input.specs.Savefile.{most_records}
use Rattle.alert_lines.specs.declared.fault.WriteFault.{WriteFault}
use Rattle.snort_engine.specs.declared.reader.RecordReader.{RecordReader}
use Rattle.snort_engine.specs.Steps.Reader.{number_of}
use Rattle.snort_engine.specs.Steps.Showing.{plan_of, most_at, room_after, MayGoFurther, Point}
use Rattle.snort_engine.proofs.Records.Batches.{more_reached, showing_cuts, within_batch}
use Rattle.snort_engine.proofs.Headline.Quiet.{caused_reached, caused_unwritten}
use Rattle.snort_engine.proofs.Showing.Shown.{nothing_left, batch_lacks, batch_shown, batch_stops, part_shown}
use Rattle.snort_engine.proofs.show.show_next_batch.Goals as goal

pub read_batch-reached-requires-clause-fresh : goal.read_batch-reached-requires-clause-fresh
read_batch-reached-requires-clause-fresh g c = c.requires.ready.readable.fresh

pub room_after-requires : goal.room_after-requires
room_after-requires g c = omega (arith, c.len.ensures, c.read_batch-reached.ensures.filled.few, c.most_at-most.ensures, c.read_batch-reached.new.records.ok.0)

pub show_some-requires-clause-known : goal.show_some-requires-clause-known
show_some-requires-clause-known g c κs within = c.requires.ready.known

pub show_some-requires-clause-few : goal.show_some-requires-clause-few
show_some-requires-clause-few g c κs within =
    let ready = c.requires.ready in
    let few =
    within_batch c.args.detector.now.front.counts.records (number_of c.args.reader.now) (vec_len c.read_batch-reached.new.records)
    most_records ready.after ready.readable.within c.read_batch-reached.ensures.within in
    omega (arith, few, c.read_batch-reached.new.records.ok.0)

pub show_records-requires-clause-known : goal.show_records-requires-clause-known
show_records-requires-clause-known g c κs within = c.requires.ready.known

pub show_records-requires-clause-few : goal.show_records-requires-clause-few
show_records-requires-clause-few g c κs within =
    let ready = c.requires.ready in
    let few =
    within_batch c.args.detector.now.front.counts.records (number_of c.args.reader.now) (vec_len c.read_batch-reached.new.records)
    most_records ready.after ready.readable.within c.read_batch-reached.ensures.within in
    omega (arith, few, c.read_batch-reached.new.records.ok.0)

pub returns-then-most-eq0-clause-goes_on : goal.returns-then-most-eq0-clause-goes_on
returns-then-most-eq0-clause-goes_on g c = λ matches test seen may.
    let none : most_at c.args.room.now ≡ 0 = omega (arith, c.most_at-most.ensures, c.if-most-eq0.true) in
    nothing_left (plan_of matches c.args.context.now.plan.now) _ _ none

pub returns-then-lacks_memory-clause-goes_on : goal.returns-then-lacks_memory-clause-goes_on
returns-then-lacks_memory-clause-goes_on g c = λ matches test seen may.
    let few : length c.read_batch-reached.new.records.items ≤ most_at c.args.room.now =
    omega (arith, c.read_batch-reached.ensures.filled.few, c.most_at-most.ensures, c.read_batch-reached.new.records.ok.0) in
    let old : Point = record {
      reader = c.args.reader.now;
      room = c.args.room.now;
      detector = c.args.detector.now;
      streams = record { left = left_by (g.H.Host.left_of c.args.host.now) seen; written = g.A.Sink.written c.args.alerts.now };
    } in
    let new : Point = record {
      reader = c.read_batch-reached.new.reader;
      room = c.room_after.result;
      detector = c.show_some.new.detector;
      streams = record {
        left = left_by (g.H.Host.left_of c.read_batch-reached.new.host) seen;
        written = g.A.Sink.written c.show_some.new.alerts;
      };
    } in
    batch_lacks (plan_of matches c.args.context.now.plan.now)
    c.read_batch-reached.new.records.items old new _ c.read_batch-reached.result few
    (c.read_batch-reached.ensures.reads seen may)
    (c.show_some.ensures.part matches test)

pub returns-in_err-show_records-clause-goes_on : goal.returns-in_err-show_records-clause-goes_on
returns-in_err-show_records-clause-goes_on g c = λ matches test seen may.
    let p = err_from_is_err_and c.from_residual.result c.from_residual.ensures.1 in
    let few : length c.read_batch-reached.new.records.items ≤ most_at c.args.room.now =
    omega (arith, c.read_batch-reached.ensures.filled.few, c.most_at-most.ensures, c.read_batch-reached.new.records.ok.0) in
    let stopped =
    part_shown (plan_of matches c.args.context.now.plan.now)
    c.read_batch-reached.new.records.items _ _ _ _ _ _ (Err c.in_err-show_records.field-0.0)
    (c.in_err-show_records.ensures.shown matches test) in
    let old : Point = record {
      reader = c.args.reader.now;
      room = c.args.room.now;
      detector = c.args.detector.now;
      streams = record { left = left_by (g.H.Host.left_of c.args.host.now) seen; written = g.A.Sink.written c.args.alerts.now };
    } in
    let new : Point = record {
      reader = c.read_batch-reached.new.reader;
      room = c.room_after.result;
      detector = c.show_records.new.detector;
      streams = record {
        left = left_by (g.H.Host.left_of c.read_batch-reached.new.host) seen;
        written = g.A.Sink.written c.show_records.new.alerts;
      };
    } in
    rw (p.1, p.2)
    (batch_stops (plan_of matches c.args.context.now.plan.now)
    c.read_batch-reached.new.records.items old new
    (Rose (g.H.Host.faults c.args.host.now) (g.H.Host.faults c.read_batch-reached.new.host))
    c.read_batch-reached.result c.in_err-show_records.field-0.0
    few
    (λ more. omega
    (arith, c.read_batch-reached.ensures.filled.full more, c.most_at-most.ensures, c.read_batch-reached.new.records.ok.0))
    (λ other. omega
    (arith, c.read_batch-reached.ensures.filled.fewer other, c.most_at-most.ensures, c.read_batch-reached.new.records.ok.0))
    c.read_batch-reached.ensures.reason.failed (sym c.lacks_memory.ensures ∙ c.if-lacks_memory.false)
    (c.read_batch-reached.ensures.reads seen may) stopped)

pub returns-clause-goes_on : goal.returns-clause-goes_on
returns-clause-goes_on g c = λ matches test seen may.
    let few : length c.read_batch-reached.new.records.items ≤ most_at c.args.room.now =
    omega (arith, c.read_batch-reached.ensures.filled.few, c.most_at-most.ensures, c.read_batch-reached.new.records.ok.0) in
    let shown = c.in_ok-show_records.ensures.shown matches test in
    let old : Point = record {
      reader = c.args.reader.now;
      room = c.args.room.now;
      detector = c.args.detector.now;
      streams = record { left = left_by (g.H.Host.left_of c.args.host.now) seen; written = g.A.Sink.written c.args.alerts.now };
    } in
    let new : Point = record {
      reader = c.read_batch-reached.new.reader;
      room = c.room_after.result;
      detector = c.show_records.new.detector;
      streams = record {
        left = left_by (g.H.Host.left_of c.read_batch-reached.new.host) seen;
        written = g.A.Sink.written c.show_records.new.alerts;
      };
    } in
    let count : c.len.result ≡ length c.read_batch-reached.new.records.items =
    omega (arith, c.len.ensures, c.read_batch-reached.new.records.ok.0) in
    let room_is : c.room_after.result ≡ room_after c.args.room.now (length c.read_batch-reached.new.records.items) =
    c.room_after.ensures ∙ ap (λ (n : ℕ). room_after c.args.room.now n) count in
    rw (c.more.ensures, c.give_back.ensures.same)
    (batch_shown (plan_of matches c.args.context.now.plan.now)
    c.read_batch-reached.new.records.items old new _ c.read_batch-reached.result _ _ _
    few room_is
    (λ more. omega
    (arith, c.read_batch-reached.ensures.filled.full more, c.most_at-most.ensures, c.read_batch-reached.new.records.ok.0))
    (λ other. omega
    (arith, c.read_batch-reached.ensures.filled.fewer other, c.most_at-most.ensures, c.read_batch-reached.new.records.ok.0))
    (c.read_batch-reached.ensures.reads seen may) shown)

-- nothing was read: the detector may be closed
pub returns-then-most-eq0-clause-further : goal.returns-then-most-eq0-clause-further
returns-then-most-eq0-clause-further g c = λ on. absurd cc

pub returns-then-most-eq0-clause-closable : goal.returns-then-most-eq0-clause-closable
returns-then-most-eq0-clause-closable g c = λ whole.
    let ready = c.requires.ready in
    let within = ready.readable.within in
    let after = ready.after in
    record { known = ready.known; few = omega (arith, within, after) }

-- it was cut short
pub returns-then-lacks_memory-clause-further : goal.returns-then-lacks_memory-clause-further
returns-then-lacks_memory-clause-further g c = λ on. absurd cc

pub returns-then-lacks_memory-clause-closable : goal.returns-then-lacks_memory-clause-closable
returns-then-lacks_memory-clause-closable g c = λ whole. absurd cc

pub returns-in_err-show_records-clause-further : goal.returns-in_err-show_records-clause-further
returns-in_err-show_records-clause-further g c = λ on.
    let p = err_from_is_err_and c.from_residual.result c.from_residual.ensures.1 in
    absurd (cc (p.1, on))

pub returns-in_err-show_records-clause-closable : goal.returns-in_err-show_records-clause-closable
returns-in_err-show_records-clause-closable g c =
    let p = err_from_is_err_and c.from_residual.result c.from_residual.ensures.1 in
    rw (p.1, p.2) (λ whole. absurd (showing_cuts c.in_err-show_records.field-0.0 whole))

-- the reader gave the records of the batch, and the detector was given them
pub returns-clause-further : goal.returns-clause-further
returns-clause-further g c = λ on.
    let reached = more_reached c.read_batch-reached.result (sym c.more.ensures ∙ on) in
    let gone = c.read_batch-reached.ensures.goes_on reached in
    let number = gone.number in
    let full = c.read_batch-reached.ensures.filled.full reached in
    let before = c.requires.ready.after in
    let further : MayGoFurther c.args.context.now.plan.now c.args.reader.now c.read_batch-reached.new.reader c.show_records.new.detector = record {
      further = omega (arith, number, full, c.if-most-eq0.false);
      ready = record {
        readable = gone.readable;
        known = c.in_ok-show_records.ensures.known;
        after = omega (arith, number, before, c.in_ok-show_records.ensures.records, c.read_batch-reached.new.records.ok.0);
      };
    } in
    subst (λ (reader : RecordReader). MayGoFurther c.args.context.now.plan.now c.args.reader.now reader c.show_records.new.detector) (sym c.give_back.ensures.same) further

pub returns-clause-closable : goal.returns-clause-closable
returns-clause-closable g c = λ whole.
    let ready = c.requires.ready in
    let few =
    within_batch c.args.detector.now.front.counts.records (number_of c.args.reader.now) (vec_len c.read_batch-reached.new.records)
    most_records ready.after ready.readable.within c.read_batch-reached.ensures.within in
    record {
      known = c.in_ok-show_records.ensures.known;
      few = omega (arith, few, c.in_ok-show_records.ensures.records, c.read_batch-reached.new.records.ok.0);
    }

-- a fault is told, or one of writing, or want of memory in its place
pub returns-in_err-show_records-clause-causes : goal.returns-in_err-show_records-clause-causes
returns-in_err-show_records-clause-causes g c =
    let p = err_from_is_err_and c.from_residual.result c.from_residual.ensures.1 in
    rw (p.1, p.2) (caused_unwritten _ _ _ c.in_err-show_records.field-0.0
    (λ is. c.in_err-show_records.ensures.ends.fault (ap (λ (why : WriteFault). Err why) is)) c.in_err-show_records.ensures.ends.later)

pub returns-clause-causes : goal.returns-clause-causes
returns-clause-causes g c =
    rw c.more.ensures (caused_reached _ _ _ c.read_batch-reached.result c.read_batch-reached.ensures.reason.failed c.read_batch-reached.ensures.reason.quiet c.in_ok-show_records.ensures.ends.quiet)
