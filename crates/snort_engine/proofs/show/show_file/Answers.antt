-- A reader that opened a file is at its first record, so that what `show_opened` shows is what a capture of the file's bytes
-- shows; a file that wasn't opened stops the run, for its cause.
use Rattle.std.proofs.Common.{Some, Err, refl, sym, ap, inl, arith}
use Rattle.std.proofs.lemmas.Result.{err_from_is_err_and}
use Rattle.edge_io.specs.Told.{Rose}
use Rattle.snort_engine.specs.declared.reader.RecordReader.{RecordReader}
use Rattle.snort_engine.specs.Steps.Showing.{plan_of}
use Rattle.snort_engine.proofs.Prefixes.{opened_read, rose_since}
use Rattle.snort_engine.proofs.Showing.Captures.{open_stops, capture_ends}
use Rattle.snort_engine.proofs.Records.Opening.{opens_later}
use Rattle.snort_engine.proofs.Headline.Quiet.{caused_fault, caused_since}
use Rattle.snort_engine.proofs.Headline.Seeing.{cause_by}
use Rattle.snort_engine.proofs.show.show_file.Goals as goal

pub show_opened-requires-clause-readable : goal.show_opened-requires-clause-readable
show_opened-requires-clause-readable g c κs within =
    let none = c.in_ok-reader.ensures.fresh.1 in
    record { fresh = c.in_ok-reader.ensures.fresh.0; within = omega (arith, none) }

pub returns-in_err-reader-clause-ends : goal.returns-in_err-reader-clause-ends
returns-in_err-reader-clause-ends g c = λ matches test files course agree goes.
    let named = sym c.requires.named in
    let p = err_from_is_err_and c.from_residual.result c.from_residual.ensures.1 in
    let opens = rw named at (c.in_err-reader.ensures.opens files agree) in
    let host = c.open.new.host in
    let law = g.met.H.Host.as_told host in
    let rose = Rose (g.H.Host.faults c.args.host.now) (g.H.Host.faults host) in
    rw named
    (open_stops (plan_of matches c.args.context.now.plan.now) files course
    c.in_err-reader.field-0.0 _ _ _ c.from_residual.result p.0 c.requires.none p.1 p.2
    goes refl opens
    (λ is. rw named at
    (cause_by g.H.Host c.args.host.now host c.args.name.now rose (Some files) law c.in_err-reader.ensures.host.files agree
    (c.in_err-reader.ensures.failed (ap Err is)))))

pub returns-clause-ends : goal.returns-clause-ends
returns-clause-ends g c = λ matches test files course agree goes.
    let named = sym c.requires.named in
    let opens = rw named at (c.in_ok-reader.ensures.opens files (c.show_opened.ensures.host.earlier (Some files) agree)) in
    let shows = c.show_opened.ensures.shows matches test (Some files) agree in
    rw named (capture_ends (plan_of matches c.args.context.now.plan.now) files course c.in_ok-reader.reader _ _ _ _ _ c.show_opened.result
    goes opens shows (c.show_opened.ensures.close matches test (Some files) agree)
    (λ rose. rose_since _ _ _ c.in_ok-reader.ensures.host.later rose)
    (λ is. rose_since _ _ _ c.in_ok-reader.ensures.host.later (c.show_opened.ensures.causes.read_fault is)))

pub returns-clause-opened : goal.returns-clause-opened
returns-clause-opened g c = λ seen may.
    rw c.show_opened.ensures.host.opens (opens_later seen c.args.name.now (g.H.Host.faults c.args.host.now) _ _ (g.H.Host.opens c.args.host.now) _
    c.show_opened.ensures.host.later (c.in_ok-reader.ensures.opened seen (c.show_opened.ensures.host.earlier seen may)))

pub returns-clause-host : goal.returns-clause-host
returns-clause-host g c = opened_read g.H.Host _ _ _ c.in_ok-reader.ensures.host c.show_opened.ensures.host

pub returns-in_err-reader-clause-causes : goal.returns-in_err-reader-clause-causes
returns-in_err-reader-clause-causes g c =
    let p = err_from_is_err_and c.from_residual.result c.from_residual.ensures.1 in
    rw (p.1, p.2) (caused_fault RecordReader _ _ _ c.in_err-reader.field-0.0 c.in_err-reader.ensures.failed c.in_err-reader.ensures.quiet refl)

pub returns-clause-causes : goal.returns-clause-causes
returns-clause-causes g c =
    caused_since _ _ _ _ _ _ c.show_opened.ensures.causes
    (λ rose. inl (rose_since _ _ _ c.in_ok-reader.ensures.host.later rose)) (c.in_ok-reader.ensures.quiet (λ failed. cc)) refl
