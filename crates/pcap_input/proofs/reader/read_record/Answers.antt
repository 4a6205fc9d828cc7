-- What the bytes of a header, or fewer, say of the record that comes next.
use Rattle.std.proofs.Common.{◌≡◌, length, take, sym, ap, ◌∙◌, arith}
use Rattle.std.proofs.lemmas.List.{length-take-le, take_all}
use Rattle.std.proofs.lemmas.Result.{err_from_is_err_and}
use Rattle.edge_io.specs.Told.{before}
use Rattle.edge_io.specs.Files.{left_by}
use Rattle.pcap_input.proofs.Laws.{next_of_too_many, next_of_truncated, next_of_few}
use Rattle.pcap_input.proofs.Pieces.Steps.{with_header, fewer_with_header, gives_with_header, refuses_with_header, none_gives, too_many_gives, truncated_gives}
use Rattle.pcap_input.proofs.Told.{none_same}
use Rattle.pcap_input.proofs.reader.read_record.Goals as goal

pub returns-in_default-clause-partial : goal.returns-in_default-clause-partial
returns-in_default-clause-partial g c = λ seen may.
    let size : length (take c.in_default.field-0.done c.fill.new.buf) ≡ c.in_default.field-0.done =
    length-take-le c.in_default.field-0.done c.fill.new.buf (omega (arith, c.in_default.ensures.short)) in
    record {
      taken = take c.in_default.field-0.done c.fill.new.buf;
      took = (c.in_default.ensures.seen_stopped seen may);
      shows =
          next_of_few c.args.head c.args.number c.args.at (take c.in_default.field-0.done c.fill.new.buf)
          (omega (arith, c.in_default.ensures.short));
    }

pub returns-then-count-eq0-clause-ended : goal.returns-then-count-eq0-clause-ended
returns-then-count-eq0-clause-ended g c = λ seen may.
    sym (none_same (left_by (g.H.Host.left_of c.args.host.now) seen)
    (left_by (g.H.Host.left_of c.fill.new.host) seen)
    c.fill.new.buf c.in-Ok.count c.if-count-eq0.true (c.in-Ok.ensures.seen_taken seen may))

pub returns-then-count-eq0-clause-gives : goal.returns-then-count-eq0-clause-gives
returns-then-count-eq0-clause-gives g c = λ seen may.
    none_gives c.args.head c.args.number c.args.at (left_by (g.H.Host.left_of c.args.host.now) seen)
    (left_by (g.H.Host.left_of c.fill.new.host) seen)
    (none_same (left_by (g.H.Host.left_of c.args.host.now) seen)
    (left_by (g.H.Host.left_of c.fill.new.host) seen)
    c.fill.new.buf c.in-Ok.count c.if-count-eq0.true (c.in-Ok.ensures.seen_taken seen may))
    ((c.in-Ok.ensures.seen_ended seen may) (omega arith))

pub returns-then-number-eq4294967295-clause-gives : goal.returns-then-number-eq4294967295-clause-gives
returns-then-number-eq4294967295-clause-gives g c = λ seen may.
    let size : length (take c.in-Ok.count c.fill.new.buf) ≡ c.in-Ok.count = length-take-le c.in-Ok.count c.fill.new.buf (omega (arith, c.in-Ok.ensures.within)) in
    too_many_gives c.args.head c.args.number c.args.at (take c.in-Ok.count c.fill.new.buf) (left_by (g.H.Host.left_of c.args.host.now) seen) (left_by (g.H.Host.left_of c.fill.new.host) seen)
    (omega arith) (omega arith) (c.in-Ok.ensures.seen_taken seen may)

pub returns-then-number-eq4294967295-clause-partial : goal.returns-then-number-eq4294967295-clause-partial
returns-then-number-eq4294967295-clause-partial g c = λ seen may.
    let size : length (take c.in-Ok.count c.fill.new.buf) ≡ c.in-Ok.count = length-take-le c.in-Ok.count c.fill.new.buf (omega (arith, c.in-Ok.ensures.within)) in
    record {
      taken = take c.in-Ok.count c.fill.new.buf;
      took = (c.in-Ok.ensures.seen_taken seen may);
      shows = next_of_too_many c.args.head c.args.number c.args.at (take c.in-Ok.count c.fill.new.buf) (omega arith) (omega arith);
    }

pub returns-then-count-lt-RECORD_HEADER-clause-gives : goal.returns-then-count-lt-RECORD_HEADER-clause-gives
returns-then-count-lt-RECORD_HEADER-clause-gives g c = λ seen may.
    let size : length (take c.in-Ok.count c.fill.new.buf) ≡ c.in-Ok.count = length-take-le c.in-Ok.count c.fill.new.buf (omega (arith, c.in-Ok.ensures.within)) in
    truncated_gives c.args.head c.args.number c.args.at (take c.in-Ok.count c.fill.new.buf) (left_by (g.H.Host.left_of c.args.host.now) seen) (left_by (g.H.Host.left_of c.fill.new.host) seen)
    (omega arith) (omega arith) (omega arith) (c.in-Ok.ensures.seen_taken seen may) ((c.in-Ok.ensures.seen_ended seen may) (omega arith))

pub returns-then-count-lt-RECORD_HEADER-clause-partial : goal.returns-then-count-lt-RECORD_HEADER-clause-partial
returns-then-count-lt-RECORD_HEADER-clause-partial g c = λ seen may.
    let size : length (take c.in-Ok.count c.fill.new.buf) ≡ c.in-Ok.count = length-take-le c.in-Ok.count c.fill.new.buf (omega (arith, c.in-Ok.ensures.within)) in
    record {
      taken = take c.in-Ok.count c.fill.new.buf;
      took = (c.in-Ok.ensures.seen_taken seen may);
      shows = next_of_truncated c.args.head c.args.number c.args.at (take c.in-Ok.count c.fill.new.buf) (omega arith) (omega arith) (omega arith);
    }

pub returns-in_err-given-clause-gives : goal.returns-in_err-given-clause-gives
returns-in_err-given-clause-gives g c = λ seen may.
    let p = err_from_is_err_and c.from_residual.result c.from_residual.ensures.1 in
    let took =
    (c.in-Ok.ensures.seen_taken seen (c.in_err-given.ensures.only_read.earlier seen may))
    ∙ ap (λ header. before header (left_by (g.H.Host.left_of c.fill.new.host) seen))
    (take_all c.in-Ok.count c.fill.new.buf (omega (arith, c.in-Ok.ensures.within))) in
    rw (p.1, p.2)
    (refuses_with_header c.args.head c.args.number c.args.at c.fill.new.buf c.in_err-given.field-0.0
    (left_by (g.H.Host.left_of c.args.host.now) seen)
    (left_by (g.H.Host.left_of c.fill.new.host) seen)
    (omega arith) (omega arith) took (c.in_err-given.ensures.gives seen may))

pub returns-in_err-given-clause-partial : goal.returns-in_err-given-clause-partial
returns-in_err-given-clause-partial g c = λ seen may.
    let p = err_from_is_err_and c.from_residual.result c.from_residual.ensures.1 in
    let took =
    (c.in-Ok.ensures.seen_taken seen (c.in_err-given.ensures.only_read.earlier seen may))
    ∙ ap (λ header. before header (left_by (g.H.Host.left_of c.fill.new.host) seen))
    (take_all c.in-Ok.count c.fill.new.buf (omega (arith, c.in-Ok.ensures.within))) in
    rw (p.1, p.2)
    (fewer_with_header c.args.head c.args.number c.args.at c.fill.new.buf c.in_err-given.field-0.0
    (left_by (g.H.Host.left_of c.args.host.now) seen)
    (left_by (g.H.Host.left_of c.fill.new.host) seen)
    (left_by (g.H.Host.left_of c.read_after.new.host) seen)
    (omega arith) (omega arith) took (c.in_err-given.ensures.partial seen may))

pub returns-clause-gives : goal.returns-clause-gives
returns-clause-gives g c = λ seen may.
    let took =
    (c.in-Ok.ensures.seen_taken seen (c.in_ok-given.ensures.only_read.earlier seen may))
    ∙ ap (λ header. before header (left_by (g.H.Host.left_of c.fill.new.host) seen))
    (take_all c.in-Ok.count c.fill.new.buf (omega (arith, c.in-Ok.ensures.within))) in
    gives_with_header c.args.head c.args.number c.args.at c.fill.new.buf c.in_ok-given.given
    (left_by (g.H.Host.left_of c.args.host.now) seen)
    (left_by (g.H.Host.left_of c.fill.new.host) seen)
    (omega arith) (omega arith) took (c.in_ok-given.ensures.gives seen may)

pub returns-clause-takes : goal.returns-clause-takes
returns-clause-takes g c = λ seen may.
    let took =
    (c.in-Ok.ensures.seen_taken seen (c.in_ok-given.ensures.only_read.earlier seen may))
    ∙ ap (λ header. before header (left_by (g.H.Host.left_of c.fill.new.host) seen))
    (take_all c.in-Ok.count c.fill.new.buf (omega (arith, c.in-Ok.ensures.within))) in
    with_header c.args.head c.args.number c.args.at c.fill.new.buf c.in_ok-given.given
    (left_by (g.H.Host.left_of c.args.host.now) seen)
    (left_by (g.H.Host.left_of c.fill.new.host) seen)
    (left_by (g.H.Host.left_of c.read_after.new.host) seen)
    (omega arith) (omega arith) took (c.in_ok-given.ensures.takes seen may)
