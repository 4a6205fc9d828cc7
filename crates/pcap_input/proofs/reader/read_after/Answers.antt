-- A header's record, whole, or cut short, or too long.
use Rattle.std.proofs.Common.{◌≡◌, ◌≤◌, length, refl, sym, ap, ◌∙◌, arith}
use Rattle.std.proofs.lemmas.Result.{err_from_is_err_and}
use Rattle.edge_io.specs.Told.{before}
use Rattle.edge_io.specs.Files.{left_by}
use Rattle.pcap_input.specs.Savefile.{captured_length}
use Rattle.pcap_input.proofs.Laws.{after_too_long}
use Rattle.pcap_input.proofs.Pieces.Steps.{too_long_fewer, less_gives, less_fewer, whole_gives, whole_takes, record_made}
use Rattle.pcap_input.proofs.reader.read_after.Goals as goal

pub returns-then-len-gt-LONGEST-clause-gives : goal.returns-then-len-gt-LONGEST-clause-gives
returns-then-len-gt-LONGEST-clause-gives g c = λ seen may. λ rest told.
    rw c.captured-len.ensures (after_too_long c.args.head c.args.number c.args.at c.args.header.now rest (omega arith))

pub returns-in_err-bytes-clause-gives : goal.returns-in_err-bytes-clause-gives
returns-in_err-bytes-clause-gives g c = λ seen may.
    let p = err_from_is_err_and c.from_residual.result c.from_residual.ensures.1 in
    rw (p.1, p.2)
    (less_gives c.args.head c.args.number c.args.at c.captured-len.result c.args.header.now c.in_err-bytes.field-0.0
    (left_by (g.H.Host.left_of c.args.host.now) seen)
    (left_by (g.H.Host.left_of c.read_bytes.new.host) seen)
    (sym c.captured-len.ensures) (omega arith) (c.in_err-bytes.ensures.partial seen may))

pub returns-clause-gives : goal.returns-clause-gives
returns-clause-gives g c = λ seen may.
    let made =
    record_made c.args.head c.args.number c.args.header.now c.from_vec.result c.moment.result c.original.result c.moment.ensures
    c.original.ensures in
    let fits : captured_length c.args.head c.args.header.now ≡ length c.from_vec.result =
    sym c.captured-len.ensures ∙ sym (c.in_ok-bytes.ensures.whole seen may).0 ∙ ap length (sym c.from_vec.ensures) in
    let short : length c.from_vec.result ≤ 262144 = omega (arith, fits, c.captured-len.ensures) in
    whole_gives c.args.head c.args.number c.args.at c.args.header.now c.from_vec.result _
    (left_by (g.H.Host.left_of c.args.host.now) seen)
    (left_by (g.H.Host.left_of c.read_bytes.new.host) seen) fits short made
    ((c.in_ok-bytes.ensures.whole seen may).1 ∙
    ap (λ bytes. before bytes (left_by (g.H.Host.left_of c.read_bytes.new.host) seen)) (sym c.from_vec.ensures))

pub returns-then-len-gt-LONGEST-clause-partial : goal.returns-then-len-gt-LONGEST-clause-partial
returns-then-len-gt-LONGEST-clause-partial g c = λ seen may.
    rw c.captured-len.ensures (too_long_fewer c.args.head c.args.number c.args.at c.args.header.now (left_by (g.H.Host.left_of c.args.host.now) seen) (omega arith))

pub returns-in_err-bytes-clause-partial : goal.returns-in_err-bytes-clause-partial
returns-in_err-bytes-clause-partial g c = λ seen may.
    let p = err_from_is_err_and c.from_residual.result c.from_residual.ensures.1 in
    rw (p.1, p.2)
    (less_fewer c.args.head c.args.number c.args.at c.captured-len.result c.args.header.now c.in_err-bytes.field-0.0
    (left_by (g.H.Host.left_of c.args.host.now) seen)
    (left_by (g.H.Host.left_of c.read_bytes.new.host) seen)
    (sym c.captured-len.ensures) (omega arith) (c.in_err-bytes.ensures.partial seen may))

pub returns-clause-takes : goal.returns-clause-takes
returns-clause-takes g c = λ seen may.
    let made =
    record_made c.args.head c.args.number c.args.header.now c.from_vec.result c.moment.result c.original.result c.moment.ensures
    c.original.ensures in
    let fits : captured_length c.args.head c.args.header.now ≡ length c.from_vec.result =
    sym c.captured-len.ensures ∙ sym (c.in_ok-bytes.ensures.whole seen may).0 ∙ ap length (sym c.from_vec.ensures) in
    let short : length c.from_vec.result ≤ 262144 = omega (arith, fits, c.captured-len.ensures) in
    whole_takes c.args.head c.args.number c.args.at c.args.header.now c.from_vec.result _
    (left_by (g.H.Host.left_of c.args.host.now) seen)
    (left_by (g.H.Host.left_of c.read_bytes.new.host) seen) fits short made refl
    ((c.in_ok-bytes.ensures.whole seen may).1 ∙
    ap (λ bytes. before bytes (left_by (g.H.Host.left_of c.read_bytes.new.host) seen)) (sym c.from_vec.ensures))
