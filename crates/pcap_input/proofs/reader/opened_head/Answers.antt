-- What the bytes of a file header, or fewer, say of the head.
use Rattle.std.proofs.Common.{◌≡◌, length, take, sym, ap, ◌∙◌, arith}
use Rattle.std.proofs.lemmas.List.{length-take-le, take_all}
use Rattle.edge_io.specs.Told.{before}
use Rattle.edge_io.specs.Files.{left_by}
use Rattle.pcap_input.proofs.Told.{all_taken}
use Rattle.pcap_input.proofs.Pieces.Heads.{head_of_truncated, head_of_kinds, head_of_not_failed, header_reads, header_leaves}
use Rattle.pcap_input.proofs.reader.opened_head.Goals as goal

pub returns-then-count-lt-FILE_HEADER-clause-gives : goal.returns-then-count-lt-FILE_HEADER-clause-gives
returns-then-count-lt-FILE_HEADER-clause-gives g c = λ seen may. λ bytes told.
    let size : length (take c.in-Ok.count c.fill.new.buf) ≡ c.in-Ok.count =
    length-take-le c.in-Ok.count c.fill.new.buf (omega (arith, c.in-Ok.ensures.within)) in
    let all =
    all_taken (left_by (g.H.Host.left_of c.args.host.now) seen)
    (left_by (g.H.Host.left_of c.fill.new.host) seen)
    (take c.in-Ok.count c.fill.new.buf) bytes (c.in-Ok.ensures.seen_taken seen may)
    ((c.in-Ok.ensures.seen_ended seen may) (omega arith)) told in
    head_of_truncated bytes (omega (arith, ap length all))

pub returns-then-count-lt-FILE_HEADER-clause-takes : goal.returns-then-count-lt-FILE_HEADER-clause-takes
returns-then-count-lt-FILE_HEADER-clause-takes g c = λ seen may.
    let size : length (take c.in-Ok.count c.fill.new.buf) ≡ c.in-Ok.count = length-take-le c.in-Ok.count c.fill.new.buf (omega (arith, c.in-Ok.ensures.within)) in
    record {
      taken = take c.in-Ok.count c.fill.new.buf;
      took = (c.in-Ok.ensures.seen_taken seen may);
      few = omega arith;
      answers = head_of_truncated (take c.in-Ok.count c.fill.new.buf) (omega arith);
    }

pub returns-clause-gives : goal.returns-clause-gives
returns-clause-gives g c = λ seen may.
    let took =
    (c.in-Ok.ensures.seen_taken seen may)
    ∙ ap (λ header. before header (left_by (g.H.Host.left_of c.fill.new.host) seen))
    (take_all c.in-Ok.count c.fill.new.buf (omega (arith, c.in-Ok.ensures.within))) in
    header_reads c.fill.new.buf c.read_head.result (left_by (g.H.Host.left_of c.args.host.now) seen)
    (left_by (g.H.Host.left_of c.fill.new.host) seen)
    (omega arith) c.read_head.ensures took

pub returns-clause-rest : goal.returns-clause-rest
returns-clause-rest g c = λ seen may.
    let took =
    (c.in-Ok.ensures.seen_taken seen may)
    ∙ ap (λ header. before header (left_by (g.H.Host.left_of c.fill.new.host) seen))
    (take_all c.in-Ok.count c.fill.new.buf (omega (arith, c.in-Ok.ensures.within))) in
    header_leaves c.fill.new.buf c.read_head.result (left_by (g.H.Host.left_of c.args.host.now) seen)
    (left_by (g.H.Host.left_of c.fill.new.host) seen)
    (omega arith) took

pub returns-clause-kinds : goal.returns-clause-kinds
returns-clause-kinds g c = rw c.read_head.ensures (head_of_kinds c.fill.new.buf)

pub returns-clause-failed : goal.returns-clause-failed
returns-clause-failed g c = λ failed. absurd (head_of_not_failed c.fill.new.buf (sym c.read_head.ensures ∙ failed))
