-- What was opened is what the name holds.
use Rattle.std.proofs.Common.{ap, inl, Ok, Err}
use Rattle.std.proofs.lemmas.Result.{err_from_is_err_and}
use Rattle.edge_io.specs.Files.{left_by}
use Rattle.edge_io.proofs.Hosts.Seeing.{seen_opened}
use Rattle.pcap_input.specs.Reader.{reader_of}
use Rattle.pcap_input.specs.Savefile.{head_of}
use Rattle.pcap_input.proofs.Pieces.Heads.{tells_opened}
use Rattle.pcap_input.proofs.Pieces.Opened.{opens_from, takes_from}
use Rattle.pcap_input.proofs.reader.CaptureReader.open_seen.Goals as goal

pub returns-clause-gives : goal.returns-clause-gives
returns-clause-gives g c = λ seen may. λ bytes tells.
    let opened =
    tells_opened seen c.args.name.now bytes (left_by (g.H.Host.left_of c.open.new.self) seen) tells
    (seen_opened (g.H.Host.contents c.open.new.self) (g.H.Host.agrees c.open.new.self) c.args.name.now
    (g.H.Host.left_of c.open.new.self) seen (c.in_ok-head.ensures.only_read.earlier seen may)
    c.in_ok-open.ensures.agreed) in
    rw c.resume.ensures (ap reader_of ((c.in_ok-head.ensures.gives seen may) bytes opened))

pub returns-clause-rest : goal.returns-clause-rest
returns-clause-rest g c = λ seen may. λ bytes tells.
    let opened =
    tells_opened seen c.args.name.now bytes (left_by (g.H.Host.left_of c.open.new.self) seen) tells
    (seen_opened (g.H.Host.contents c.open.new.self) (g.H.Host.agrees c.open.new.self) c.args.name.now
    (g.H.Host.left_of c.open.new.self) seen (c.in_ok-head.ensures.only_read.earlier seen may)
    c.in_ok-open.ensures.agreed) in
    (c.in_ok-head.ensures.rest seen may) bytes opened

pub returns-in_err-head-clause-gives : goal.returns-in_err-head-clause-gives
returns-in_err-head-clause-gives g c = λ seen may. λ bytes tells.
    let p = err_from_is_err_and c.from_residual-in_err-head.result c.from_residual-in_err-head.ensures.1 in
    let opened =
    tells_opened seen c.args.name.now bytes (left_by (g.H.Host.left_of c.open.new.self) seen) tells
    (seen_opened (g.H.Host.contents c.open.new.self) (g.H.Host.agrees c.open.new.self) c.args.name.now
    (g.H.Host.left_of c.open.new.self) seen (c.in_err-head.ensures.only_read.earlier seen may)
    c.in_ok-open.ensures.agreed) in
    rw (p.1, p.2) (opens_from (Err c.in_err-head.field-0.0) (head_of bytes) ((c.in_err-head.ensures.gives seen may) bytes opened))

pub returns-in_err-head-clause-takes : goal.returns-in_err-head-clause-takes
returns-in_err-head-clause-takes g c = λ seen may.
    let p = err_from_is_err_and c.from_residual-in_err-head.result c.from_residual-in_err-head.ensures.1 in
    let opened =
    seen_opened (g.H.Host.contents c.open.new.self) (g.H.Host.agrees c.open.new.self) c.args.name.now
    (g.H.Host.left_of c.open.new.self) seen (c.in_err-head.ensures.only_read.earlier seen may)
    c.in_ok-open.ensures.agreed in
    inl (rw (p.1, p.2)
    (takes_from seen c.args.name.now (left_by (g.H.Host.left_of c.open.new.self) seen) _
    (Err c.in_err-head.field-0.0) opened (c.in_err-head.ensures.takes seen may)))

pub returns-clause-takes : goal.returns-clause-takes
returns-clause-takes g c = λ seen may.
    let opened =
    seen_opened (g.H.Host.contents c.open.new.self) (g.H.Host.agrees c.open.new.self) c.args.name.now
    (g.H.Host.left_of c.open.new.self) seen (c.in_ok-head.ensures.only_read.earlier seen may)
    c.in_ok-open.ensures.agreed in
    inl (rw c.resume.ensures
    (takes_from seen c.args.name.now (left_by (g.H.Host.left_of c.open.new.self) seen) _
    (Ok c.in_ok-head.head) opened (c.in_ok-head.ensures.takes seen may)))
