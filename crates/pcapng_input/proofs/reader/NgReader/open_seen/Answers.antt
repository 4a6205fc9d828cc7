-- What was opened is what the name holds, and its first block is what was read.
use Rattle.std.proofs.Common.{inl}
use Rattle.std.proofs.lemmas.Result.{err_from_is_err_and}
use Rattle.edge_io.specs.Files.{left_by}
use Rattle.edge_io.proofs.Hosts.Seeing.{seen_opened}
use Rattle.pcapng_input.proofs.Blocks.Heads.{ok_opens, ok_takes, err_opens, err_takes}
use Rattle.pcapng_input.proofs.reader.NgReader.open_seen.Goals as goal

pub returns-in_err-read_first-clause-gives : goal.returns-in_err-read_first-clause-gives
returns-in_err-read_first-clause-gives g c = λ seen may bytes tells.
    let p = err_from_is_err_and c.from_residual-in_err-read_first.result c.from_residual-in_err-read_first.ensures.1 in
    rw (p.1, p.2)
    (err_opens seen c.args.name.now bytes c.read_first.new.walk c.in_err-read_first.field-0.0
    (left_by (g.H.Host.left_of c.open.new.self) seen)
    (left_by (g.H.Host.left_of c.read_first.new.host) seen)
    (c.in_err-read_first.ensures.shows seen may)
    (seen_opened (g.H.Host.contents c.open.new.self) (g.H.Host.agrees c.open.new.self) c.args.name.now
    (g.H.Host.left_of c.open.new.self) seen (c.in_err-read_first.ensures.only_read.earlier seen may)
    c.in_ok-open.ensures.agreed)
    tells)

pub returns-in_err-read_first-clause-takes : goal.returns-in_err-read_first-clause-takes
returns-in_err-read_first-clause-takes g c = λ seen may.
    let p = err_from_is_err_and c.from_residual-in_err-read_first.result c.from_residual-in_err-read_first.ensures.1 in
    rw (p.1, p.2)
    (inl (err_takes seen c.args.name.now c.read_first.new.walk c.in_err-read_first.field-0.0
    (left_by (g.H.Host.left_of c.open.new.self) seen)
    (left_by (g.H.Host.left_of c.read_first.new.host) seen)
    (c.in_err-read_first.ensures.shows seen may)
    (seen_opened (g.H.Host.contents c.open.new.self) (g.H.Host.agrees c.open.new.self) c.args.name.now
    (g.H.Host.left_of c.open.new.self) seen (c.in_err-read_first.ensures.only_read.earlier seen may)
    c.in_ok-open.ensures.agreed)))

pub returns-clause-gives : goal.returns-clause-gives
returns-clause-gives g c = λ seen may bytes tells.
    ok_opens seen c.args.name.now bytes c.read_first.new.walk c.in_ok-read_first.field-0
    (left_by (g.H.Host.left_of c.open.new.self) seen)
    (left_by (g.H.Host.left_of c.read_first.new.host) seen)
    c.in_ok-read_first.ensures.kinds (c.in_ok-read_first.ensures.shows seen may)
    (seen_opened (g.H.Host.contents c.open.new.self) (g.H.Host.agrees c.open.new.self) c.args.name.now
    (g.H.Host.left_of c.open.new.self) seen (c.in_ok-read_first.ensures.only_read.earlier seen may)
    c.in_ok-open.ensures.agreed)
    tells

pub returns-clause-takes : goal.returns-clause-takes
returns-clause-takes g c = λ seen may.
    inl (ok_takes seen c.args.name.now c.read_first.new.walk c.in_ok-read_first.field-0
    (left_by (g.H.Host.left_of c.open.new.self) seen)
    (left_by (g.H.Host.left_of c.read_first.new.host) seen)
    c.in_ok-read_first.ensures.kinds (c.in_ok-read_first.ensures.shows seen may)
    (seen_opened (g.H.Host.contents c.open.new.self) (g.H.Host.agrees c.open.new.self) c.args.name.now
    (g.H.Host.left_of c.open.new.self) seen (c.in_ok-read_first.ensures.only_read.earlier seen may)
    c.in_ok-open.ensures.agreed))
