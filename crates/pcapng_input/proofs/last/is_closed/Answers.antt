-- The last four bytes lie after those that were passed over.
use Rattle.std.proofs.Common.{◌+◌, arith}
use Rattle.std.proofs.lemmas.Result.{err_from_is_err_and}
use Rattle.edge_io.specs.Files.{left_by}
use Rattle.pcapng_input.proofs.Blocks.Taking.{less_after, last_after}
use Rattle.pcapng_input.proofs.last.is_closed.Goals as goal

pub returns-in_err-read_piece-clause-partial : goal.returns-in_err-read_piece-clause-partial
returns-in_err-read_piece-clause-partial g c = λ seen may.
    let p = err_from_is_err_and c.from_residual-in_err-read_piece.result c.from_residual-in_err-read_piece.ensures.1 in
    rw (p.1, p.2)
    (less_after c.args.at 4 (c.args.count + 4) c.in_err-read_piece.field-0.0
    (c.in_ok-skip.ensures.whole seen (c.in_err-read_piece.ensures.only_read.earlier seen may)).taken
    (left_by (g.H.Host.left_of c.args.host.now) seen)
    (left_by (g.H.Host.left_of c.skip.new.host) seen)
    (left_by (g.H.Host.left_of c.read_piece.new.host) seen)
    (c.in_ok-skip.ensures.whole seen (c.in_err-read_piece.ensures.only_read.earlier seen may)).took
    (c.in_err-read_piece.ensures.partial seen may)
    (omega (arith, (c.in_ok-skip.ensures.whole seen (c.in_err-read_piece.ensures.only_read.earlier seen may)).size)))

pub returns-clause-whole : goal.returns-clause-whole
returns-clause-whole g c = λ seen may.
    last_after c.args.swapped c.args.total c.args.count c.u32_at.result c.read_piece.new.piece
    (left_by (g.H.Host.left_of c.args.host.now) seen)
    (left_by (g.H.Host.left_of c.skip.new.host) seen)
    (left_by (g.H.Host.left_of c.read_piece.new.host) seen)
    (c.in_ok-skip.ensures.whole seen (c.in_ok-read_piece.ensures.only_read.earlier seen may))
    (c.in_ok-read_piece.ensures.whole seen may)
    (omega arith) c.u32_at.ensures
