-- The magic tells the order of the section.
use Rattle.std.proofs.Common.{sym, arith}
use Rattle.std.proofs.lemmas.Result.{err_from_is_err_and}
use Rattle.edge_io.specs.Files.{left_by}
use Rattle.pcapng_input.proofs.Blocks.Reading.{section_less, section_refused, section_on}
use Rattle.pcapng_input.proofs.step.read_section.Goals as goal

pub returns-in_err-read_piece-clause-shows : goal.returns-in_err-read_piece-clause-shows
returns-in_err-read_piece-clause-shows g c = λ seen may.
    let p = err_from_is_err_and c.from_residual.result c.from_residual.ensures.1 in
    rw (p.1, p.2)
    (section_less c.args.walk.now c.args.walk.now c.args.first.now c.in_err-read_piece.field-0.0
    (left_by (g.H.Host.left_of c.args.host.now) seen)
    (left_by (g.H.Host.left_of c.read_piece.new.host) seen)
    (c.in_err-read_piece.ensures.partial seen may))

pub returns-in-None-clause-shows : goal.returns-in-None-clause-shows
returns-in-None-clause-shows g c = λ seen may.
    rw c.bad_block.ensures
    (section_refused c.args.walk.now c.args.walk.now c.args.first.now c.read_piece.new.piece
    (left_by (g.H.Host.left_of c.args.host.now) seen)
    (left_by (g.H.Host.left_of c.read_piece.new.host) seen)
    (omega arith) (sym c.in-None.ensures) (c.in_ok-read_piece.ensures.whole seen may))

pub returns-in-Some-clause-shows : goal.returns-in-Some-clause-shows
returns-in-Some-clause-shows g c = λ seen may.
    let shown = (c.read_known.ensures.shows seen may) in
    section_on c.args.walk.now c.read_known.new.walk c.args.first.now c.read_piece.new.piece c.in-Some.swapped c.read_known.result
    (left_by (g.H.Host.left_of c.args.host.now) seen)
    (left_by (g.H.Host.left_of c.read_piece.new.host) seen)
    (left_by (g.H.Host.left_of c.read_known.new.host) seen)
    (omega arith) (sym c.in-Some.ensures)
    (c.in_ok-read_piece.ensures.whole seen (c.read_known.ensures.only_read.earlier seen may))
    (rw (← c.begin_section.ensures, ← c.u32_at.ensures) shown)
