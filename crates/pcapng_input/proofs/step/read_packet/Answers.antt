-- A packet's captured bytes come first, and the rest of its block is passed over.
use Rattle.std.proofs.Common.{◌+◌, ◌-◌, ◌++◌, false, true, arith}
use Rattle.std.proofs.lemmas.Result.{err_from_is_err_and}
use Rattle.edge_io.specs.Files.{left_by}
use Rattle.pcapng_input.specs.declared.content.BlockContent.TheVariants as content
use Rattle.pcapng_input.specs.Blocks.{inner_length}
use Rattle.pcapng_input.proofs.Blocks.Taking.{last_same, less_after}
use Rattle.pcapng_input.proofs.Blocks.Closing.{whole, closing_less, closing_differs, closing_packet}
use Rattle.pcapng_input.proofs.step.read_packet.Goals as goal

pub returns-in_err-bytes-clause-shows : goal.returns-in_err-bytes-clause-shows
returns-in_err-bytes-clause-shows g c = λ seen may.
    let p = err_from_is_err_and c.from_residual.result c.from_residual.ensures.1 in
    rw (p.1, p.2)
    (closing_less c.args.walk.now c.args.walk.now c.args.block (content.Packet c.args.packet) c.args.packet.captured
    c.in_err-bytes.field-0.0 (left_by (g.H.Host.left_of c.args.host.now) seen)
    (left_by (g.H.Host.left_of c.read_bytes.new.host) seen)
    (omega (arith, c.requires.fits)) (c.in_err-bytes.ensures.partial seen may))

pub returns-in_err-closed-clause-shows : goal.returns-in_err-closed-clause-shows
returns-in_err-closed-clause-shows g c = λ seen may.
    let p = err_from_is_err_and c.from_residual-in_err-closed.result c.from_residual-in_err-closed.ensures.1 in
    let read = (c.in_ok-bytes.ensures.whole seen (c.in_err-closed.ensures.only_read.earlier seen may)) in
    rw (p.1, p.2)
    (closing_less c.args.walk.now c.args.walk.now c.args.block (content.Packet c.args.packet) (inner_length c.args.block + 4)
    c.in_err-closed.field-0.0 (left_by (g.H.Host.left_of c.args.host.now) seen)
    (left_by (g.H.Host.left_of c.is_closed.new.host) seen)
    (omega arith)
    (less_after c.args.walk.now.at _ (inner_length c.args.block + 4) c.in_err-closed.field-0.0 c.in_ok-bytes.bytes.items
    (left_by (g.H.Host.left_of c.args.host.now) seen)
    (left_by (g.H.Host.left_of c.read_bytes.new.host) seen)
    (left_by (g.H.Host.left_of c.is_closed.new.host) seen)
    read.1 (c.in_err-closed.ensures.partial seen may) (omega (arith, read.0, c.inner.ensures, c.requires.fits))))

pub returns-then-not-closed-clause-shows : goal.returns-then-not-closed-clause-shows
returns-then-not-closed-clause-shows g c = λ seen may.
    let read = (c.in_ok-bytes.ensures.whole seen (c.in_ok-closed.ensures.only_read.earlier seen may)) in
    let last = last_same _ _ _ _ false _ _ c.if-not-closed.true (c.in_ok-closed.ensures.whole seen may) in
    rw c.bad_block.ensures
    (closing_differs c.args.walk.now c.args.walk.now c.args.block (content.Packet c.args.packet)
    (c.in_ok-bytes.bytes.items ++ last.passed)
    (left_by (g.H.Host.left_of c.args.host.now) seen)
    (left_by (g.H.Host.left_of c.is_closed.new.host) seen)
    (whole c.args.walk.now c.args.block (content.Packet c.args.packet) false (c.inner.result - c.args.packet.captured)
    c.in_ok-bytes.bytes.items
    (left_by (g.H.Host.left_of c.args.host.now) seen)
    (left_by (g.H.Host.left_of c.read_bytes.new.host) seen)
    (left_by (g.H.Host.left_of c.is_closed.new.host) seen)
    read.1 (omega (arith, read.0, c.inner.ensures, c.requires.fits)) last))

pub returns-clause-shows : goal.returns-clause-shows
returns-clause-shows g c = λ seen may.
    let read = (c.in_ok-bytes.ensures.whole seen (c.in_ok-closed.ensures.only_read.earlier seen may)) in
    let last = last_same _ _ _ _ true _ _ c.if-not-closed.false (c.in_ok-closed.ensures.whole seen may) in
    rw (c.from.ensures, c.from_vec.ensures)
    (closing_packet c.args.walk.now c.args.block c.args.packet c.in_ok-bytes.bytes.items last.passed
    (left_by (g.H.Host.left_of c.args.host.now) seen)
    (left_by (g.H.Host.left_of c.is_closed.new.host) seen)
    read.0
    (whole c.args.walk.now c.args.block (content.Packet c.args.packet) true (c.inner.result - c.args.packet.captured)
    c.in_ok-bytes.bytes.items
    (left_by (g.H.Host.left_of c.args.host.now) seen)
    (left_by (g.H.Host.left_of c.read_bytes.new.host) seen)
    (left_by (g.H.Host.left_of c.is_closed.new.host) seen)
    read.1 (omega (arith, read.0, c.inner.ensures, c.requires.fits)) last))
