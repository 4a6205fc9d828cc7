-- The fixed front tells what follows it.
use Rattle.std.proofs.Common.{◌≡◌, ℕ, sym, ◌∙◌, arith}
use Rattle.std.proofs.lemmas.List.{length-take}
use Rattle.std.proofs.lemmas.Result.{err_from_is_err_and}
use Rattle.edge_io.specs.Files.{left_by}
use Rattle.pcapng_input.specs.declared.capture.NgFault.TheVariants as fault
use Rattle.pcapng_input.proofs.Blocks.Sizes.{front_short}
use Rattle.pcapng_input.proofs.Blocks.Reading.{known_unsized, known_less, known_refused, known_closing}
use Rattle.pcapng_input.proofs.step.read_known.Goals as goal

pub returns-then-not-sized-clause-shows : goal.returns-then-not-sized-clause-shows
returns-then-not-sized-clause-shows g c = λ seen may.
    rw c.bad_block.ensures (known_unsized c.args.walk.now c.args.walk.now c.args.block (left_by (g.H.Host.left_of c.args.host.now) seen) (sym c.is_sized-sized.ensures ∙ c.if-not-sized.true))

pub returns-in_err-read_piece-clause-shows : goal.returns-in_err-read_piece-clause-shows
returns-in_err-read_piece-clause-shows g c = λ seen may.
    let p = err_from_is_err_and c.from_residual.result c.from_residual.ensures.1 in
    rw (p.1, p.2)
    (known_less c.args.walk.now c.args.walk.now c.args.block _ c.in_err-read_piece.field-0.0
    (left_by (g.H.Host.left_of c.args.host.now) seen)
    (left_by (g.H.Host.left_of c.read_piece.new.host) seen)
    (sym c.is_sized-sized.ensures ∙ c.if-not-sized.false)
    (c.in_err-read_piece.ensures.partial seen may)
    (omega (arith, length-take {A = ℕ}, c.front_length.ensures, front_short c.args.block.kind)))

pub returns-in_err-told-clause-shows : goal.returns-in_err-told-clause-shows
returns-in_err-told-clause-shows g c = λ seen may.
    let p = err_from_is_err_and c.from_residual-in_err-told.result c.from_residual-in_err-told.ensures.1 in
    rw (p.1, p.2)
    (known_refused c.args.walk.now c.args.walk.now c.args.block c.read_piece.new.piece c.in_err-told.field-0.0
    (left_by (g.H.Host.left_of c.args.host.now) seen)
    (left_by (g.H.Host.left_of c.read_piece.new.host) seen)
    (sym c.is_sized-sized.ensures ∙ c.if-not-sized.false)
    (omega (arith, length-take {A = ℕ}, c.front_length.ensures, front_short c.args.block.kind))
    (sym c.in_err-told.ensures.told)
    (c.in_ok-read_piece.ensures.whole seen may))

pub returns-clause-shows : goal.returns-clause-shows
returns-clause-shows g c = λ seen may.
    known_closing c.args.walk.now c.read_closing.new.walk c.args.block c.read_piece.new.piece c.in_ok-told.told
    c.read_closing.result (left_by (g.H.Host.left_of c.args.host.now) seen)
    (left_by (g.H.Host.left_of c.read_piece.new.host) seen)
    (left_by (g.H.Host.left_of c.read_closing.new.host) seen)
    (sym c.is_sized-sized.ensures ∙ c.if-not-sized.false)
    (omega (arith, length-take {A = ℕ}, c.front_length.ensures, front_short c.args.block.kind))
    (sym c.in_ok-told.ensures.told)
    (c.in_ok-read_piece.ensures.whole seen (c.read_closing.ensures.only_read.earlier seen may))
    (c.read_closing.ensures.shows seen may)

pub returns-in_err-told-clause-failed : goal.returns-in_err-told-clause-failed
returns-in_err-told-clause-failed g c =
    let p = err_from_is_err_and c.from_residual-in_err-told.result c.from_residual-in_err-told.ensures.1 in
    rw (p.1, p.2) (λ failed. let same : c.in_err-told.field-0.0 ≡ fault.Failed = cc in absurd (c.in_err-told.ensures.unfailed (cc)))
