-- The first twelve bytes, or fewer.
use Rattle.std.proofs.Common.{◌≡◌, ℕ, length, take, refl, sym, ap, ◌∙◌, arith}
use Rattle.std.proofs.lemmas.List.{length-take-le, take_all}
use Rattle.std.proofs.lemmas.Result.{err_from_is_err_and}
use Rattle.edge_io.specs.Files.{left_by}
use Rattle.edge_io.proofs.Hosts.Seeing.{told_seen}
use Rattle.edge_io.specs.Told.{before}
use Rattle.pcapng_input.proofs.Blocks.Heads.{less_kind, known_kind}
use Rattle.pcapng_input.proofs.Blocks.Reading.{first_failed, first_short, first_other, first_cut, first_less, first_none, first_on, known_at}
use Rattle.pcapng_input.specs.declared.block.BlockKind.TheVariants as kind
use Rattle.pcapng_input.specs.declared.block.Block.{Block}
use Rattle.pcapng_input.specs.declared.walk.Walk.{Walk}
use Rattle.pcapng_input.specs.Blocks.{first_walk, new_section, section_block}
use Rattle.pcapng_input.proofs.Blocks.Begins.{number_front}
use Rattle.pcapng_input.proofs.reader.read_first.Goals as goal

pub returns-in_default-clause-shows : goal.returns-in_default-clause-shows
returns-in_default-clause-shows g c = λ seen may.
    let size : length (take c.in_default.field-0.done c.fill.new.buf) ≡ c.in_default.field-0.done =
    length-take-le c.in_default.field-0.done c.fill.new.buf (omega (arith, c.in_default.ensures.short)) in
    first_failed c.args.walk.now (take c.in_default.field-0.done c.fill.new.buf)
    (left_by (g.H.Host.left_of c.args.host.now) seen)
    (left_by (g.H.Host.left_of c.fill.new.host) seen)
    (omega (arith, c.in_default.ensures.short))
    (c.in_default.ensures.seen_stopped seen may)

pub returns-then-count-lt-TYPE-clause-shows : goal.returns-then-count-lt-TYPE-clause-shows
returns-then-count-lt-TYPE-clause-shows g c = λ seen may.
    let size : length (take c.in-Ok.count c.fill.new.buf) ≡ c.in-Ok.count =
    length-take-le c.in-Ok.count c.fill.new.buf (omega (arith, c.in-Ok.ensures.within)) in
    first_short c.args.walk.now (take c.in-Ok.count c.fill.new.buf) (left_by (g.H.Host.left_of c.args.host.now) seen)
    (left_by (g.H.Host.left_of c.fill.new.host) seen)
    (omega arith) (c.in-Ok.ensures.seen_taken seen may)
    ((c.in-Ok.ensures.seen_ended seen may) (omega arith))

pub returns-then-kind-ne-SECTION-clause-shows : goal.returns-then-kind-ne-SECTION-clause-shows
returns-then-kind-ne-SECTION-clause-shows g c = λ seen may.
    let size : length (take c.in-Ok.count c.fill.new.buf) ≡ c.in-Ok.count = length-take-le c.in-Ok.count c.fill.new.buf (omega (arith, c.in-Ok.ensures.within)) in
    first_other c.args.walk.now (take c.in-Ok.count c.fill.new.buf) (left_by (g.H.Host.left_of c.args.host.now) seen) (left_by (g.H.Host.left_of c.fill.new.host) seen) (omega arith)
    (λ same. c.if-kind-ne-SECTION.true (c.u32_at-kind.ensures ∙ sym (number_front c.in-Ok.count c.fill.new.buf (omega arith)) ∙ same)) (c.in-Ok.ensures.seen_taken seen may)

pub returns-then-count-lt8-clause-shows : goal.returns-then-count-lt8-clause-shows
returns-then-count-lt8-clause-shows g c = λ seen may.
    let size : length (take c.in-Ok.count c.fill.new.buf) ≡ c.in-Ok.count =
    length-take-le c.in-Ok.count c.fill.new.buf (omega (arith, c.in-Ok.ensures.within)) in
    first_cut c.args.walk.now (take c.in-Ok.count c.fill.new.buf) (left_by (g.H.Host.left_of c.args.host.now) seen)
    (left_by (g.H.Host.left_of c.fill.new.host) seen)
    (omega arith)
    (number_front c.in-Ok.count c.fill.new.buf (omega arith) ∙ sym c.u32_at-kind.ensures ∙ c.if-kind-ne-SECTION.false)
    (omega arith) (c.in-Ok.ensures.seen_taken seen may)
    ((c.in-Ok.ensures.seen_ended seen may) (omega arith))

pub returns-in_err-read_piece-clause-shows : goal.returns-in_err-read_piece-clause-shows
returns-in_err-read_piece-clause-shows g c = λ seen may.
    let p = err_from_is_err_and c.from_residual.result c.from_residual.ensures.1 in
    let took =
    (c.in-Ok.ensures.seen_taken seen (c.in_err-read_piece.ensures.only_read.earlier seen may))
    ∙ ap (λ first. before first (left_by (g.H.Host.left_of c.fill.new.host) seen))
    (take_all c.in-Ok.count c.fill.new.buf (omega (arith, c.in-Ok.ensures.within))) in
    rw (p.1, p.2)
    (first_less c.args.walk.now c.fill.new.buf c.in_err-read_piece.field-0.0 (left_by (g.H.Host.left_of c.args.host.now) seen)
    (left_by (g.H.Host.left_of c.fill.new.host) seen)
    (left_by (g.H.Host.left_of c.read_piece.new.host) seen)
    (omega arith) (sym c.u32_at-kind.ensures ∙ c.if-kind-ne-SECTION.false) took (c.in_err-read_piece.ensures.partial seen may))

pub returns-in_err-read_piece-clause-kinds : goal.returns-in_err-read_piece-clause-kinds
returns-in_err-read_piece-clause-kinds g c =
    let p = err_from_is_err_and c.from_residual.result c.from_residual.ensures.1 in
    let host = c.read_piece.new.host in
    let may =
    told_seen (g.H.Host.contents host) (g.H.Host.left host) (g.H.Host.agrees host) (g.H.Host.left_of host)
    (g.met.H.Host.as_told host) in
    rw (p.1, p.2)
    (less_kind 4 c.in_err-read_piece.field-0.0 (left_by (g.H.Host.left_of c.fill.new.host) (g.H.Host.contents host))
    (left_by (g.H.Host.left_of host) (g.H.Host.contents host))
    (c.in_err-read_piece.ensures.partial (g.H.Host.contents host) may))

pub returns-in-None-clause-shows : goal.returns-in-None-clause-shows
returns-in-None-clause-shows g c = λ seen may.
    let took =
    (c.in-Ok.ensures.seen_taken seen (c.in_ok-read_piece.ensures.only_read.earlier seen may))
    ∙ ap (λ first. before first (left_by (g.H.Host.left_of c.fill.new.host) seen))
    (take_all c.in-Ok.count c.fill.new.buf (omega (arith, c.in-Ok.ensures.within))) in
    first_none c.args.walk.now c.fill.new.buf c.read_piece.new.piece (left_by (g.H.Host.left_of c.args.host.now) seen)
    (left_by (g.H.Host.left_of c.fill.new.host) seen)
    (left_by (g.H.Host.left_of c.read_piece.new.host) seen)
    (omega arith) (sym c.u32_at-kind.ensures ∙ c.if-kind-ne-SECTION.false)
    (omega arith) (sym c.in-None.ensures) took
    (c.in_ok-read_piece.ensures.whole seen may)

pub returns-in-Some-clause-shows : goal.returns-in-Some-clause-shows
returns-in-Some-clause-shows g c = λ seen may.
    let took =
    (c.in-Ok.ensures.seen_taken seen
    (c.in_ok-read_piece.ensures.only_read.earlier seen (c.read_known.ensures.only_read.earlier seen may)))
    ∙ ap (λ first. before first (left_by (g.H.Host.left_of c.fill.new.host) seen))
    (take_all c.in-Ok.count c.fill.new.buf (omega (arith, c.in-Ok.ensures.within))) in
    let made : ℕ → Block = λ n. record { kind = kind.Section; total = n } in
    first_on c.read_known.new.walk c.fill.new.buf c.read_piece.new.piece c.in-Some.swapped c.read_known.result
    (left_by (g.H.Host.left_of c.args.host.now) seen)
    (left_by (g.H.Host.left_of c.fill.new.host) seen)
    (left_by (g.H.Host.left_of c.read_piece.new.host) seen)
    (left_by (g.H.Host.left_of c.read_known.new.host) seen)
    (omega arith) (sym c.u32_at-kind.ensures ∙ c.if-kind-ne-SECTION.false)
    (omega arith) (sym c.in-Some.ensures) took
    (c.in_ok-read_piece.ensures.whole seen (c.read_known.ensures.only_read.earlier seen may))
    (known_at c.begin_section.new.self (new_section first_walk c.in-Some.swapped)
    c.read_known.new.walk (made c.u32_at.result)
    (section_block c.in-Some.swapped c.fill.new.buf)
    c.read_known.result
    (left_by (g.H.Host.left_of c.read_piece.new.host) seen)
    (left_by (g.H.Host.left_of c.read_known.new.host) seen)
    (c.begin_section.ensures ∙ ap (λ (w : Walk). new_section w c.in-Some.swapped) c.requires)
    (ap made c.u32_at.ensures) (c.read_known.ensures.shows seen may))

pub returns-in-Some-clause-kinds : goal.returns-in-Some-clause-kinds
returns-in-Some-clause-kinds g c =
    let host = c.read_known.new.host in
    let may =
    told_seen (g.H.Host.contents host) (g.H.Host.left host) (g.H.Host.agrees host) (g.H.Host.left_of host)
    (g.met.H.Host.as_told host) in
    let made : ℕ → Block = λ n. record { kind = kind.Section; total = n } in
    known_kind (new_section first_walk c.in-Some.swapped)
    c.read_known.new.walk c.in-Some.swapped c.fill.new.buf c.read_known.result
    (left_by (g.H.Host.left_of c.read_piece.new.host) (g.H.Host.contents host))
    (left_by (g.H.Host.left_of host) (g.H.Host.contents host)) refl
    (known_at c.begin_section.new.self (new_section first_walk c.in-Some.swapped)
    c.read_known.new.walk (made c.u32_at.result)
    (section_block c.in-Some.swapped c.fill.new.buf)
    c.read_known.result
    (left_by (g.H.Host.left_of c.read_piece.new.host) (g.H.Host.contents host))
    (left_by (g.H.Host.left_of host) (g.H.Host.contents host))
    (c.begin_section.ensures ∙ ap (λ (w : Walk). new_section w c.in-Some.swapped) c.requires)
    (ap made c.u32_at.ensures)
    (c.read_known.ensures.shows (g.H.Host.contents host) may))
