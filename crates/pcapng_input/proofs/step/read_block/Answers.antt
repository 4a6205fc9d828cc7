-- The first eight bytes, or fewer.
use Rattle.std.proofs.Common.{◌≡◌, length, take, sym, ap, ◌∙◌, arith}
use Rattle.std.proofs.lemmas.List.{length-take-le, take_all}
use Rattle.edge_io.specs.Files.{left_by}
use Rattle.edge_io.specs.Told.{before}
use Rattle.pcap_input.proofs.Told.{none_same}
use Rattle.pcapng_input.proofs.Blocks.Begins.{room_has}
use Rattle.pcapng_input.proofs.Blocks.Reading.{step_failed, step_ended, step_too_many, step_short, step_on}
use Rattle.pcapng_input.proofs.step.read_block.Goals as goal

pub returns-in_default-clause-shows : goal.returns-in_default-clause-shows
returns-in_default-clause-shows g c = λ seen may.
    let size : length (take c.in_default.field-0.done c.fill.new.buf) ≡ c.in_default.field-0.done =
    length-take-le c.in_default.field-0.done c.fill.new.buf (omega (arith, c.in_default.ensures.short)) in
    step_failed c.args.walk.now c.args.walk.now (take c.in_default.field-0.done c.fill.new.buf)
    (left_by (g.H.Host.left_of c.args.host.now) seen)
    (left_by (g.H.Host.left_of c.fill.new.host) seen)
    (omega (arith, c.in_default.ensures.short))
    (c.in_default.ensures.seen_stopped seen may)

pub returns-then-count-eq0-clause-shows : goal.returns-then-count-eq0-clause-shows
returns-then-count-eq0-clause-shows g c = λ seen may.
    step_ended c.args.walk.now (left_by (g.H.Host.left_of c.args.host.now) seen) (left_by (g.H.Host.left_of c.fill.new.host) seen)
    (none_same (left_by (g.H.Host.left_of c.args.host.now) seen)
    (left_by (g.H.Host.left_of c.fill.new.host) seen)
    c.fill.new.buf c.in-Ok.count c.if-count-eq0.true (c.in-Ok.ensures.seen_taken seen may))
    ((c.in-Ok.ensures.seen_ended seen may) (omega arith))

pub returns-then-full-clause-shows : goal.returns-then-full-clause-shows
returns-then-full-clause-shows g c = λ seen may.
    let size : length (take c.in-Ok.count c.fill.new.buf) ≡ c.in-Ok.count = length-take-le c.in-Ok.count c.fill.new.buf (omega (arith, c.in-Ok.ensures.within)) in
    step_too_many c.args.walk.now c.args.walk.now (take c.in-Ok.count c.fill.new.buf) (left_by (g.H.Host.left_of c.args.host.now) seen) (left_by (g.H.Host.left_of c.fill.new.host) seen)
    (omega arith) (sym c.is_full-full.ensures ∙ c.if-full.true) (c.in-Ok.ensures.seen_taken seen may)

pub returns-then-count-lt8-clause-shows : goal.returns-then-count-lt8-clause-shows
returns-then-count-lt8-clause-shows g c = λ seen may.
    let size : length (take c.in-Ok.count c.fill.new.buf) ≡ c.in-Ok.count = length-take-le c.in-Ok.count c.fill.new.buf (omega (arith, c.in-Ok.ensures.within)) in
    step_short c.args.walk.now c.args.walk.now (take c.in-Ok.count c.fill.new.buf) (left_by (g.H.Host.left_of c.args.host.now) seen) (left_by (g.H.Host.left_of c.fill.new.host) seen)
    (omega arith) (omega arith) (sym c.is_full-full.ensures ∙ c.if-full.false) (c.in-Ok.ensures.seen_taken seen may) ((c.in-Ok.ensures.seen_ended seen may) (omega arith))

pub read_begun-requires-clause-room : goal.read_begun-requires-clause-room
read_begun-requires-clause-room g c = room_has c.args.walk.now (sym c.is_full-full.ensures ∙ c.if-full.false)

pub returns-clause-shows : goal.returns-clause-shows
returns-clause-shows g c = λ seen may.
    let took =
    (c.in-Ok.ensures.seen_taken seen (c.read_begun.ensures.only_read.earlier seen may))
    ∙ ap (λ first. before first (left_by (g.H.Host.left_of c.fill.new.host) seen))
    (take_all c.in-Ok.count c.fill.new.buf (omega (arith, c.in-Ok.ensures.within))) in
    step_on c.args.walk.now c.read_begun.new.walk c.fill.new.buf c.read_begun.result
    (left_by (g.H.Host.left_of c.args.host.now) seen)
    (left_by (g.H.Host.left_of c.fill.new.host) seen)
    (left_by (g.H.Host.left_of c.read_begun.new.host) seen)
    (omega arith) (sym c.is_full-full.ensures ∙ c.if-full.false) took (c.read_begun.ensures.shows seen may)
