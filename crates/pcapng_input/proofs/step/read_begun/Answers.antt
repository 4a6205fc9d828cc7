-- A section header, or another block.
use Rattle.std.proofs.Common.{sym, ◌∙◌}
use Rattle.edge_io.specs.Files.{left_by}
use Rattle.pcapng_input.proofs.Blocks.Reading.{begun_on_section, begun_on_other}
use Rattle.pcapng_input.proofs.step.read_begun.Goals as goal

pub returns-then-kind-eq-SECTION-clause-shows : goal.returns-then-kind-eq-SECTION-clause-shows
returns-then-kind-eq-SECTION-clause-shows g c = λ seen may.
    begun_on_section c.args.walk.now c.read_section.new.walk c.args.first.now c.read_section.result
    (left_by (g.H.Host.left_of c.args.host.now) seen)
    (left_by (g.H.Host.left_of c.read_section.new.host) seen)
    (sym c.u32_at-kind.ensures ∙ c.if-kind-eq-SECTION.true) (c.read_section.ensures.shows seen may)

pub returns-clause-shows : goal.returns-clause-shows
returns-clause-shows g c = λ seen may.
    let shown = (c.read_known.ensures.shows seen may) in
    begun_on_other c.args.walk.now c.read_known.new.walk c.args.first.now c.read_known.result (left_by (g.H.Host.left_of c.args.host.now) seen) (left_by (g.H.Host.left_of c.read_known.new.host) seen)
    (λ same. c.if-kind-eq-SECTION.false (c.u32_at-kind.ensures ∙ same)) (rw (← c.u32_at.ensures, ← c.of.ensures, ← c.u32_at-2.ensures) shown)
