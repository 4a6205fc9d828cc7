-- The inner bytes of an interface are its options.
use Rattle.std.proofs.Common.{◌≡◌, ◌+◌, Some, None, false, true, sym, ap, ◌∙◌, arith}
use Rattle.std.proofs.lemmas.Result.{err_from_is_err_and}
use Rattle.edge_io.specs.Files.{left_by}
use Rattle.pcapng_input.specs.declared.content.BlockContent.TheVariants as content
use Rattle.pcapng_input.specs.Blocks.{inner_length, after_interface}
use Rattle.pcapng_input.specs.Options.{resolution_told}
use Rattle.pcapng_input.proofs.Blocks.Taking.{last_same, less_after}
use Rattle.pcapng_input.proofs.Blocks.Closing.{closing_less, closing_differs, closing_refused, closing_skipped, closing_lacking, given-interface, given-no_resolution}
use Rattle.pcapng_input.proofs.Blocks.Reading.{whole_front}
use Rattle.pcapng_input.proofs.step.read_interface.Goals as goal

pub returns-in_err-options-clause-shows : goal.returns-in_err-options-clause-shows
returns-in_err-options-clause-shows g c = λ seen may.
    let p = err_from_is_err_and c.from_residual.result c.from_residual.ensures.1 in
    rw (p.1, p.2)
    (closing_less c.args.walk.now c.args.walk.now c.args.block (content.Interface c.args.link c.args.snaplen)
    c.inner.result c.in_err-options.field-0.0
    (left_by (g.H.Host.left_of c.args.host.now) seen)
    (left_by (g.H.Host.left_of c.read_bytes.new.host) seen)
    (omega (arith, c.inner.ensures)) (c.in_err-options.ensures.partial seen may))

pub returns-in_err-closed-clause-shows : goal.returns-in_err-closed-clause-shows
returns-in_err-closed-clause-shows g c = λ seen may.
    let p = err_from_is_err_and c.from_residual-in_err-closed.result c.from_residual-in_err-closed.ensures.1 in
    let whole = (c.in_ok-options.ensures.whole seen (c.in_err-closed.ensures.only_read.earlier seen may)) in
    rw (p.1, p.2)
    (closing_less c.args.walk.now c.args.walk.now c.args.block (content.Interface c.args.link c.args.snaplen)
    (inner_length c.args.block + 4) c.in_err-closed.field-0.0
    (left_by (g.H.Host.left_of c.args.host.now) seen)
    (left_by (g.H.Host.left_of c.is_closed.new.host) seen)
    (omega arith)
    (less_after c.args.walk.now.at 4 (inner_length c.args.block + 4) c.in_err-closed.field-0.0 c.in_ok-options.options.items
    (left_by (g.H.Host.left_of c.args.host.now) seen)
    (left_by (g.H.Host.left_of c.read_bytes.new.host) seen)
    (left_by (g.H.Host.left_of c.is_closed.new.host) seen)
    whole.1 (c.in_err-closed.ensures.partial seen may) (omega (arith, whole.0, c.inner.ensures))))

pub returns-then-not-closed-clause-shows : goal.returns-then-not-closed-clause-shows
returns-then-not-closed-clause-shows g c = λ seen may.
    let whole = (c.in_ok-options.ensures.whole seen (c.in_ok-closed.ensures.only_read.earlier seen may)) in
    let last = last_same _ _ _ _ false _ _ c.if-not-closed.true (c.in_ok-closed.ensures.whole seen may) in
    rw c.bad_block.ensures
    (closing_differs c.args.walk.now c.args.walk.now c.args.block (content.Interface c.args.link c.args.snaplen)
    c.in_ok-options.options.items
    (left_by (g.H.Host.left_of c.args.host.now) seen)
    (left_by (g.H.Host.left_of c.is_closed.new.host) seen)
    (whole_front c.args.walk.now c.args.block (content.Interface c.args.link c.args.snaplen) false
    c.in_ok-options.options.items
    (left_by (g.H.Host.left_of c.args.host.now) seen)
    (left_by (g.H.Host.left_of c.read_bytes.new.host) seen)
    (left_by (g.H.Host.left_of c.is_closed.new.host) seen)
    whole.1 (omega (arith, whole.0, c.inner.ensures)) last))

pub returns-in-None-clause-shows : goal.returns-in-None-clause-shows
returns-in-None-clause-shows g c = λ seen may.
    let whole = (c.in_ok-options.ensures.whole seen (c.in_ok-closed.ensures.only_read.earlier seen may)) in
    let last = last_same _ _ _ _ true _ _ c.if-not-closed.false (c.in_ok-closed.ensures.whole seen may) in
    let none : resolution_told c.args.walk.now.section.swapped c.in_ok-options.options.items ≡ None =
    ap (resolution_told c.args.walk.now.section.swapped) (sym c.as_slice.ensures.value) ∙ sym c.in-None.ensures in
    rw c.bad_block-in-None.ensures
    (closing_refused c.args.walk.now c.args.walk.now c.args.block (content.Interface c.args.link c.args.snaplen)
    c.in_ok-options.options.items _
    (left_by (g.H.Host.left_of c.args.host.now) seen)
    (left_by (g.H.Host.left_of c.is_closed.new.host) seen)
    (whole_front c.args.walk.now c.args.block (content.Interface c.args.link c.args.snaplen) true
    c.in_ok-options.options.items
    (left_by (g.H.Host.left_of c.args.host.now) seen)
    (left_by (g.H.Host.left_of c.read_bytes.new.host) seen)
    (left_by (g.H.Host.left_of c.is_closed.new.host) seen)
    whole.1 (omega (arith, whole.0, c.inner.ensures)) last)
    (λ more. given-no_resolution c.args.walk.now c.args.block c.args.link c.args.snaplen c.in_ok-options.options.items more none))

pub returns-in_err-push-in-Some-clause-shows : goal.returns-in_err-push-in-Some-clause-shows
returns-in_err-push-in-Some-clause-shows g c = λ seen may.
    let p = err_from_is_err_and c.from_residual-in_err-push-in-Some.result c.from_residual-in_err-push-in-Some.ensures.1 in
    let whole = (c.in_ok-options.ensures.whole seen (c.in_ok-closed.ensures.only_read.earlier seen may)) in
    let last = last_same _ _ _ _ true _ _ c.if-not-closed.false (c.in_ok-closed.ensures.whole seen may) in
    let some : resolution_told c.args.walk.now.section.swapped c.in_ok-options.options.items ≡ Some c.in-Some.resolution =
    ap (resolution_told c.args.walk.now.section.swapped) (sym c.as_slice.ensures.value) ∙ sym c.in-Some.ensures in
    rw (p.1, p.2)
    (closing_lacking c.args.walk.now _ _ c.args.block (content.Interface c.args.link c.args.snaplen)
    c.in_ok-options.options.items
    (left_by (g.H.Host.left_of c.args.host.now) seen)
    (left_by (g.H.Host.left_of c.is_closed.new.host) seen)
    (whole_front c.args.walk.now c.args.block (content.Interface c.args.link c.args.snaplen) true
    c.in_ok-options.options.items
    (left_by (g.H.Host.left_of c.args.host.now) seen)
    (left_by (g.H.Host.left_of c.read_bytes.new.host) seen)
    (left_by (g.H.Host.left_of c.is_closed.new.host) seen)
    whole.1 (omega (arith, whole.0, c.inner.ensures)) last)
    (λ more. given-interface c.args.walk.now c.args.block c.args.link c.args.snaplen c.in_ok-options.options.items more
    c.in-Some.resolution some))

pub returns-clause-shows : goal.returns-clause-shows
returns-clause-shows g c = λ seen may.
    let whole = (c.in_ok-options.ensures.whole seen (c.in_ok-closed.ensures.only_read.earlier seen may)) in
    let last = last_same _ _ _ _ true _ _ c.if-not-closed.false (c.in_ok-closed.ensures.whole seen may) in
    let some : resolution_told c.args.walk.now.section.swapped c.in_ok-options.options.items ≡ Some c.in-Some.resolution =
    ap (resolution_told c.args.walk.now.section.swapped) (sym c.as_slice.ensures.value) ∙ sym c.in-Some.ensures in
    rw (c.from.ensures, c.in_ok-push-in-Some.ensures.pushed)
    (closing_skipped c.args.walk.now
    (after_interface c.args.walk.now c.args.block
    (record { link = c.args.link; snaplen = c.args.snaplen; resolution = c.in-Some.resolution }))
    c.args.block
    (content.Interface c.args.link c.args.snaplen)
    c.in_ok-options.options.items
    (left_by (g.H.Host.left_of c.args.host.now) seen)
    (left_by (g.H.Host.left_of c.is_closed.new.host) seen)
    (whole_front c.args.walk.now c.args.block (content.Interface c.args.link c.args.snaplen) true
    c.in_ok-options.options.items
    (left_by (g.H.Host.left_of c.args.host.now) seen)
    (left_by (g.H.Host.left_of c.read_bytes.new.host) seen)
    (left_by (g.H.Host.left_of c.is_closed.new.host) seen)
    whole.1 (omega (arith, whole.0, c.inner.ensures)) last)
    (λ more. given-interface c.args.walk.now c.args.block c.args.link c.args.snaplen c.in_ok-options.options.items more
    c.in-Some.resolution some))
