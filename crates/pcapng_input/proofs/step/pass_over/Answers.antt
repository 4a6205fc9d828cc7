-- What is between the fixed front and the last four bytes is passed over.
use Rattle.std.proofs.Common.{◌+◌, [], false, true, arith}
use Rattle.std.proofs.lemmas.Result.{err_from_is_err_and}
use Rattle.edge_io.specs.Files.{left_by}
use Rattle.pcap_input.proofs.Told.{none_taken}
use Rattle.pcapng_input.specs.declared.content.BlockContent.TheVariants as content
use Rattle.pcapng_input.proofs.Blocks.Taking.{last_same}
use Rattle.pcapng_input.proofs.Blocks.Closing.{whole, closing_less, closing_differs, closing_skipped, given-skipped}
use Rattle.pcapng_input.proofs.step.pass_over.Goals as goal

pub returns-in_err-closed-clause-shows : goal.returns-in_err-closed-clause-shows
returns-in_err-closed-clause-shows g c = λ seen may.
    let p = err_from_is_err_and c.from_residual.result c.from_residual.ensures.1 in
    rw (p.1, p.2)
    (closing_less c.args.walk.now c.args.walk.now c.args.block content.Skipped (c.inner.result + 4) c.in_err-closed.field-0.0
    (left_by (g.H.Host.left_of c.args.host.now) seen)
    (left_by (g.H.Host.left_of c.is_closed.new.host) seen)
    (omega (arith, c.inner.ensures)) (c.in_err-closed.ensures.partial seen may))

pub returns-then-not-closed-clause-shows : goal.returns-then-not-closed-clause-shows
returns-then-not-closed-clause-shows g c = λ seen may.
    let last = last_same _ _ _ _ false _ _ c.if-not-closed.true (c.in_ok-closed.ensures.whole seen may) in
    rw c.bad_block.ensures
    (closing_differs c.args.walk.now c.args.walk.now c.args.block content.Skipped last.passed
    (left_by (g.H.Host.left_of c.args.host.now) seen)
    (left_by (g.H.Host.left_of c.is_closed.new.host) seen)
    (whole c.args.walk.now c.args.block content.Skipped false c.inner.result [] (left_by (g.H.Host.left_of c.args.host.now) seen)
    (left_by (g.H.Host.left_of c.args.host.now) seen)
    (left_by (g.H.Host.left_of c.is_closed.new.host) seen)
    (none_taken (left_by (g.H.Host.left_of c.args.host.now) seen)) (omega (arith, c.inner.ensures)) last))

pub returns-clause-shows : goal.returns-clause-shows
returns-clause-shows g c = λ seen may.
    let last = last_same _ _ _ _ true _ _ c.if-not-closed.false (c.in_ok-closed.ensures.whole seen may) in
    rw c.from.ensures
    (closing_skipped c.args.walk.now _ c.args.block content.Skipped last.passed (left_by (g.H.Host.left_of c.args.host.now) seen)
    (left_by (g.H.Host.left_of c.is_closed.new.host) seen)
    (whole c.args.walk.now c.args.block content.Skipped true c.inner.result [] (left_by (g.H.Host.left_of c.args.host.now) seen)
    (left_by (g.H.Host.left_of c.args.host.now) seen)
    (left_by (g.H.Host.left_of c.is_closed.new.host) seen)
    (none_taken (left_by (g.H.Host.left_of c.args.host.now) seen)) (omega (arith, c.inner.ensures)) last)
    (λ more. given-skipped c.args.walk.now c.args.block last.passed more))
