-- Each block that is skipped lies after the others.
use Rattle.std.proofs.Common.{refl, ◌∙◌, arith}
use Rattle.std.proofs.lemmas.Result.{err_from_is_err_and}
use Rattle.edge_io.specs.Files.{left_by}
use Rattle.edge_io.proofs.Hosts.Seeing.{told_seen}
use Rattle.pcapng_input.proofs.Captures.Walking.{passed_start, passed_more, goes_given, goes_ended, goes_refused, skipped_moves, still_unopened, err_nothing}
use Rattle.pcapng_input.proofs.reader.read_next.Goals as goal

pub each-init : goal.each-init
each-init g c = record {
  passed = λ seen may. passed_start c.args.walk.now (left_by (g.H.Host.left_of c.args.host.now) seen);
  contents = refl;
  earlier = λ seen may. may;
  opens = refl;
  same = refl;
}

pub returns-in_err-block-clause-goes : goal.returns-in_err-block-clause-goes
returns-in_err-block-clause-goes g c = λ seen may.
    let p = err_from_is_err_and c.from_residual.result c.from_residual.ensures.1 in
    rw (p.1, p.2)
    (goes_refused c.args.walk.now c.each.walk c.read_block.new.walk c.in_err-block.field-0.0
    (left_by (g.H.Host.left_of c.args.host.now) seen)
    (left_by (g.H.Host.left_of c.each.host) seen)
    (left_by (g.H.Host.left_of c.read_block.new.host) seen)
    (c.each.invariant.passed seen (c.in_err-block.ensures.only_read.earlier seen may)) (c.in_err-block.ensures.shows seen may))

pub returns-in-End-clause-goes : goal.returns-in-End-clause-goes
returns-in-End-clause-goes g c = λ seen may.
    goes_ended c.args.walk.now c.each.walk c.read_block.new.walk (left_by (g.H.Host.left_of c.args.host.now) seen)
    (left_by (g.H.Host.left_of c.each.host) seen)
    (left_by (g.H.Host.left_of c.read_block.new.host) seen)
    (c.each.invariant.passed seen (c.in_ok-block.ensures.only_read.earlier seen may))
    (rw c.in-End.is at (c.in_ok-block.ensures.shows seen may))

pub returns-in-Record-clause-goes : goal.returns-in-Record-clause-goes
returns-in-Record-clause-goes g c = λ seen may.
    goes_given c.args.walk.now c.each.walk c.read_block.new.walk c.in-Record.given
    (left_by (g.H.Host.left_of c.args.host.now) seen)
    (left_by (g.H.Host.left_of c.each.host) seen)
    (left_by (g.H.Host.left_of c.read_block.new.host) seen)
    (c.each.invariant.passed seen (c.in_ok-block.ensures.only_read.earlier seen may))
    (rw c.in-Record.is at (c.in_ok-block.ensures.shows seen may))

pub each-preserved : goal.each-preserved
each-preserved g c = record {
  passed = λ seen may.
      passed_more c.args.walk.now c.each.walk c.read_block.new.walk (left_by (g.H.Host.left_of c.args.host.now) seen)
      (left_by (g.H.Host.left_of c.each.host) seen)
      (left_by (g.H.Host.left_of c.read_block.new.host) seen)
      (c.each.invariant.passed seen (c.in_ok-block.ensures.only_read.earlier seen may))
      (rw c.in-Skipped.is at (c.in_ok-block.ensures.shows seen may));
  contents = c.in_ok-block.ensures.only_read.files ∙ c.each.invariant.contents;
  earlier = λ seen may. c.each.invariant.earlier seen (c.in_ok-block.ensures.only_read.earlier seen may);
  opens = c.in_ok-block.ensures.only_read.opens ∙ c.each.invariant.opens;
  same = c.in_ok-block.ensures.quiet (λ e. cc) ∙ c.each.invariant.same;
}

pub each-smaller : goal.each-smaller
each-smaller g c =
    let host = c.read_block.new.host in
    let may = told_seen (g.H.Host.contents host) (g.H.Host.left host) (g.H.Host.agrees host) (g.H.Host.left_of host) (g.met.H.Host.as_told host) in
    let moves = skipped_moves c.each.walk c.read_block.new.walk (left_by (g.H.Host.left_of c.each.host) (g.H.Host.contents host)) (left_by (g.H.Host.left_of host) (g.H.Host.contents host))
    (rw c.in-Skipped.is at (c.in_ok-block.ensures.shows (g.H.Host.contents host) may)) in
    omega (arith, moves.0, moves.1)

pub returns-in_err-block-clause-unopened : goal.returns-in_err-block-clause-unopened
returns-in_err-block-clause-unopened g c = λ seen may unopened.
    let p = err_from_is_err_and c.from_residual.result c.from_residual.ensures.1 in
    let still =
    still_unopened seen seen (left_by (g.H.Host.left_of c.args.host.now) seen)
    (left_by (g.H.Host.left_of c.each.host) seen)
    (c.each.invariant.passed seen (c.in_err-block.ensures.only_read.earlier seen may)).taken
    refl (c.each.invariant.passed seen (c.in_err-block.ensures.only_read.earlier seen may)).took unopened in
    rw (p.1, p.2) (err_nothing c.in_err-block.field-0.0 ((c.in_err-block.ensures.unopened seen may) still))

pub returns-in-Record-clause-unopened : goal.returns-in-Record-clause-unopened
returns-in-Record-clause-unopened g c = λ seen may unopened.
    let still =
    still_unopened seen seen (left_by (g.H.Host.left_of c.args.host.now) seen)
    (left_by (g.H.Host.left_of c.each.host) seen)
    (c.each.invariant.passed seen (c.in_ok-block.ensures.only_read.earlier seen may)).taken
    refl (c.each.invariant.passed seen (c.in_ok-block.ensures.only_read.earlier seen may)).took unopened in
    absurd ((rw c.in-Record.is at (c.in_ok-block.ensures.unopened seen may)) still)
