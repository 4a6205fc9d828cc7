-- Each piece lies after those that were passed over.
use Rattle.std.proofs.Common.{ℕ, ◌-◌, refl, ◌∙◌, arith}
use Rattle.std.proofs.lemmas.List.{length-take}
use Rattle.std.proofs.lemmas.Result.{err_from_is_err_and}
use Rattle.edge_io.specs.Files.{left_by}
use Rattle.pcapng_input.proofs.Blocks.Taking.{less_after, bytes_start, bytes_more}
use Rattle.pcapng_input.proofs.piece.skip.Goals as goal

pub loop-left-init : goal.loop-left-init
loop-left-init g c = record {
  within = omega arith;
  passed = λ seen may. bytes_start c.args.count c.args.count (left_by (g.H.Host.left_of c.args.host.now) seen) refl;
  contents = refl;
  earlier = λ seen may. may;
  opens = refl;
  same = refl;
}

pub returns-in_err-read_piece-clause-partial : goal.returns-in_err-read_piece-clause-partial
returns-in_err-read_piece-clause-partial g c = λ seen may.
    let p = err_from_is_err_and c.from_residual.result c.from_residual.ensures.1 in
    rw (p.1, p.2)
    (less_after c.args.at _ c.args.count c.in_err-read_piece.field-0.0
    (c.loop-left.invariant.passed seen (c.in_err-read_piece.ensures.only_read.earlier seen may)).taken
    (left_by (g.H.Host.left_of c.args.host.now) seen)
    (left_by (g.H.Host.left_of c.loop-left.host) seen)
    (left_by (g.H.Host.left_of c.read_piece.new.host) seen)
    (c.loop-left.invariant.passed seen (c.in_err-read_piece.ensures.only_read.earlier seen may)).took
    (c.in_err-read_piece.ensures.partial seen may)
    (omega (
      arith,
      (c.loop-left.invariant.passed seen (c.in_err-read_piece.ensures.only_read.earlier seen may)).size,
      c.min-size.ensures,
      length-take {A = ℕ},
    )))

pub loop-left-preserved : goal.loop-left-preserved
loop-left-preserved g c = record {
  within = omega arith;
  passed = λ seen may.
      bytes_more (c.args.count - c.loop-left.left) _ c.read_piece.new.piece (left_by (g.H.Host.left_of c.args.host.now) seen)
      (left_by (g.H.Host.left_of c.loop-left.host) seen)
      (left_by (g.H.Host.left_of c.read_piece.new.host) seen)
      (c.loop-left.invariant.passed seen (c.in_ok-read_piece.ensures.only_read.earlier seen may))
      (c.in_ok-read_piece.ensures.whole seen may)
      (omega (arith, c.min-size.ensures, length-take {A = ℕ}));
  contents = c.in_ok-read_piece.ensures.only_read.files ∙ c.loop-left.invariant.contents;
  earlier = λ seen may. c.loop-left.invariant.earlier seen (c.in_ok-read_piece.ensures.only_read.earlier seen may);
  opens = c.in_ok-read_piece.ensures.only_read.opens ∙ c.loop-left.invariant.opens;
  same = c.in_ok-read_piece.ensures.quiet (λ e. cc) ∙ c.loop-left.invariant.same;
}
