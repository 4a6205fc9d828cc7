-- Before the first piece nothing has come (`come-start`), and each piece raises the count, which stays below 2^64, so that
-- the loop ends; that a file is too long is what `next_piece` tells.
use Rattle.std.proofs.Common.{Ok, refl, ap, ◌∙◌, arith}
use Rattle.std.proofs.lemmas.Result.{err_from_is_err_and}
use Rattle.snort_eve.proofs.Copying.{come-start, other-stop}
use Rattle.snort_eve.proofs.copy.copy_pieces.Goals as goal

pub pieces-init : goal.pieces-init
pieces-init g c = record {
  comes = come-start (g.F.InputForm.means c.args.form.now) (g.F.InputForm.came c.args.form.now c.args.state.now) (g.H.Host.agrees c.args.host.now) (g.H.Host.left_of c.args.host.now) _
      c.requires.nothing (g.met.F.InputForm.nothing c.args.form.now);
  room = c.requires.room;
  earlier = λ files a. a;
  same_contents = refl;
  quiet = refl;
  quiet_alerts = refl;
}

pub pieces-smaller : goal.pieces-smaller
pieces-smaller g c =
    let more = c.in_ok-next_piece.was ∙ ap Ok c.if-branch.true in
    omega (arith, c.next_piece.ensures.further more)

pub returns-in_err-next_piece-clause-long : goal.returns-in_err-next_piece-clause-long
returns-in_err-next_piece-clause-long g c =
    let p = err_from_is_err_and c.from_residual.result c.from_residual.ensures.1 in
    rw (p.1, p.2) (λ named. c.in_err-next_piece.ensures.long (other-stop _ _ c.in_err-next_piece.field-0.0 _ refl refl named) _ _ c.pieces.invariant.comes)
