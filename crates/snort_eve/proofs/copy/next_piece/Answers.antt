-- A piece adds its bytes and lines to those that came (`come-step`), and a read of no bytes is the end; where a step stops,
-- what was written begins the lines of all bytes (`stop-now`, `stop-part`).
use Rattle.std.proofs.Common.{ℕ, inr, ◌∙◌, refl, sym, ap, subst, take, [], arith}
use Rattle.std.proofs.lemmas.Result.{on_ok_weaker, on_err_weaker}
use Rattle.edge_io.specs.Told.{before, NothingLeft}
use Rattle.edge_io.proofs.Told.{before-nil}
use Rattle.snort_eve.proofs.Copying.{on_err, come-step, come-same, stop-now, stop-part, length-taken, long-taken}
use Rattle.snort_eve.proofs.copy.next_piece.Goals as goal

pub returns-in_err-count-clause-stops : goal.returns-in_err-count-clause-stops
returns-in_err-count-clause-stops g c =
    on_err c.from_residual.result (λ from begun comes.
    stop-now (g.F.InputForm.means c.args.form.now) _ _ from (g.H.Host.left_of c.read.new.self) begun _ [] comes c.in_err-count.ensures.earlier
    (λ files a. sym (c.in_err-count.ensures.agreed_failed files) ∙ sym (before-nil (g.H.Host.left_of c.read.new.self files))) refl)

pub returns-then-count-eq0-clause-comes : goal.returns-then-count-eq0-clause-comes
returns-then-count-eq0-clause-comes g c from begun comes =
    come-same (g.F.InputForm.means c.args.form.now) _ _ _ from _ (g.H.Host.left_of c.read.new.self) _ begun _ comes c.in_ok-count.ensures.earlier
    (λ files a. c.in_ok-count.ensures.agreed files a
    ∙ ap (λ (n : ℕ). before (take n c.read.new.buf) (g.H.Host.left_of c.read.new.self files)) c.if-count-eq0.true)

pub returns-then-count-eq0-clause-over : goal.returns-then-count-eq0-clause-over
returns-then-count-eq0-clause-over g c same =
    inr (λ files a.
    subst NothingLeft (c.in_ok-count.ensures.agreed files a
    ∙ ap (λ (n : ℕ). before (take n c.read.new.buf) (g.H.Host.left_of c.read.new.self files)) c.if-count-eq0.true
    ∙ before-nil (g.H.Host.left_of c.read.new.self files))
    (c.in_ok-count.ensures.agreed_end c.if-count-eq0.true files a))

pub returns-in_err-read-clause-stops : goal.returns-in_err-read-clause-stops
returns-in_err-read-clause-stops g c =
    on_err c.from_residual-in_err-read.result (λ from begun comes.
    stop-now (g.F.InputForm.means c.args.form.now) _ _ from (g.H.Host.left_of c.read.new.self) begun _ (take c.in_ok-count.count c.read.new.buf) comes c.in_ok-count.ensures.earlier
    c.in_ok-count.ensures.agreed refl)

pub returns-clause-comes : goal.returns-clause-comes
returns-clause-comes g c =
    on_ok_weaker c.pass_piece.result (λ passes from begun comes.
    come-step (g.F.InputForm.means c.args.form.now) _ _ from begun _ comes c.in_ok-count.ensures.earlier c.in_ok-count.ensures.agreed passes
    (length-taken c.read.new.buf c.in_ok-count.count c.args.read.now c.in_ok-read.field-0 (omega (arith, c.in_ok-count.ensures.within)) c.in_ok-read.ensures.counted))
    c.pass_piece.ensures.passes

pub returns-clause-stops : goal.returns-clause-stops
returns-clause-stops g c =
    on_err_weaker c.pass_piece.result (λ breaks from begun comes.
    stop-part (g.F.InputForm.means c.args.form.now) _ _ from (g.H.Host.left_of c.read.new.self) begun _ _ comes c.in_ok-count.ensures.earlier c.in_ok-count.ensures.agreed breaks)
    c.pass_piece.ensures.breaks

pub returns-in_err-read-clause-long : goal.returns-in_err-read-clause-long
returns-in_err-read-clause-long g c named from begun comes =
    long-taken (g.F.InputForm.means c.args.form.now) _ _ from (g.H.Host.left_of c.read.new.self) begun c.read.new.buf c.in_ok-count.count comes c.in_ok-count.ensures.earlier
    c.in_ok-count.ensures.agreed (omega (arith, c.in_ok-count.ensures.within)) c.in_err-read.ensures.large
