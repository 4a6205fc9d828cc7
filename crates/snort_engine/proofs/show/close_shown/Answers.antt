-- Where the work on the capture was cut short it isn't closed, and ends as it was shown; else `close` closes it, for which
-- `MayClose` has all that is asked.
use Rattle.std.proofs.Common.{Err, refl, sym, ap, ◌∙◌, inl, inr, arith}
use Rattle.std.proofs.lemmas.Result.{err_from_is_err_and}
use Rattle.alert_lines.specs.declared.fault.WriteFault.{WriteFault}
use Rattle.snort_engine.specs.Steps.Showing.{ClosesShown}
use Rattle.snort_engine.proofs.Headline.Quiet.{closes_same, closes_unwritten}
use Rattle.snort_engine.proofs.show.close_shown.Goals as goal

pub returns-then-not-is_whole-clause-closes : goal.returns-then-not-is_whole-clause-closes
unfolding ClosesShown
returns-then-not-is_whole-clause-closes g c = λ matches test. inl (sym c.is_whole.ensures ∙ c.if-not-is_whole.true, refl, refl)

pub close-requires-clause-known : goal.close-requires-clause-known
close-requires-clause-known g c κs within = (c.requires.closable (sym c.is_whole.ensures ∙ c.if-not-is_whole.false)).known

pub close-requires-clause-few : goal.close-requires-clause-few
close-requires-clause-few g c κs within =
    let few = (c.requires.closable (sym c.is_whole.ensures ∙ c.if-not-is_whole.false)).few in
    omega (arith, few)

pub returns-in_err-counts-clause-closes : goal.returns-in_err-counts-clause-closes
unfolding ClosesShown
returns-in_err-counts-clause-closes g c = λ matches test.
    let p = err_from_is_err_and c.from_residual.result c.from_residual.ensures.1 in
    inr (inr (sym c.is_whole.ensures ∙ c.if-not-is_whole.false, (c.in_err-counts.field-0.0, p.1 ∙ ap Err p.2, c.in_err-counts.ensures.closed matches test)))

pub returns-clause-closes : goal.returns-clause-closes
unfolding ClosesShown
returns-clause-closes g c = λ matches test. inr (inl (sym c.is_whole.ensures ∙ c.if-not-is_whole.false, refl, c.in_ok-counts.ensures.closed matches test))

-- what stopped the closing is a fault of writing, or want of memory
pub returns-in_err-counts-clause-causes : goal.returns-in_err-counts-clause-causes
returns-in_err-counts-clause-causes g c =
    let p = err_from_is_err_and c.from_residual.result c.from_residual.ensures.1 in
    rw (p.1, p.2) (closes_unwritten _ _ _ c.in_err-counts.field-0.0
    (λ is. c.in_err-counts.ensures.ends.fault (ap (λ (why : WriteFault). Err why) is)) c.in_err-counts.ensures.ends.later)

pub returns-clause-causes : goal.returns-clause-causes
returns-clause-causes g c = closes_same _ _ _ c.in_ok-counts.ensures.ends.quiet
