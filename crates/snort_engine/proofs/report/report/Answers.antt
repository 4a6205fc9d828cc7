-- The report's text is made whole and then told, with the status of the outcome; where memory is lacking for it, the text is
-- that of want of memory, and so is the status.
use Rattle.std.proofs.Common.{ℕ, List, ◌++◌, ap, ◌∙◌}
use Rattle.snort_engine.specs.Counts.{with_counts}
use Rattle.snort_engine.specs.Steps.Stop.{outcome_text}
use Rattle.snort_engine.specs.Messages.{no_memory_text}
use Rattle.snort_engine.proofs.Headline.Reported.{reports_told, reports_untold}
use Rattle.snort_engine.proofs.report.report.Goals as goal

pub returns-in-Ok-clause-reports : goal.returns-in-Ok-clause-reports
returns-in-Ok-clause-reports g c =
    reports_told _ c.deref.result.now c.args.outcome.now c.status_of.result c.args.well c.tell-still.result _ _ _
    c.status_of.ensures
    (c.deref.ensures.value ∙ c.in-Ok.ensures ∙
    ap (λ (x : List ℕ). x ++ with_counts (outcome_text c.args.source.now c.args.outcome.now) c.args.told)
    c.new-text.ensures.items)
    c.tell-still.ensures.tells

pub returns-clause-reports : goal.returns-clause-reports
unfolding no_memory_text
returns-clause-reports g c = reports_untold _ c.args.outcome.now c.args.well c.tell-still-in-Err.result _ _ _ c.tell-still-in-Err.ensures.tells
