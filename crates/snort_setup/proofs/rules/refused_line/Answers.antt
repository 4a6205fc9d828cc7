-- The file, the line and the reason make the message: an error that
-- ends the lines, or a warning more where such a fault may be skipped.
use Rattle.std.proofs.Common.{◌++◌, ◌∷◌, [], ℕ, List, sym, ap, ◌∙◌}
use Rattle.snort_setup.specs.Pieces.{reason_text}
use Rattle.snort_setup.specs.Texts.{file_at, error_line, warning_line}
use Rattle.snort_setup.specs.Lines.{lines_frame, state_of}
use Rattle.snort_setup.proofs.Stepping.{skips-warned, skips-refused}
use Rattle.snort_setup.proofs.rules.refused_line.Goals as goal

pub returns-then-not-skips-clause-gives : goal.returns-then-not-skips-clause-gives
returns-then-not-skips-clause-gives g c =
    skips-refused (lines_frame c.args.lines.now) c.args.line.now (state_of c.args.progress.now) c.args.fault c.in_ok-message.message (sym c.skips.ensures ∙ c.if-not-skips.true)
    (c.in_ok-message.ensures
    ∙ ap (λ (file : List ℕ). error_line file c.args.line.now.line (reason_text c.reason-reason.result)) c.file_at-file.ensures
    ∙ ap (λ (text : List ℕ). error_line (file_at c.args.lines.now.files.now c.args.line.now.file) c.args.line.now.line text) c.reason-reason.ensures)

pub returns-clause-gives : goal.returns-clause-gives
returns-clause-gives g c =
    skips-warned (lines_frame c.args.lines.now) c.args.line.now (state_of c.args.progress.now) c.args.fault c.push.new.self (sym c.skips.ensures ∙ c.if-not-skips.false)
    (c.in_ok-push.ensures.pushed ∙ ap (λ (warning : List ℕ). c.args.progress.now.warnings ++ warning ∷ [])
    (c.in_ok-warning.ensures
    ∙ ap (λ (file : List ℕ). warning_line file c.args.line.now.line (reason_text c.reason-reason.result)) c.file_at-file.ensures
    ∙ ap (λ (text : List ℕ). warning_line (file_at c.args.lines.now.files.now c.args.line.now.file) c.args.line.now.line text) c.reason-reason.ensures))
