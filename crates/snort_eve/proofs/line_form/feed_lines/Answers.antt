-- The lines that a piece completes are those that were taken at the front of what waited and the piece (`lines-give`).
use Rattle.std.proofs.Common.{refl, sym, ◌∙◌}
use Rattle.alert_json.specs.Facts.{run_facts}
use Rattle.snort_eve.proofs.LineForming.{lines-give, over-left}
use Rattle.snort_eve.proofs.line_form.feed_lines.Goals as goal

pub returns-clause-gives : goal.returns-clause-gives
returns-clause-gives c =
    lines-give (run_facts c.args.form.now.run) c.args.form.now.from c.args.state.now _ c.args.piece.now c.deref.result.now c.deref-2.result.now _ _ c.in_ok-taken.taken
    (c.deref.ensures.value ∙ c.in_ok-extend_from_slice.ensures.items) c.in_ok-taken.ensures.walks (c.deref-2.ensures.value ∙ sym c.deref.ensures.value)
    c.in_ok-state.ensures.items refl c.saturating_add-state.ensures c.in_ok-taken.ensures.waits c.in_ok-taken.ensures.foreign

pub returns-clause-over : goal.returns-clause-over
returns-clause-over c same =
    over-left c.in_ok-taken.taken.next c.in_ok-state.field-0.items c.deref.result.now c.deref-2.result.now c.in_ok-taken.taken.size c.in_ok-taken.taken.is_foreign
    same (c.deref-2.ensures.value ∙ sym c.deref.ensures.value) c.in_ok-state.ensures.items c.in_ok-taken.ensures.foreign
