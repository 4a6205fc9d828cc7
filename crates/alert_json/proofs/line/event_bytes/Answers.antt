-- The writer began empty and wrote one object with the event's members, which its bytes print (`line-text`); they are UTF-8
-- and no deeper than a reader goes, so that the value is read back (`line-reads`).
use Rattle.std.proofs.Common.{◌∙◌}
use Rattle.alert_json.specs.Facts.{event_facts, run_facts}
use Rattle.alert_json.proofs.Depths.{event_low}
use Rattle.alert_json.proofs.Lines.{writes, line-text, line-reads}
use Rattle.alert_json.proofs.line.event_bytes.Goals as goal

pub returns-clause-text : goal.returns-clause-text
returns-clause-text c =
    let w =
    writes _ _ _ _ _ c.new-writer.ensures.tokens c.in_ok-begin_object.ensures.ok c.in_ok-push_members.ensures.added
    c.in_ok-end_object.ensures.ok in
    line-text _ _ _ _ w
    (c.in_ok-end_object.ensures.room.0 ∙ c.in_ok-push_members.ensures.before ∙ c.in_ok-begin_object.ensures.room.0 ∙
    c.new-writer.ensures.before ∙ c.in_ok-text.ensures.items)
    c.into_inner.ensures.items

pub returns-clause-reads_back : goal.returns-clause-reads_back
returns-clause-reads_back c =
    let w = writes _ _ _ _ _ c.new-writer.ensures.tokens c.in_ok-begin_object.ensures.ok c.in_ok-push_members.ensures.added c.in_ok-end_object.ensures.ok in
    line-reads _ _ w c.into_inner.ensures.utf8 (event_low (event_facts c.args.event) (run_facts c.args.run))
