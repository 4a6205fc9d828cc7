-- However `show_records` ends, what it wrote is the lines of the records or a part of them: the lemma `part_shown`.
use Rattle.snort_engine.specs.Steps.Showing.{plan_of}
use Rattle.snort_engine.proofs.Showing.Shown.{part_shown}
use Rattle.snort_engine.proofs.show.show_some.Goals as goal

pub returns-clause-part : goal.returns-clause-part
returns-clause-part g c = λ matches test.
    part_shown (plan_of matches c.args.context.now.plan.now) c.args.records.now.items
    _ _ _ _ _ _ c.show_records-shown.result (c.show_records-shown.ensures.shown matches test)

pub returns-clause-later : goal.returns-clause-later
returns-clause-later g c = c.show_records-shown.ensures.ends.later
