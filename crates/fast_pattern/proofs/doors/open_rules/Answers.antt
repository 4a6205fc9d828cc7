-- What one rule lets in stays so, since no later one clears a slot (`rules-more`); so at the end of the list every rule's
-- items are let in.
use Rattle.std.proofs.Common.{◌≡◌, subst, ◌∙◌, arith}
use Rattle.fast_pattern.specs.declared.header.RuleHead.{RuleHead}
use Rattle.fast_pattern.specs.Doors.{LetsIn}
use Rattle.std.proofs.lemmas.List.{get_or_default}
use Rattle.fast_pattern.proofs.Ports.Opening.{rules-more, guards-all}
use Rattle.pattern_search.proofs.Windowing.{keeps-trans}
use Rattle.fast_pattern.proofs.doors.open_rules.Goals as goal

pub loop-asked-preserved : goal.loop-asked-preserved
loop-asked-preserved c = (
  keeps-trans c.args.table.now c.loop-asked.table c.open_rule.new.table c.loop-asked.invariant.0 c.open_rule.ensures.keeps,
  rules-more c.args.rules.now c.loop-asked.table c.open_rule.new.table c.loop-asked.asked-index c.open_rule.ensures.keeps
      c.loop-asked.invariant.1
      (λ d. subst (λ (a : RuleHead). LetsIn a c.open_rule.new.table)
      (c.asked-item.is ∙ get_or_default c.args.rules.now c.loop-asked.asked-index c.asked-item.result d c.loop-asked-test.true)
      c.open_rule.ensures.opens),
)

pub returns-clause-guards : goal.returns-clause-guards
returns-clause-guards c = record {
  sized = c.loop-asked.invariant.0.sized ∙ c.requires.table;
  guards = guards-all c.args.rules.now c.loop-asked.table (λ k d h. c.loop-asked.invariant.1 k d (omega (arith, c.loop-asked-test.false)));
}
