-- The rule that was read is the one at the place, and its header, fields and bits were tested: what is left is its payload's
-- part, which `payload_matches` decides (`matches-then`), with the visits of just this rule.
use Rattle.std.proofs.Common.{◌≡◌, ℕ, ◌+◌, ◌≤◌, List, get_or, length, sym, ap, subst, ◌∙◌, IsTrue, ◌↔◌, IfOk}
use Rattle.std.proofs.lemmas.List.{get_or_default}
use Rattle.rule_types.specs.declared.rule.Rule.{Rule}
use Rattle.rule_eval.specs.Hits.{RuleMatches}
use Rattle.rule_eval.proofs.RuleMatches.{matches-then}
use Rattle.rule_eval.proofs.Work.{visits_at-rule}
use Rattle.rule_eval.proofs.matching.rule_matches.Goals as goal

pub returns-then-flowbits_hold-clause-right : goal.returns-then-flowbits_hold-clause-right
returns-then-flowbits_hold-clause-right g c = λ means chosen find at.
    let rule : Rule = c.index-rules-rule.result in
    let here : rule ≡ get_or c.args.set.now.rules c.args.rule rule = c.index-rules-rule.is ∙ ap (λ (xs : List Rule). get_or xs c.args.rule c.index-rules-rule.result) c.rules.ensures in
    let same : rule ≡ chosen = here ∙ get_or_default c.args.set.now.rules c.args.rule rule chosen c.requires ∙ sym at in
    subst (λ (r : Rule). IfOk c.payload_matches.result (λ matches. IsTrue matches ↔ RuleMatches means r (record { head = c.args.head.now; payload = c.args.payload.now }) c.args.bits.now)) same
    (matches-then means rule (record { head = c.args.head.now; payload = c.args.payload.now }) c.args.bits.now c.as_slice.result.now c.as_slice-then-fields_hold.result.now
    (c.header_matches.ensures.0 c.if-header_matches.true) c.as_slice.ensures c.as_slice-then-fields_hold.ensures
    (c.fields_hold.ensures.0 c.if-fields_hold.true) (c.flowbits_hold.ensures.0 c.if-flowbits_hold.true)
    c.payload_matches.result (c.payload_matches.ensures.right means rule find here))

pub returns-then-flowbits_hold-clause-visits : goal.returns-then-flowbits_hold-clause-visits
returns-then-flowbits_hold-clause-visits g c = λ means find.
    let rule : Rule = c.index-rules-rule.result in
    let here : rule ≡ get_or c.args.set.now.rules c.args.rule rule = c.index-rules-rule.is ∙ ap (λ (xs : List Rule). get_or xs c.args.rule c.index-rules-rule.result) c.rules.ensures in
    subst (λ (n : ℕ). c.payload_matches.new.visits ≤ c.args.visits.now + n) (visits_at-rule c.args.set.now.rules c.args.rule (length c.args.payload.now) rule rule c.requires here)
    (c.payload_matches.ensures.bounded_by_rule means rule find here)
