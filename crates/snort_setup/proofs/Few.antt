-- Rule lines give no more rules than there may be.
use Rattle.std.proofs.Common.{◌≡◌, ℕ, ◌+◌, ◌≤◌, Bool, true, false, cond, ◌&&◌, Some, Result, Ok, Err, List, [], ◌∷◌, ◌++◌, length, refl, sym, ap, subst, ◌∙◌, arith, length-append, inl, inr}
use Rattle.std.specs.Prelude.{nat_le}
use Rattle.std.specs.Result.{MatchResult}
use Rattle.std.proofs.lemmas.Bool.{leb-false}
use Rattle.edge_io.specs.declared.pattern.Refusal.{Refusal}
use Rattle.conf_parser.specs.declared.line.Line.{Line}
use Rattle.rule_parser.specs.declared.fault.RuleFault.{RuleFault}
use Rattle.rule_parser.specs.declared.fault.RuleKind.TheVariants as kind
use Rattle.rule_parser.specs.Faults.{plain}
use Rattle.rule_types.specs.declared.rule.Rule.{Rule}
use Rattle.snort_setup.specs.Rules.{Frame, RulesState, Verdict, RulesEnd, end_at, is_taken, most_rules, judged, is_among}
use Rattle.snort_setup.specs.Rules.{LineGives, RulesGive, is_skippable, rule_warning, rule_error, with_warning, after_fault}
use Rattle.snort_setup.specs.Rules.{after_line}
use Rattle.snort_setup.specs.Lines.{RulesAnswer}

-- ---- one line

-- a rule that is accepted finds room
judged-few : (rules : List Rule) (is_refused : Bool) (rule other : Rule) → judged rules is_refused rule ≡ Ok other → length rules + 1 ≤ most_rules
unfolding judged
judged-few rules is_refused rule other = go (is_taken rules rule) (nat_le most_rules (length rules)) is_refused refl where
  go : (taken full refused : Bool) → nat_le most_rules (length rules) ≡ full
      → cond taken (Err (plain kind.DuplicateSid)) (cond full (Err (plain kind.Limit)) (cond refused (Err (plain kind.PatternRefused)) (Ok rule))) ≡ Ok other → length rules + 1 ≤ most_rules
  go true full refused is accepted = absurd cc
  go false true refused is accepted = absurd cc
  go false false refused is accepted = omega (arith, leb-false most_rules (length rules) is)

-- the rule of a line, where it is accepted, finds room
line-few : (frame : Frame) (state : RulesState) (is_refused : Bool) (text : List ℕ) (verdict : Verdict) (rule : Rule)
    → LineGives frame state is_refused text verdict
    → verdict.rule ≡ Ok rule
    → length state.rules + 1 ≤ most_rules
unfolding LineGives
line-few frame state is_refused text verdict rule (inl (read, later, is, same)) accepted =
    judged-few state.rules is_refused read rule (sym (ap (λ (v : Verdict). v.rule) same) ∙ accepted)
line-few frame state is_refused text verdict rule (inr (fault, faulty, same)) accepted =
    let never : ◌≡◌ {A = Result Rule RuleFault} (Err fault) (Ok rule) = sym (ap (λ (v : Verdict). v.rule) same) ∙ accepted in cc

-- what goes on is what there is
same-state : (a b : RulesState) → ◌≡◌ {A = Result RulesState (List ℕ)} (Ok a) (Ok b) → a ≡ b
same-state a b same = cc

-- a line that is skipped leaves the rules as they are
skipped-few : (frame : Frame) (line : Line) (state after : RulesState) (fault : RuleFault)
    → length state.rules ≤ most_rules
    → after_fault frame line state fault ≡ Ok after
    → length after.rules ≤ most_rules
unfolding after_fault
skipped-few frame line state after fault few = go (frame.skips && is_skippable fault.kind) where
  go : (skips : Bool) → cond skips (Ok (with_warning state (rule_warning frame line fault))) (Err (rule_error frame line fault)) ≡ Ok after → length after.rules ≤ most_rules
  go true same = subst (λ (s : RulesState). length s.rules ≤ most_rules) (same-state (with_warning state (rule_warning frame line fault)) after same) few
  go false same = absurd cc

-- what there is after a line that gives this
given-few : (frame : Frame) (line : Line) (state after : RulesState) (names : List (List ℕ)) (given : Result Rule RuleFault)
    → ((rule : Rule) → given ≡ Ok rule → length state.rules + 1 ≤ most_rules) → length state.rules ≤ most_rules
    → after_line frame line state (record { rule = given; names = names }) ≡ Ok after → length after.rules ≤ most_rules
unfolding after_line
given-few frame line state after names (Ok rule) room few same =
    let next : RulesState = record { names = names; rules = state.rules ++ rule ∷ []; warnings = state.warnings } in
    let longer : length next.rules ≤ most_rules = omega (arith, room rule refl, length-append state.rules (rule ∷ [])) in
    subst (λ (s : RulesState). length s.rules ≤ most_rules) (same-state next after same) longer
given-few frame line state after names (Err fault) room few same = skipped-few frame line (record state { names = names }) after fault few same

after-few : (frame : Frame) (line : Line) (state after : RulesState) (is_refused : Bool) (verdict : Verdict) → LineGives frame state is_refused line.text verdict → length state.rules ≤ most_rules
    → after_line frame line state verdict ≡ Ok after → length after.rules ≤ most_rules
unfolding after_line
after-few frame line state after is_refused verdict gives few same =
    given-few frame line state after verdict.names verdict.rule (λ rule accepted. line-few frame state is_refused line.text verdict rule gives accepted) few same

-- ---- all lines

-- something follows by one of two ways on
on_either : {A B C : Type 0} (r : Result A B) (P : A → Type 0) (S : B → Type 0) → ((x : A) → r ≡ Ok x → P x → C) → ((y : B) → S y → C) → MatchResult r P S → C
on_either (Ok x) P S ok err p = ok x refl p
on_either (Err y) P S ok err p = err y p

lines-few : (frame : Frame) (refused : List ℕ) (place : ℕ) (state : RulesState) (lines : List Line) (end : RulesEnd)
    → length state.rules ≤ most_rules
    → RulesGive frame refused place state lines end
    → length end.rules ≤ most_rules
unfolding RulesGive
lines-few frame refused place state [] end few is = subst (λ (e : RulesEnd). length e.rules ≤ most_rules) (sym is) few
lines-few frame refused place state (line ∷ rest) end few (verdict, gives, on) =
    on_either (after_line frame line state verdict) (λ after. RulesGive frame refused (place + 1) after rest end) (λ message. end ≡ end_at state (Some message))
    (λ after same given. lines-few frame refused (place + 1) after rest end (after-few frame line state after (is_among refused place) verdict gives few same) given)
    (λ message is. subst (λ (e : RulesEnd). length e.rules ≤ most_rules) (sym is) few) on

pub answer-few : (frame : Frame) (lines : List Line) (start : RulesState) (grown : List Refusal) (end : RulesEnd)
    → length start.rules ≤ most_rules
    → RulesAnswer frame lines start grown end
    → length end.rules ≤ most_rules
answer-few frame lines start grown end few answer = lines-few frame answer.refused 0 start lines end few answer.gives
