-- A line that was read, and what there is after it.
use Rattle.std.proofs.Common.{◌≡◌, ◌≢◌, ℕ, Bool, true, false, cond, ◌&&◌, Option, Some, None, Result, Ok, Err, List, [], ◌∷◌, ◌++◌, length, refl, sym, ap, subst, ◌∙◌, inl, inr}
use Rattle.std.specs.Prelude.{All, nat_le}
use Rattle.std.specs.Bool.{OnTrue}
use Rattle.std.proofs.lemmas.Bool.{false≢true}
use Rattle.std.proofs.lemmas.List.Elements.{All-push, All-same}
use Rattle.edge_io.specs.declared.pattern.Refusal.{Refusal}
use Rattle.conf_types.specs.declared.classes.Class.{Class}
use Rattle.conf_parser.specs.declared.line.Line.{Line}
use Rattle.option_eval.specs.RuleSet.{RefusesOneOf}
use Rattle.rule_parser.specs.declared.fault.RuleFault.{RuleFault}
use Rattle.rule_types.specs.declared.rule.Rule.{Rule}
use Rattle.rule_parser.specs.declared.fault.RuleKind.TheVariants as kind
use Rattle.rule_parser.specs.Faults.{plain}
use Rattle.rule_types.specs.Sound.{IsSound}
use Rattle.snort_setup.specs.Rules.{Frame, RulesState, is_taken, most_rules, judged, IsRule, IsFaulty, LineGives, is_skippable, rule_warning, rule_error, after_fault, after_line}
use Rattle.snort_setup.specs.Steps.{is_memory, refused_one, Refuses, IsJudged}
use Rattle.snort_setup.proofs.Judging.{refused-none}
use Rattle.snort_setup.specs.Lines.{IsRead, AsksOf, IsStep, Skips, StepGives}

-- ---- a line that was read

pub read-judged : (frame : Frame) (before : RulesState) (text : List ℕ) (is_refused : Bool) (rule : Rule) (after : RulesState)
    (fault : Option RuleFault)
    → IsRule frame before.names text rule after.names
    → after.warnings ≡ before.warnings
    → IsJudged before.rules (judged before.rules is_refused rule) after.rules fault
    → IsRead frame before text is_refused after fault
unfolding LineGives
read-judged frame before text is_refused rule after fault is warnings judged_so =
    (record { rule = judged before.rules is_refused rule; names = after.names }, inl (rule, after.names, is, refl), (refl, warnings, judged_so))

pub read-faulty : (frame : Frame) (before : RulesState) (text : List ℕ) (is_refused : Bool) (names : List (List ℕ)) (fault : RuleFault) → IsFaulty frame before.names text fault → names ≡ before.names
    → IsRead frame before text is_refused (record before { names = names }) (Some fault)
unfolding LineGives
read-faulty frame before text is_refused names fault faulty same =
    (record { rule = Err fault; names = before.names }, inr (fault, faulty, refl), (same, refl, (refl, refl)))

-- what the maker refused is a pattern of the rule
pub asks-from : (frame : Frame) (names : List (List ℕ)) (text : List ℕ) (rule : Rule) (later : List (List ℕ))
    (old new : List Refusal)
    → IsRule frame names text rule later
    → Refuses rule.opts old new
    → AsksOf frame names text old new
asks-from frame names text rule later old new is refuses = go (refused_one old new) refuses where
  go : (b : Bool) → OnTrue b (RefusesOneOf rule.opts old new) → OnTrue b ((one : Rule) × (after : List (List ℕ)) × IsRule frame names text one after × RefusesOneOf one.opts old new)
  go true one = (rule, later, is, one)
  go false none = tt

-- where the maker refused nothing
pub asks-none : (frame : Frame) (names : List (List ℕ)) (text : List ℕ) (old new : List Refusal) → new ≡ old → AsksOf frame names text old new
asks-none frame names text old new same =
    subst (λ b. OnTrue b ((rule : Rule) × (later : List (List ℕ)) × IsRule frame names text rule later × RefusesOneOf rule.opts old new)) (sym (refused-none old new same)) tt

-- a fault that is not want of memory
pub not-memory : (fault : RuleFault) → is_memory fault.kind ≡ false → fault ≢ plain kind.NoMemory
not-memory fault is same = false≢true (sym is ∙ ap (λ (f : RuleFault). is_memory f.kind) same)

-- a rule that is judged is itself, or refused
judged-same : (rules : List Rule) (is_refused : Bool) (rule other : Rule) → judged rules is_refused rule ≡ Ok other → other ≡ rule
unfolding judged
judged-same rules is_refused rule other = go (is_taken rules rule) (nat_le most_rules (length rules)) is_refused where
  go : (a b c : Bool) → cond a (Err (plain kind.DuplicateSid)) (cond b (Err (plain kind.Limit)) (cond c (Err (plain kind.PatternRefused)) (Ok rule))) ≡ Ok other → other ≡ rule
  go true b c e = cc
  go false true c e = cc
  go false false true e = cc
  go false false false e = cc

-- rules that are judged stay sound
pub sound-judged : (classes : List Class) (rules after : List Rule) (is_refused : Bool) (rule : Rule) (fault : Option RuleFault) → IsSound classes rule → All (IsSound classes) rules
    → IsJudged rules (judged rules is_refused rule) after fault → All (IsSound classes) after
sound-judged classes rules after is_refused rule fault sound all judged_so = go (judged rules is_refused rule) (judged-same rules is_refused rule) judged_so where
  go : (r : Result Rule RuleFault) → ((other : Rule) → r ≡ Ok other → other ≡ rule) → IsJudged rules r after fault → All (IsSound classes) after
  go (Ok other) same (is, none) = All-same (IsSound classes) after (rules ++ other ∷ []) is (All-push (IsSound classes) rules other all (subst (IsSound classes) (sym (same other refl)) sound))
  go (Err why) same (is, some) = All-same (IsSound classes) after rules is all

-- ---- and what there is after it

state-is : (state : RulesState) (names : List (List ℕ)) (rules : List Rule) (warnings : List (List ℕ)) → state.names ≡ names → state.rules ≡ rules → state.warnings ≡ warnings
    → state ≡ record { names = names; rules = rules; warnings = warnings }
state-is state names rules warnings a b c = λ i. record { names = a i; rules = b i; warnings = c i }

pub step-accepted : (frame : Frame) (line : Line) (before : RulesState) (is_refused : Bool) (after : RulesState)
    → IsRead frame before line.text is_refused after None
    → StepGives frame line before is_refused after None
unfolding after_line
step-accepted frame line before is_refused after (verdict, gives, (names, warnings, judged_so)) = (verdict, gives, go verdict.rule judged_so) where
  go : (rule : Result Rule RuleFault) → IsJudged before.rules rule after.rules None → IsStep before (after_line frame line before (record { rule = rule; names = verdict.names })) after None
  go (Ok rule) (rules, none) = (state-is after verdict.names (before.rules ++ rule ∷ []) before.warnings names rules warnings, refl)
  go (Err why) (rules, some) = let never : None ≡ Some why = some in cc

-- the names don't matter where a line is refused
step-names : (before : RulesState) (names : List (List ℕ)) (r : Result RulesState (List ℕ)) (after : RulesState)
    (refusal : Option (List ℕ))
    → IsStep (record before { names = names }) r after refusal
    → IsStep before r after refusal
step-names before names (Ok next) after refusal step = step
step-names before names (Err message) after refusal step = step

pub step-refused : (frame : Frame) (line : Line) (before : RulesState) (is_refused : Bool) (mid after : RulesState)
    (fault : RuleFault) (refusal : Option (List ℕ))
    → IsRead frame before line.text is_refused mid (Some fault)
    → Skips frame line mid fault after refusal
    → StepGives frame line before is_refused after refusal
unfolding after_line
step-refused frame line before is_refused mid after fault refusal (verdict, gives, (names, warnings, judged_so)) skips = (verdict, gives, go verdict.rule judged_so) where
  go : (rule : Result Rule RuleFault) → IsJudged before.rules rule mid.rules (Some fault) → IsStep before (after_line frame line before (record { rule = rule; names = verdict.names })) after refusal
  go (Ok rule) (rules, some) = let never : Some fault ≡ None = some in cc
  go (Err why) (rules, some) =
      let same : fault ≡ why = cc in
      let mid_is : mid ≡ record before { names = verdict.names } = state-is mid verdict.names before.rules before.warnings names rules warnings in
      let one = subst (λ (s : RulesState). IsStep s (after_fault frame line s fault) after refusal) mid_is skips in
      let two = subst (λ (f : RuleFault). IsStep (record before { names = verdict.names }) (after_fault frame line (record before { names = verdict.names }) f) after refusal) same one in
      step-names before verdict.names (after_fault frame line (record before { names = verdict.names }) why) after refusal two

-- a line that may be skipped, and one that may not
pub skips-warned : (frame : Frame) (line : Line) (before : RulesState) (fault : RuleFault) (warnings : List (List ℕ))
    → (frame.skips && is_skippable fault.kind) ≡ true
    → warnings ≡ before.warnings ++ rule_warning frame line fault ∷ []
    → Skips frame line before fault (record before { warnings = warnings }) None
unfolding after_fault
skips-warned frame line before fault warnings may same = rw may (λ i. record before { warnings = same i }, refl)

pub skips-refused : (frame : Frame) (line : Line) (before : RulesState) (fault : RuleFault) (message : List ℕ)
    → (frame.skips && is_skippable fault.kind) ≡ false
    → message ≡ rule_error frame line fault
    → Skips frame line before fault before (Some message)
unfolding after_fault
skips-refused frame line before fault message may same = rw may (refl, refl, ap (λ (m : List ℕ). Some m) same)
