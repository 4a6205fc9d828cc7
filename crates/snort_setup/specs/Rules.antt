-- What the rule lines of a configuration give, one after another.
--
-- Each line is read after the names of flowbits that come before it. A rule is then refused, in this order,
-- where an accepted rule has its generator's number and its own, where 65536 rules come before it, and where
-- its pattern is refused. The refusal ends the setup; but where the words say so, a rule outside the profile, or
-- one whose pattern is refused, gives a warning and no rule: its number stays free. The names of its flowbits
-- count where its pattern was refused, and do not where the line is outside the profile.
-- (Rules by Snort Users Manual 2.9, chapter 3; that gid and sid name one rule, section 3.4; which patterns are
-- refused is the maker's: the refused lines are numbered from 0, as they are read.)
-- To try it on: of two rules with `sid:1;` the second is refused, unless the first was skipped.
use Rattle.std.specs.Prelude.{◌≡◌, ◌⊎◌, ◌≢◌, ℕ, ◌+◌, ◌==◌, ◌&&◌, Bool, true, false, List, [], ◌∷◌, ◌++◌, Option, Some, None, Result, Ok, Err, length, nat_le, if◌then◌else◌}
use Rattle.std.specs.List.{list_any}
use Rattle.std.specs.Result.{MatchResult}
use Rattle.net_lists.specs.Variables.{Variables}
use Rattle.conf_types.specs.declared.classes.Class.{Class}
use Rattle.conf_parser.specs.declared.line.Line.{Line}
use Rattle.rule_parser.specs.declared.fault.RuleKind.{RuleKind}
use Rattle.rule_parser.specs.declared.fault.RuleKind.TheVariants as kind
use Rattle.rule_parser.specs.declared.fault.RuleFault.{RuleFault}
use Rattle.rule_types.specs.declared.rule.Rule.{Rule}
use Rattle.rule_parser.specs.Faults.{plain}
use Rattle.rule_parser.specs.RuleLine.{IsRuleLine, IsAnswered}
use Rattle.snort_setup.specs.Texts.{rule_text, shown_by, file_at, error_line, warning_line}

-- what all rule lines of a configuration are read in: its variables and classes, the names of its files, and
-- whether refused rules are skipped
pub record Frame : Type 0 where
  pub variables : Variables
  pub classes : List Class
  pub files : List (List ℕ)
  pub skips : Bool

-- what there is after some rule lines: the names of flowbits, the accepted rules, and all warnings
pub record RulesState : Type 0 where
  pub names : List (List ℕ)
  pub rules : List Rule
  pub warnings : List (List ℕ)

-- before the first rule line, after these warnings
abbrev pub nothing_read : List (List ℕ) → RulesState
nothing_read warnings = record { names = []; rules = []; warnings = warnings }

-- what a line gives: its rule, or why it has none, and the names of flowbits after it
pub record Verdict : Type 0 where
  pub rule : Result Rule RuleFault
  pub names : List (List ℕ)

-- ---- one line

-- two rules have one number: that of the generator, and that of the rule
abbrev pub same_number : Rule → Rule → Bool
same_number a b = a.gid == b.gid && a.sid == b.sid

-- an accepted rule has the number of this one
abbrev pub is_taken : List Rule → Rule → Bool
is_taken rules rule = list_any (λ other. same_number other rule) rules

-- how many rules there may be
abbrev pub most_rules : ℕ
most_rules = 65536

-- a rule after the accepted ones, where its pattern is refused or is not
unfoldable pub judged : List Rule → Bool → Rule → Result Rule RuleFault
judged rules is_refused rule =
    if is_taken rules rule then Err (plain kind.DuplicateSid)
    else if nat_le most_rules (length rules) then Err (plain kind.Limit)
    else if is_refused then Err (plain kind.PatternRefused)
    else Ok rule

-- the line is this rule, with these names of flowbits after it
abbrev pub IsRule : Frame → List (List ℕ) → List ℕ → Rule → List (List ℕ) → Type 0
IsRule frame names text rule later =
    IsAnswered (length text) (Ok rule) later (IsRuleLine frame.variables frame.classes names text)

-- the line is none, for this fault
abbrev pub IsFaulty : Frame → List (List ℕ) → List ℕ → RuleFault → Type 0
IsFaulty frame names text fault =
    IsAnswered (length text) (Err fault) names (IsRuleLine frame.variables frame.classes names text)
    × (fault ≢ plain kind.NoMemory)

-- what a line gives, where its pattern is refused or is not
unfoldable pub LineGives : Frame → RulesState → Bool → List ℕ → Verdict → Type 0
LineGives frame state is_refused text verdict =
    ((rule : Rule) × (later : List (List ℕ)) × IsRule frame state.names text rule later
    × (verdict ≡ record { rule = judged state.rules is_refused rule; names = later }))
    ⊎ ((fault : RuleFault) × IsFaulty frame state.names text fault
    × (verdict ≡ record { rule = Err fault; names = state.names }))

-- ---- and what there is then

-- the refusals that may be skipped
abbrev pub is_skippable : RuleKind → Bool
is_skippable kind.OutsideProfile = true
is_skippable kind.PatternRefused = true
is_skippable _ = false

-- the text of a line's refusal
abbrev pub fault_text : Line → RuleFault → List ℕ
fault_text line fault = rule_text (shown_by line.text fault) fault.kind

-- a line's refusal as a warning, and as an error
abbrev pub rule_warning : Frame → Line → RuleFault → List ℕ
rule_warning frame line fault = warning_line (file_at frame.files line.file) line.line (fault_text line fault)

abbrev pub rule_error : Frame → Line → RuleFault → List ℕ
rule_error frame line fault = error_line (file_at frame.files line.file) line.line (fault_text line fault)

-- one warning more
abbrev pub with_warning : RulesState → List ℕ → RulesState
with_warning state warning = record state { warnings = state.warnings ++ warning ∷ [] }

-- what there is after a line that is none for this fault, or the error that ends the setup
unfoldable pub after_fault : Frame → Line → RulesState → RuleFault → Result RulesState (List ℕ)
after_fault frame line state fault = if frame.skips && is_skippable fault.kind
    then Ok (with_warning state (rule_warning frame line fault)) else Err (rule_error frame line fault)

-- what there is after a line that gives this, or the error
unfoldable pub after_line : Frame → Line → RulesState → Verdict → Result RulesState (List ℕ)
after_line frame line state verdict = elim verdict.rule [
  | Ok rule ↦ Ok (record { names = verdict.names; rules = state.rules ++ rule ∷ []; warnings = state.warnings })
  | Err fault ↦ after_fault frame line (record state { names = verdict.names }) fault
]

-- ---- all lines

-- the line at this place is one whose pattern is refused
abbrev pub is_among : List ℕ → ℕ → Bool
is_among refused place = list_any (λ other. other == place) refused

-- how rule lines end: the accepted rules and the warnings after them, or those before the line that is refused
-- with this error
pub record RulesEnd : Type 0 where
  pub rules : List Rule
  pub warnings : List (List ℕ)
  pub refusal : Option (List ℕ)

abbrev pub end_at : RulesState → Option (List ℕ) → RulesEnd
end_at state refusal = record { rules = state.rules; warnings = state.warnings; refusal = refusal }

-- How these rule lines end, of which the first has this place among all, after what there is; the patterns of the
-- lines at the refused places are refused, and no others.
unfoldable pub RulesGive : Frame → List ℕ → ℕ → RulesState → List Line → RulesEnd → Type 0
RulesGive frame refused place state [] end = end ≡ end_at state None
RulesGive frame refused place state (line ∷ rest) end =
    (verdict : Verdict) × LineGives frame state (is_among refused place) line.text verdict
    × MatchResult (after_line frame line state verdict) (λ after. RulesGive frame refused (place + 1) after rest end)
    (λ message. end ≡ end_at state (Some message))
