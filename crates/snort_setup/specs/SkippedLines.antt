-- A rule line that `--skip-refused` skips, and the rule lines without it.
--
-- What a line that is skipped changes is one warning. Its place among the rule lines is lost with it, so those of
-- the lines after it that are refused are one less. A rule whose pattern is refused counts by the names of its
-- flowbits (`Rules`): where it is the first to have one, it isn't as if it weren't there.
-- To try it on: of three rules the first of which is outside the profile, the other two are accepted as they are
-- without it, and the warning on it comes before all others of rules.
use Rattle.std.specs.Prelude.{◌≡◌, ◌<◌, ℕ, ◌+◌, Bool, false, true, List, ◌∷◌, ◌++◌, length, Err}
use Rattle.conf_parser.specs.declared.line.Line.{Line}
use Rattle.rule_parser.specs.declared.fault.RuleFault.{RuleFault}
use Rattle.rule_types.specs.declared.rule.Rule.{Rule}
use Rattle.snort_setup.specs.Rules.{Frame, IsRule, LineGives, RulesEnd, RulesGive, RulesState, is_among, is_skippable, is_taken, most_rules, rule_warning}

-- after what there is, a line gives a fault that is skipped, and no new name of a flowbit
pub record IsSkipped (frame : Frame) (state : RulesState) (is_refused : Bool) (line : Line) (fault : RuleFault) : Type 0 where
  pub skips : frame.skips ≡ true
  pub skippable : is_skippable fault.kind ≡ true
  pub gives : LineGives frame state is_refused line.text (record { rule = Err fault; names = state.names })

-- a rule whose pattern is refused: its names of flowbits were there before, its number is free, and there is room for it
pub record IsRefusedRule (frame : Frame) (state : RulesState) (line : Line) : Type 0 where
  pub skips : frame.skips ≡ true
  pub rule : Rule
  pub is : IsRule frame state.names line.text rule state.names
  pub free : is_taken state.rules rule ≡ false
  pub room : length state.rules < most_rules

-- the refused places from this one on, where the line at it is no longer counted
abbrev pub AreMoved : ℕ → List ℕ → List ℕ → Type 0
AreMoved place refused moved = (k : ℕ) → is_among moved (place + k) ≡ is_among refused (place + (1 + k))

-- two ends of rule lines have the same rules and refusal, and one has a warning more, after these and before all others
pub record HasOneMore (before : List (List ℕ)) (warning : List ℕ) (all less : RulesEnd) : Type 0 where
  pub rules : all.rules ≡ less.rules
  pub refusal : all.refusal ≡ less.refusal
  pub later : List (List ℕ)
  pub with_it : all.warnings ≡ before ++ warning ∷ later
  pub without : less.warnings ≡ before ++ later

-- a line, where it is skipped for a fault, only warns: whatever lines follow, they end as they do without it, with the same
-- rules and the same refusal, but for its warning
abbrev pub OnlyWarns : Frame → RulesState → Line → RuleFault → Type 0
OnlyWarns frame state line fault =
    (refused moved : List ℕ) (place : ℕ) (rest : List Line) (all : RulesEnd)
    → IsSkipped frame state (is_among refused place) line fault → AreMoved place refused moved
    → RulesGive frame refused place state (line ∷ rest) all
    → (less : RulesEnd) × RulesGive frame moved place state rest less
    × HasOneMore state.warnings (rule_warning frame line fault) all less
