-- What the code gives over rule lines: one, and all.
use Rattle.std.specs.Prelude.{◌≡◌, ℕ, Bool, List, [], Option, Some, None, Result, Ok, Err, All}
use Rattle.std.specs.Bool.{OnTrue}
use Rattle.edge_io.specs.declared.pattern.Refusal.{Refusal}
use Rattle.edge_io.specs.declared.pattern.Span.{Span}
use Rattle.conf_types.specs.declared.classes.Class.{Class}
use Rattle.conf_parser.specs.declared.line.Line.{Line}
use Rattle.option_eval.specs.Places.{Means}
use Rattle.option_eval.specs.RuleSet.{Rules, FindWhatIsMeant, RefusesOneOf}
use Rattle.rule_parser.specs.declared.fault.RuleFault.{RuleFault}
use Rattle.rule_types.specs.declared.rule.Rule.{Rule}
use Rattle.rule_types.specs.Sound.{IsSound}
use Rattle.snort_setup.specs.declared.rules.LinesIn as lines
use Rattle.snort_setup.specs.declared.rules.Progress as progress
use Rattle.snort_setup.specs.Rules.{Frame, RulesState, Verdict, RulesEnd, IsRule, LineGives, RulesGive, after_line, after_fault}
use Rattle.snort_setup.specs.Answers.{AreRefused}
use Rattle.snort_setup.specs.Steps.{refused_one, IsJudged}

-- ---- what the code's values stand for

abbrev pub lines_frame : lines.LinesIn → Frame
lines_frame lines = record {
  variables = lines.vars.now;
  classes = lines.classes.now;
  files = lines.files.now;
  skips = lines.skips;
}

abbrev pub state_of : {P : Type 0} → progress.Progress P → RulesState
state_of progress = record { names = progress.names; rules = progress.accepted.rules; warnings = progress.warnings }

-- what there is before the first line
abbrev pub first_progress : {P : Type 0} → List (List ℕ) → progress.Progress P
first_progress warnings = record { accepted = record { rules = []; patterns = [] }; names = []; warnings = warnings }

-- accepted rules stay sound, and their patterns find what is meant
pub record StayReady {P : Type 0} (finds : P → List ℕ → Option Span) (means : Means) (classes : List Class)
    (old new : Rules P) : Type 0 where
  pub sound : All (IsSound classes) old.rules → All (IsSound classes) new.rules
  pub meant : FindWhatIsMeant finds means old → FindWhatIsMeant finds means new

-- ---- one line

-- a verdict, with the warnings that were there before it
abbrev pub IsAfter : RulesState → Verdict → RulesState → Option RuleFault → Type 0
IsAfter before verdict after fault =
    (after.names ≡ verdict.names) × (after.warnings ≡ before.warnings) × IsJudged before.rules verdict.rule after.rules fault

-- a line was read, where its pattern is refused or is not
abbrev pub IsRead : Frame → RulesState → List ℕ → Bool → RulesState → Option RuleFault → Type 0
IsRead frame before text is_refused after fault =
    (verdict : Verdict) × LineGives frame before is_refused text verdict × IsAfter before verdict after fault

-- where the maker refused something, it is a pattern of the rule that the line is
abbrev pub AsksOf : Frame → List (List ℕ) → List ℕ → List Refusal → List Refusal → Type 0
AsksOf frame names text old new =
    OnTrue (refused_one old new) ((rule : Rule) × (later : List (List ℕ)) × IsRule frame names text rule later
    × RefusesOneOf rule.opts old new)

-- a step as stated: it goes on with what there is then, or ends with this error where what counts is as before
abbrev pub IsStep : RulesState → Result RulesState (List ℕ) → RulesState → Option (List ℕ) → Type 0
IsStep before (Ok after) state refusal = (state ≡ after) × (refusal ≡ None)
IsStep before (Err message) state refusal =
    (state.rules ≡ before.rules) × (state.warnings ≡ before.warnings) × (refusal ≡ Some message)

-- what there is after a line that is none for this fault, and the error, if it ends there
abbrev pub Skips : Frame → Line → RulesState → RuleFault → RulesState → Option (List ℕ) → Type 0
Skips frame line before fault after refusal = IsStep before (after_fault frame line before fault) after refusal

-- what there is after a line, and the error, if it ends there
abbrev pub StepGives : Frame → Line → RulesState → Bool → RulesState → Option (List ℕ) → Type 0
StepGives frame line before is_refused after refusal =
    (verdict : Verdict) × LineGives frame before is_refused line.text verdict
    × IsStep before (after_line frame line before verdict) after refusal

-- ---- all lines

-- how all lines end, from what there is before them, with those whose patterns the maker refused
pub record RulesAnswer (frame : Frame) (lines : List Line) (start : RulesState) (grown : List Refusal) (end : RulesEnd)
    : Type 0 where
  pub refused : List ℕ
  pub are_refused : AreRefused frame lines refused grown
  pub gives : RulesGive frame refused 0 start lines end
