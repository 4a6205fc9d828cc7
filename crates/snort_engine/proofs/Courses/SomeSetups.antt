-- Rule lines have some end, and words some setup, over all files and whichever lines are refused.
use Rattle.std.proofs.Common.{◌≡◌, ℕ, ◌+◌, ◌⊎◌, inl, inr, Bool, List, [], ◌∷◌, length, Some, None, Result, Ok, Err, refl}
use Rattle.std.specs.Prelude.{◌≢◌}
use Rattle.std.specs.Result.{MatchResult}
use Rattle.edge_io.specs.Files.{Files}
use Rattle.conf_parser.specs.declared.line.Line.{Line}
use Rattle.conf_parser.specs.Loaded.{loaded_of}
use Rattle.conf_parser.specs.Reading.{Ended, Whole, Refused as RefusedAt, Asks, told}
use Rattle.rule_types.specs.declared.rule.Rule.{Rule}
use Rattle.rule_parser.specs.declared.fault.RuleFault.{RuleFault}
use Rattle.rule_parser.specs.declared.fault.RuleKind.TheVariants as kind
use Rattle.rule_parser.specs.Faults.{plain}
use Rattle.rule_parser.specs.RuleLine.{IsAnswered, IsRuleLine}
use Rattle.rule_parser.proofs.Lines.SomeMeaning.{some_meaning}
use Rattle.snort_setup.specs.Words.{Words}
use Rattle.snort_setup.specs.Rules.{Frame, LineGives, RulesEnd, RulesGive, RulesState, Verdict, after_line, end_at, is_among, judged, nothing_read}
use Rattle.snort_setup.specs.Setup.{IsRuledBy, IsSetup, Ready, Ruled, Warned, conf_read, conf_warnings, frame_of, ruled_by, with_table}

-- a line gives a verdict, whether its pattern is refused or not
line_gives : (frame : Frame) (state : RulesState) (is_refused : Bool) (text : List ℕ) → (verdict : Verdict) × LineGives frame state is_refused text verdict
unfolding LineGives
line_gives frame state is_refused text = by_meaning (some_meaning frame.variables frame.classes state.names text)
  where
    by_meaning : ((rule : Rule) × (later : List (List ℕ)) × IsAnswered (length text) (Ok rule) later (IsRuleLine frame.variables frame.classes state.names text))
        ⊎ ((fault : RuleFault) × IsAnswered (length text) (Err fault) state.names (IsRuleLine frame.variables frame.classes state.names text) × (fault ≢ plain kind.NoMemory))
        → (verdict : Verdict) × LineGives frame state is_refused text verdict
    by_meaning (inl (rule, later, is)) = (record { rule = judged state.rules is_refused rule; names = later }, inl (rule, later, is, refl))
    by_meaning (inr (fault, answered, never)) = (record { rule = Err fault; names = state.names }, inr (fault, (answered, never), refl))

-- what a step leaves ends somehow
ends_by : (frame : Frame) (refused : List ℕ) (place : ℕ) (state : RulesState) (rest : List Line) (step : Result RulesState (List ℕ))
    → ((after : RulesState) → (end : RulesEnd) × RulesGive frame refused (place + 1) after rest end)
    → (end : RulesEnd) × MatchResult step (λ after. RulesGive frame refused (place + 1) after rest end) (λ message. end ≡ end_at state (Some message))
ends_by frame refused place state rest (Ok after) more = more after
ends_by frame refused place state rest (Err message) more = (end_at state (Some message), refl)

-- rule lines end, whichever of them are refused
rules_give : (frame : Frame) (refused : List ℕ) (place : ℕ) (state : RulesState) (lines : List Line) → (end : RulesEnd) × RulesGive frame refused place state lines end
unfolding RulesGive
rules_give frame refused place state [] = (end_at state None, refl)
rules_give frame refused place state (line ∷ rest) =
    let verdict = line_gives frame state (is_among refused place) line.text in
    let end = ends_by frame refused place state rest (after_line frame line state verdict.0) (λ after. rules_give frame refused (place + 1) after rest) in
    (end.0, (verdict.0, verdict.1, end.1))

-- ---- a setup

ruled_some : (words : Words) (refused : List ℕ) (ended : Ended) → (given : Warned Ruled) × IsRuledBy words refused ended given
unfolding IsRuledBy
ruled_some words refused (Whole read) =
    let loaded = loaded_of read in
    let end = rules_give (frame_of words.skips read.settings.vars loaded) refused 0 (nothing_read (conf_warnings loaded.files loaded.warnings)) loaded.rules in
    (ruled_by loaded end.0, (end.0, end.1, refl))
ruled_some words refused (RefusedAt fault output) = (_, refl)
ruled_some words refused (Asks name output) = (_, refl)

-- words have a setup over all files, whichever lines are refused
pub some_setup : (words : Words) (files : Files) (refused : List ℕ) → (setup : Warned Ready) × IsSetup words files refused setup
some_setup words files refused =
    let given = ruled_some words refused (conf_read words (told files)) in
    (with_table words files given.0, (given.0, given.1, refl))
