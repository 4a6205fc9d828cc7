-- Rule lines after a warning more end as they do without it.
use Rattle.std.proofs.Common.{◌≡◌, ℕ, ◌+◌, Bool, true, false, List, [], ◌∷◌, ◌++◌, Option, Some, None, Result, Ok, Err, refl, sym, ap, subst, ◌∙◌, append_assoc, arith, inl, inr, length, ◌<◌}
use Rattle.std.specs.Prelude.{◌&&◌, if◌then◌else◌, nat_le}
use Rattle.std.specs.Result.{MatchResult}
use Rattle.std.proofs.lemmas.List.{append-nil}
use Rattle.std.proofs.lemmas.Bool.Decides.{nat_tests}
use Rattle.conf_parser.specs.declared.line.Line.{Line}
use Rattle.rule_parser.specs.declared.fault.RuleFault.{RuleFault}
use Rattle.rule_parser.specs.declared.fault.RuleKind.TheVariants as kind
use Rattle.rule_parser.specs.Faults.{plain}
use Rattle.rule_types.specs.declared.rule.Rule.{Rule}
use Rattle.snort_setup.specs.Rules.{Frame, IsFaulty, LineGives, RulesEnd, RulesGive, RulesState, Verdict, after_fault, after_line}
use Rattle.snort_setup.specs.Rules.{end_at, is_among, is_skippable, is_taken, judged, most_rules, rule_error, rule_warning}
use Rattle.snort_setup.specs.SkippedLines.{AreMoved, HasOneMore, IsRefusedRule, IsSkipped, OnlyWarns}
use Rattle.snort_setup.proofs.One.{verdict-one}

-- what there is, with these warnings
abbrev holds : List (List ℕ) → List Rule → List (List ℕ) → RulesState
holds names rules warnings = record { names = names; rules = rules; warnings = warnings }

-- the end of the lines without a warning, for their end with it
record Alike (frame : Frame) (moved : List ℕ) (place : ℕ) (names : List (List ℕ)) (rules : List Rule) (before : List (List ℕ)) (warning : List ℕ)
    (later : List (List ℕ)) (lines : List Line) (all : RulesEnd) : Type 0 where
  less : RulesEnd
  give : RulesGive frame moved place (holds names rules (before ++ later)) lines less
  more : HasOneMore before warning all less

-- what a line gives doesn't go by the warnings
gives_too : (frame : Frame) (names : List (List ℕ)) (rules : List Rule) (warnings others : List (List ℕ)) (is_refused : Bool) (text : List ℕ) (verdict : Verdict)
    → LineGives frame (holds names rules warnings) is_refused text verdict → LineGives frame (holds names rules others) is_refused text verdict
unfolding LineGives
gives_too frame names rules warnings others is_refused text verdict gives = gives

-- the end of no more lines
end_alike : (rules : List Rule) (names before : List (List ℕ)) (warning : List ℕ) (later : List (List ℕ)) (refusal : Option (List ℕ)) (all : RulesEnd)
    → all ≡ end_at (holds names rules (before ++ warning ∷ later)) refusal
    → HasOneMore before warning all (end_at (holds names rules (before ++ later)) refusal)
end_alike rules names before warning later refusal all is = record {
  rules = ap (λ (e : RulesEnd). e.rules) is;
  refusal = ap (λ (e : RulesEnd). e.refusal) is;
  later = later;
  with_it = ap (λ (e : RulesEnd). e.warnings) is;
  without = refl;
}

-- how lines go on after one
abbrev GoesOn : Frame → List ℕ → ℕ → RulesState → List Line → RulesEnd → Result RulesState (List ℕ) → Type 0
GoesOn frame refused place state rest all result =
    MatchResult result (λ after. RulesGive frame refused (place + 1) after rest all) (λ message. all ≡ end_at state (Some message))

-- a line's step by what it gives
step_ok : (frame : Frame) (line : Line) (names : List (List ℕ)) (rules : List Rule) (warnings : List (List ℕ)) (rule : Rule) (own : List (List ℕ))
    → after_line frame line (holds names rules warnings) (record { rule = Ok rule; names = own }) ≡ Ok (holds own (rules ++ rule ∷ []) warnings)
unfolding after_line
step_ok frame line names rules warnings rule own = refl

step_fault : (frame : Frame) (line : Line) (names : List (List ℕ)) (rules : List Rule) (warnings : List (List ℕ)) (fault : RuleFault) (own : List (List ℕ)) (test : Bool)
    → (frame.skips && is_skippable fault.kind) ≡ test
    → after_line frame line (holds names rules warnings) (record { rule = Err fault; names = own })
    ≡ (if test then Ok (holds own rules (warnings ++ rule_warning frame line fault ∷ [])) else Err (rule_error frame line fault))
unfolding after_line after_fault
step_fault frame line names rules warnings fault own test is =
    ap (λ (t : Bool). if t then Ok (holds own rules (warnings ++ rule_warning frame line fault ∷ [])) else Err (rule_error frame line fault)) is

-- the next places
moved_on : (place : ℕ) (refused moved : List ℕ) → AreMoved place refused moved → AreMoved (place + 1) refused moved
moved_on place refused moved are k =
    let one : (place + 1) + k ≡ place + (1 + k) = omega arith in
    let two : place + (1 + (1 + k)) ≡ (place + 1) + (1 + k) = omega arith in
    ap (is_among moved) one ∙ are (1 + k) ∙ ap (is_among refused) two

moved_here : (place : ℕ) (refused moved : List ℕ) → AreMoved place refused moved → is_among moved place ≡ is_among refused (place + 1)
moved_here place refused moved are =
    let one : place ≡ place + 0 = omega arith in
    ap (is_among moved) one ∙ are 0

-- a line that ends the setup
stops_alike : (frame : Frame) (moved : List ℕ) (place : ℕ) (names : List (List ℕ)) (rules : List Rule) (before : List (List ℕ)) (warning : List ℕ)
    (later : List (List ℕ)) (line : Line) (rest : List Line) (all : RulesEnd) (fault : RuleFault) (own : List (List ℕ))
    → (frame.skips && is_skippable fault.kind) ≡ false
    → LineGives frame (holds names rules (before ++ later)) (is_among moved place) line.text (record { rule = Err fault; names = own })
    → all ≡ end_at (holds names rules (before ++ warning ∷ later)) (Some (rule_error frame line fault))
    → Alike frame moved place names rules before warning later (line ∷ rest) all
unfolding RulesGive
stops_alike frame moved place names rules before warning later line rest all fault own test gives is =
    let less = end_at (holds names rules (before ++ later)) (Some (rule_error frame line fault)) in
    record {
      less = less;
      give = (
        record { rule = Err fault; names = own },
        gives,
        subst (GoesOn frame moved place (holds names rules (before ++ later)) rest less)
            (sym (step_fault frame line names rules (before ++ later) fault own false test)) refl,
      );
      more = end_alike rules names before warning later (Some (rule_error frame line fault)) all is;
    }

-- a line that is skipped
skips_alike : (frame : Frame) (moved : List ℕ) (place : ℕ) (names : List (List ℕ)) (rules : List Rule) (before : List (List ℕ)) (warning : List ℕ)
    (later : List (List ℕ)) (line : Line) (rest : List Line) (all : RulesEnd) (fault : RuleFault) (own : List (List ℕ))
    → (frame.skips && is_skippable fault.kind) ≡ true
    → LineGives frame (holds names rules (before ++ later)) (is_among moved place) line.text (record { rule = Err fault; names = own })
    → Alike frame moved (place + 1) own rules before warning (later ++ rule_warning frame line fault ∷ []) rest all
    → Alike frame moved place names rules before warning later (line ∷ rest) all
unfolding RulesGive
skips_alike frame moved place names rules before warning later line rest all fault own test gives next =
    let told = rule_warning frame line fault in
    let goes : RulesGive frame moved (place + 1) (holds own rules ((before ++ later) ++ told ∷ [])) rest next.less =
    subst (λ (warnings : List (List ℕ)). RulesGive frame moved (place + 1) (holds own rules warnings) rest next.less)
    (sym (append_assoc before later (told ∷ []))) next.give in
    record {
      less = next.less;
      give = (
        record { rule = Err fault; names = own },
        gives,
        subst (GoesOn frame moved place (holds names rules (before ++ later)) rest next.less)
            (sym (step_fault frame line names rules (before ++ later) fault own true test)) goes,
      );
      more = next.more;
    }

-- a line that is a rule
rule_alike : (frame : Frame) (moved : List ℕ) (place : ℕ) (names : List (List ℕ)) (rules : List Rule) (before : List (List ℕ)) (warning : List ℕ)
    (later : List (List ℕ)) (line : Line) (rest : List Line) (all : RulesEnd) (rule : Rule) (own : List (List ℕ))
    → LineGives frame (holds names rules (before ++ later)) (is_among moved place) line.text (record { rule = Ok rule; names = own })
    → Alike frame moved (place + 1) own (rules ++ rule ∷ []) before warning later rest all
    → Alike frame moved place names rules before warning later (line ∷ rest) all
unfolding RulesGive
rule_alike frame moved place names rules before warning later line rest all rule own gives next =
    record {
      less = next.less;
      give = (
        record { rule = Ok rule; names = own },
        gives,
        subst (GoesOn frame moved place (holds names rules (before ++ later)) rest next.less)
            (sym (step_ok frame line names rules (before ++ later) rule own)) next.give,
      );
      more = next.more;
    }

-- the lines after one, whatever there is after it, with the warning more
abbrev GoOn : Frame → List ℕ → List ℕ → ℕ → List (List ℕ) → List ℕ → List Line → RulesEnd → Type 0
GoOn frame refused moved place before warning rest all =
    (own : List (List ℕ)) (known : List Rule) (told : List (List ℕ))
    → RulesGive frame refused ((place + 1) + 1) (holds own known (before ++ warning ∷ told)) rest all
    → Alike frame moved (place + 1) own known before warning told rest all

fault_alike : (frame : Frame) (refused moved : List ℕ) (place : ℕ) (names : List (List ℕ)) (rules : List Rule) (before : List (List ℕ)) (warning : List ℕ)
    (later : List (List ℕ)) (line : Line) (rest : List Line) (all : RulesEnd) → GoOn frame refused moved place before warning rest all
    → (fault : RuleFault) (own : List (List ℕ)) (test : Bool) → (frame.skips && is_skippable fault.kind) ≡ test
    → LineGives frame (holds names rules (before ++ later)) (is_among moved place) line.text (record { rule = Err fault; names = own })
    → GoesOn frame refused (place + 1) (holds names rules (before ++ warning ∷ later)) rest all
    (after_line frame line (holds names rules (before ++ warning ∷ later)) (record { rule = Err fault; names = own }))
    → Alike frame moved place names rules before warning later (line ∷ rest) all
fault_alike frame refused moved place names rules before warning later line rest all on fault own true is gives goes =
    let with_it = before ++ warning ∷ later in
    let told = rule_warning frame line fault in
    let next : RulesGive frame refused ((place + 1) + 1) (holds own rules (with_it ++ told ∷ [])) rest all =
    subst (GoesOn frame refused (place + 1) (holds names rules with_it) rest all) (step_fault frame line names rules with_it fault own true is) goes in
    skips_alike frame moved place names rules before warning later line rest all fault own is gives
    (on own rules (later ++ told ∷ [])
    (subst (λ (warnings : List (List ℕ)). RulesGive frame refused ((place + 1) + 1) (holds own rules warnings) rest all)
    (append_assoc before (warning ∷ later) (told ∷ [])) next))
fault_alike frame refused moved place names rules before warning later line rest all on fault own false is gives goes =
    let with_it = before ++ warning ∷ later in
    let end : all ≡ end_at (holds names rules with_it) (Some (rule_error frame line fault)) =
    subst (GoesOn frame refused (place + 1) (holds names rules with_it) rest all) (step_fault frame line names rules with_it fault own false is) goes in
    stops_alike frame moved place names rules before warning later line rest all fault own is gives end

line_alike : (frame : Frame) (refused moved : List ℕ) (place : ℕ) (names : List (List ℕ)) (rules : List Rule) (before : List (List ℕ)) (warning : List ℕ)
    (later : List (List ℕ)) (line : Line) (rest : List Line) (all : RulesEnd) → GoOn frame refused moved place before warning rest all
    → (own : List (List ℕ)) (rule : Result Rule RuleFault)
    → LineGives frame (holds names rules (before ++ later)) (is_among moved place) line.text (record { rule = rule; names = own })
    → GoesOn frame refused (place + 1) (holds names rules (before ++ warning ∷ later)) rest all
    (after_line frame line (holds names rules (before ++ warning ∷ later)) (record { rule = rule; names = own }))
    → Alike frame moved place names rules before warning later (line ∷ rest) all
line_alike frame refused moved place names rules before warning later line rest all on own (Ok rule) gives goes =
    let with_it = before ++ warning ∷ later in
    let next : RulesGive frame refused ((place + 1) + 1) (holds own (rules ++ rule ∷ []) with_it) rest all =
    subst (GoesOn frame refused (place + 1) (holds names rules with_it) rest all) (step_ok frame line names rules with_it rule own) goes in
    rule_alike frame moved place names rules before warning later line rest all rule own gives (on own (rules ++ rule ∷ []) later next)
line_alike frame refused moved place names rules before warning later line rest all on own (Err fault) gives goes =
    fault_alike frame refused moved place names rules before warning later line rest all on fault own _ refl gives goes

-- the lines after a warning more
alike : (frame : Frame) (refused moved : List ℕ) (place : ℕ) (names : List (List ℕ)) (rules : List Rule) (before : List (List ℕ)) (warning : List ℕ)
    (later : List (List ℕ)) (lines : List Line) (all : RulesEnd) → AreMoved place refused moved
    → RulesGive frame refused (place + 1) (holds names rules (before ++ warning ∷ later)) lines all
    → Alike frame moved place names rules before warning later lines all
unfolding RulesGive
alike frame refused moved place names rules before warning later [] all are gives = record {
  less = end_at (holds names rules (before ++ later)) None;
  give = refl;
  more = end_alike rules names before warning later None all gives;
}
alike frame refused moved place names rules before warning later (line ∷ rest) all are gives =
    let own : LineGives frame (holds names rules (before ++ later)) (is_among refused (place + 1)) line.text gives.0 =
    gives_too frame names rules (before ++ warning ∷ later) (before ++ later) (is_among refused (place + 1)) line.text gives.0 gives.1 in
    let here : LineGives frame (holds names rules (before ++ later)) (is_among moved place) line.text gives.0 =
    subst (λ (b : Bool). LineGives frame (holds names rules (before ++ later)) b line.text gives.0) (sym (moved_here place refused moved are)) own in
    line_alike frame refused moved place names rules before warning later line rest all
    (λ next known told goes. alike frame refused moved (place + 1) next known before warning told rest all (moved_on place refused moved are) goes)
    gives.0.names gives.0.rule here gives.2

-- a line that is skipped, and the lines after it
pub skipped : (frame : Frame) (state : RulesState) (line : Line) (fault : RuleFault) → OnlyWarns frame state line fault
unfolding RulesGive
skipped frame state line fault = λ refused moved place rest all is are gives.
    let told = rule_warning frame line fault in
    let own : Verdict = record { rule = Err fault; names = state.names } in
    let same : gives.0 ≡ own = verdict-one frame state (is_among refused place) line.text gives.0 own gives.1 is.gives in
    let test : (frame.skips && is_skippable fault.kind) ≡ true = ap (λ (b : Bool). b && is_skippable fault.kind) is.skips ∙ is.skippable in
    let fits = step_fault frame line state.names state.rules state.warnings fault state.names true test in
    let goes = subst (λ (v : Verdict). GoesOn frame refused place state rest all (after_line frame line state v)) same gives.2 in
    let next : RulesGive frame refused (place + 1) (holds state.names state.rules (state.warnings ++ told ∷ [])) rest all =
    subst (GoesOn frame refused place state rest all) fits goes in
    let other = alike frame refused moved place state.names state.rules state.warnings told [] rest all are next in
    let back = subst (λ (warnings : List (List ℕ)). RulesGive frame moved place (holds state.names state.rules warnings) rest other.less)
    (append-nil state.warnings) other.give in
    (other.less, back, other.more)

-- a line that is outside the profile, and a rule whose pattern is refused
pub outside-skipped : (frame : Frame) (state : RulesState) (is_refused : Bool) (line : Line) (fault : RuleFault) → frame.skips ≡ true → fault.kind ≡ kind.OutsideProfile
    → IsFaulty frame state.names line.text fault → IsSkipped frame state is_refused line fault
unfolding LineGives
outside-skipped frame state is_refused line fault skips is faulty =
    record { skips = skips; skippable = ap is_skippable is; gives = inr (fault, faulty, refl) }

refused-judged : (rules : List Rule) (rule : Rule) → is_taken rules rule ≡ false → length rules < most_rules → judged rules true rule ≡ Err (plain kind.PatternRefused)
unfolding judged
refused-judged rules rule free room =
    let some : nat_le most_rules (length rules) ≡ false = grind (arith, nat_tests, room) in
    rw (free, some) refl

pub refused-skipped : (frame : Frame) (state : RulesState) (line : Line) → IsRefusedRule frame state line → IsSkipped frame state true line (plain kind.PatternRefused)
unfolding LineGives
refused-skipped frame state line refused = record {
  skips = refused.skips;
  skippable = refl;
  gives = inl (
    refused.rule,
    state.names,
    refused.is,
    ap (λ (r : Result Rule RuleFault). record { rule = r; names = state.names }) (sym (refused-judged state.rules refused.rule refused.free refused.room)),
  );
}
