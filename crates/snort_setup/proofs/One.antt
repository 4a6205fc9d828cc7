-- Words, files and refused lines have one setup, since each rule line has one meaning.
use Rattle.std.proofs.Common.{◌≡◌, ℕ, ◌+◌, Bool, Some, Result, Ok, Err, List, [], ◌∷◌, sym, ap, subst, ◌∙◌, inl, inr, ⊎_elim}
use Rattle.std.specs.Result.{MatchResult}
use Rattle.conf_parser.specs.declared.line.Line.{Line}
use Rattle.conf_parser.specs.Loaded.{loaded_of}
use Rattle.conf_parser.specs.Reading.{Ended, Whole, Refused as RefusedAt, Asks, told}
use Rattle.rule_parser.specs.declared.fault.RuleFault.{RuleFault}
use Rattle.rule_types.specs.declared.rule.Rule.{Rule}
use Rattle.rule_parser.proofs.Lines.Meaning.{answers-as}
use Rattle.snort_setup.specs.Words.{Words}
use Rattle.snort_setup.specs.Rules.{Frame, RulesState, Verdict, RulesEnd, end_at, is_among, IsRule, IsFaulty, LineGives, RulesGive, after_line}
use Rattle.snort_setup.specs.Setup.{Ruled, Warned, ruled_by, conf_read, IsRuledBy, with_table}
use Rattle.snort_setup.specs.Answers.{HasOneSetup}

-- the meanings of a line, whatever its faults are
abbrev meant_ok : {F : Type 0} → Rule × List (List ℕ) → Result (Rule × List (List ℕ)) F
meant_ok rule = Ok rule

abbrev meant_err : {F : Type 0} → F → Result (Rule × List (List ℕ)) F
meant_err why = Err why

ok-same : {F : Type 0} (a b : Rule × List (List ℕ)) → meant_ok {F = F} a ≡ meant_ok {F = F} b → a ≡ b
ok-same a b same = cc

err-ok : {F : Type 0} (why : F) (a : Rule × List (List ℕ)) → meant_err {F = F} why ≡ meant_ok {F = F} a → ⊥
err-ok why a never = cc

module _ (frame : Frame) (names : List (List ℕ)) (text : List ℕ) where
  -- a line is one rule
  rule-one : (a b : Rule) (names_a names_b : List (List ℕ)) → IsRule frame names text a names_a → IsRule frame names text b names_b → (a ≡ b) × (names_a ≡ names_b)
  rule-one a b names_a names_b x y =
      let same = ok-same (b, names_b) (a, names_a) (answers-as frame.variables frame.classes names text (Ok a) names_a x (Ok (b, names_b)) y) in
      (sym (ap (λ (p : Rule × List (List ℕ)). p.0) same), sym (ap (λ (p : Rule × List (List ℕ)). p.1) same))

  -- a line is a rule or has a fault, not both
  rule-or_fault : (a : Rule) (names_a : List (List ℕ)) (fault : RuleFault) → IsRule frame names text a names_a → IsFaulty frame names text fault → ⊥
  rule-or_fault a names_a fault x (inl memory, other) = other memory
  rule-or_fault a names_a fault x (inr (why, is, shown), other) = err-ok why (a, names_a) (answers-as frame.variables frame.classes names text (Ok a) names_a x (Err why) is)

  -- the fault of a line is one
  fault-one : (a b : RuleFault) → IsFaulty frame names text a → IsFaulty frame names text b → a ≡ b
  fault-one a b (x, not_a) (inl memory, not_b) = absurd (not_b memory)
  fault-one a b (x, not_a) (inr (why, is, shown), not_b) =
      ⊎_elim (λ memory. absurd (not_a memory)) (λ (other, same, as_well). cc) (answers-as frame.variables frame.classes names text (Err a) names x (Err why) is)

-- a line gives one verdict
pub verdict-one : (frame : Frame) (state : RulesState) (is_refused : Bool) (text : List ℕ) (a b : Verdict) → LineGives frame state is_refused text a → LineGives frame state is_refused text b → a ≡ b
unfolding LineGives
verdict-one frame state is_refused text a b (inl (rule, later, x, same)) (inl (other, after, y, as_well)) =
    let (rules, names) = rule-one frame state.names text rule other later after x y in cc
verdict-one frame state is_refused text a b (inl (rule, later, x, same)) (inr (fault, y, as_well)) = absurd (rule-or_fault frame state.names text rule later fault x y)
verdict-one frame state is_refused text a b (inr (fault, x, same)) (inl (rule, later, y, as_well)) = absurd (rule-or_fault frame state.names text rule later fault y x)
verdict-one frame state is_refused text a b (inr (fault, x, same)) (inr (other, y, as_well)) =
    let faults = fault-one frame state.names text fault other x y in cc

-- one of two ways on, twice
both : {A B C : Type 0} (r : Result A B) (P Q : A → Type 0) (S T : B → Type 0) → ((x : A) → P x → Q x → C) → ((y : B) → S y → T y → C) → MatchResult r P S → MatchResult r Q T → C
both (Ok x) P Q S T ok err p q = ok x p q
both (Err y) P Q S T ok err p q = err y p q

-- rule lines end in one way
end-one : (frame : Frame) (refused : List ℕ) (place : ℕ) (state : RulesState) (lines : List Line) (a b : RulesEnd)
    → RulesGive frame refused place state lines a
    → RulesGive frame refused place state lines b
    → a ≡ b
unfolding RulesGive
end-one frame refused place state [] a b x y = x ∙ sym y
end-one frame refused place state (line ∷ rest) a b (verdict, gives, x) (other, gives_too, y) =
    let same : other ≡ verdict = verdict-one frame state (is_among refused place) line.text other verdict gives_too gives in
    let z =
    subst (λ (v : Verdict). MatchResult (after_line frame line state v)
    (λ after. RulesGive frame refused (place + 1) after rest b)
    (λ message. b ≡ end_at state (Some message))) same y in
    both (after_line frame line state verdict) (λ after. RulesGive frame refused (place + 1) after rest a)
    (λ after. RulesGive frame refused (place + 1) after rest b)
    (λ message. a ≡ end_at state (Some message))
    (λ message. b ≡ end_at state (Some message))
    (λ after p q. end-one frame refused (place + 1) after rest a b p q) (λ message p q. p ∙ sym q) x z

-- a configuration gives one thing
ruled-one : (words : Words) (refused : List ℕ) (ended : Ended) (a b : Warned Ruled) → IsRuledBy words refused ended a → IsRuledBy words refused ended b → a ≡ b
unfolding IsRuledBy
ruled-one words refused (Whole read) a b (end, gives, same) (other, gives_too, as_well) =
    let ends : end ≡ other = end-one _ refused 0 _ _ end other gives gives_too in
    same ∙ ap (λ (e : RulesEnd). ruled_by (loaded_of read) e) ends ∙ sym as_well
ruled-one words refused (RefusedAt fault output) a b x y = x ∙ sym y
ruled-one words refused (Asks name output) a b x y = x ∙ sym y

-- words, files and refused lines have one setup
pub setup-one : HasOneSetup
setup-one = λ words files refused a b (given, x, same) (other, y, as_well).
    let one : given ≡ other = ruled-one words refused (conf_read words (told files)) given other x y in
    same ∙ ap (with_table words files) one ∙ sym as_well
