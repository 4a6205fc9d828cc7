-- The rule lines that were read, and those that are left: what the lines before lead to, with the lines whose
-- patterns were refused.
use Rattle.std.proofs.Common.{◌≡◌, ℕ, zero, suc, ◌+◌, ◌<◌, ◌≤◌, Bool, true, false, ◌||◌, Option, Some, None, Result, Ok, Err}
use Rattle.std.proofs.Common.{List, [], ◌∷◌, ◌++◌, length, drop, refl, sym, ap, subst, ◌∙◌, append_assoc, arith, eqb, add-one}
use Rattle.std.proofs.Common.{length-append, append-nil}
use Rattle.std.specs.Prelude.{All, Contains, is_some}
use Rattle.std.specs.List.{slice_get}
use Rattle.std.specs.Bool.{OnTrue}
use Rattle.std.specs.Result.{MatchResult}
use Rattle.std.proofs.Math.Seq.{drop-append_seam}
use Rattle.std.proofs.lemmas.Bool.{false≢true, ltb-true}
use Rattle.std.proofs.lemmas.Bool.Decides.{nat_tests}
use Rattle.std.proofs.lemmas.List.Elements.{All-nil, All-cons, All-push, All-weaker, Contains-append_left, Contains-append_right, Contains-push}
use Rattle.std.proofs.lemmas.List.Folds.{list_any-append, list_any_none}
use Rattle.edge_io.specs.declared.pattern.Refusal.{Refusal}
use Rattle.conf_parser.specs.declared.line.Line.{Line}
use Rattle.option_eval.specs.Places.{Means}
use Rattle.option_eval.specs.RuleSet.{RefusesText, RefusesOneOf}
use Rattle.rule_types.specs.declared.option.Opt.{Opt}
use Rattle.rule_types.specs.declared.option.Opt.TheVariants as opt
use Rattle.rule_types.specs.declared.rule.Rule.{Rule}
use Rattle.snort_setup.specs.Rules.{Frame, RulesState, RulesEnd, end_at, is_among, IsRule, LineGives, RulesGive, after_line}
use Rattle.snort_setup.specs.Answers.{IsPattern, HasPatternOf, IsRefusedLine, AreRefused}
use Rattle.snort_setup.specs.Steps.{refused_one, grown_by, Grows, OnlyMade}
use Rattle.snort_setup.specs.Lines.{AsksOf, IsStep, StepGives, RulesAnswer}

-- ---- the lines so far

pub record SoFar (frame : Frame) (lines : List Line) (start : RulesState) (state : RulesState) (rest : List Line) (grown : List Refusal) : Type 0 where
  pub place : ℕ
  pub refused : List ℕ
  pub below : All (λ p. p < place) refused
  pub left : drop place lines ≡ rest
  pub goes : (later : List ℕ) → All (λ p. place ≤ p) later → (end : RulesEnd)
      → RulesGive frame (refused ++ later) place state rest end → RulesGive frame (refused ++ later) 0 start lines end
  pub are_refused : AreRefused frame lines refused grown

-- no line was read yet
pub sofar-none : (frame : Frame) (lines : List Line) (start : RulesState) (state : RulesState) (grown : List Refusal) → state ≡ start
    → SoFar frame lines start state lines grown
sofar-none frame lines start state grown same = record {
  place = 0;
  refused = [];
  below = All-nil (λ p. p < 0);
  left = refl;
  goes = λ later above end given. subst (λ s. RulesGive frame later 0 s lines end) same given;
  are_refused = record { asked = All-nil (IsRefusedLine frame lines grown); few = omega arith };
}

-- ---- the refused places

-- a place above all refused ones is none of them
not-below : (place : ℕ) (refused : List ℕ) → All (λ p. p < place) refused → is_among refused place ≡ false
not-below place refused below = list_any_none (λ p. eqb p place) refused (All-weaker (λ p. p < place) (λ p. eqb p place ≡ false) (λ p h. grind (arith, nat_tests)) refused below)

not-above : (place : ℕ) (later : List ℕ) → All (λ p. place + 1 ≤ p) later → is_among later place ≡ false
not-above place later above = list_any_none (λ p. eqb p place) later (All-weaker (λ p. place + 1 ≤ p) (λ p. eqb p place ≡ false) (λ p h. grind (arith, nat_tests)) later above)

-- among none of the two
pub among-no : (place : ℕ) (refused later : List ℕ) → All (λ p. p < place) refused → All (λ p. place + 1 ≤ p) later → is_among (refused ++ later) place ≡ false
among-no place refused later below above =
    list_any-append (λ p. eqb p place) refused later ∙ ap (λ b. b || is_among later place) (not-below place refused below) ∙ not-above place later above

or-true : (b : Bool) → (b || true) ≡ true
or-true true = refl
or-true false = refl

or-front : (b c : Bool) → b ≡ true → (b || c) ≡ true
or-front b c is = ap (λ x. x || c) is

-- among the two and itself
pub among-yes : (place : ℕ) (refused later : List ℕ) → is_among (refused ++ place ∷ later) place ≡ true
among-yes place refused later =
    let here : (eqb place place || is_among later place) ≡ true = or-front (eqb place place) (is_among later place) (grind (arith, nat_tests)) in
    list_any-append (λ p. eqb p place) refused (place ∷ later) ∙ ap (λ b. is_among refused place || b) here ∙ or-true (is_among refused place)

-- ---- the line at a place

pub at-place : {X : Type 0} (place : ℕ) (lines : List X) (line : X) (rest : List X) → drop place lines ≡ line ∷ rest → (slice_get lines place ≡ Some line) × (drop (place + 1) lines ≡ rest)
at-place {X} zero [] line rest left = let never : [] ≡ line ∷ rest = left in cc
at-place {X} zero (x ∷ xs) line rest left = let same : x ∷ xs ≡ line ∷ rest = left in (cc, cc)
at-place {X} (suc n) [] line rest left = let never : [] ≡ line ∷ rest = left in cc
at-place {X} (suc n) (x ∷ xs) line rest left = let (at, after) = at-place n xs line rest left in (at, rw add-one (rw add-one at after))

-- ---- what the maker refused

-- lines that are refused by some refusals are refused by more
more-refused : (frame : Frame) (lines : List Line) (refused : List ℕ) (grown more : List Refusal)
    → All (IsRefusedLine frame lines grown) refused
    → All (IsRefusedLine frame lines (grown ++ more)) refused
more-refused frame lines refused grown more asked =
    All-weaker (IsRefusedLine frame lines grown) (IsRefusedLine frame lines (grown ++ more))
    (λ place (line, names, rule, later, at, is, (refusal, option, among, has, asks)). (line, names, rule, later, at, is, (refusal, option, Contains-append_left grown more refusal among, has, asks)))
    refused asked

-- the maker refused one more
abbrev pub AsksIn : Frame → List (List ℕ) → List ℕ → List Refusal → Type 0
AsksIn frame names text more = (rule : Rule) × (later : List (List ℕ)) × IsRule frame names text rule later × HasPatternOf more rule

pattern-in : (option : Opt) (old new : List Refusal) → RefusesText option old new → (refusal : Refusal) × (new ≡ old ++ refusal ∷ []) × IsPattern refusal option
pattern-in (opt.Pcre text flags relative negated) old new refused = (record { text = text; flags = flags }, refused, refl)
pattern-in (opt.Content content) old new refused = absurd refused
pattern-in (opt.ByteTest fetch not cmp value) old new refused = absurd refused
pattern-in _ old new refused = absurd refused

grown-one : (old new : List Refusal) (refusal : Refusal) → new ≡ old ++ refusal ∷ [] → grown_by old new ≡ refusal ∷ []
grown-one old new refusal same = ap (drop (length old)) same ∙ drop-append_seam old (refusal ∷ [])

asks-in : (frame : Frame) (names : List (List ℕ)) (text : List ℕ) (old new : List Refusal) → AsksOf frame names text old new → refused_one old new ≡ true → AsksIn frame names text (grown_by old new)
asks-in frame names text old new asks one =
    let (rule, later, is, (option, has, refuses)) = subst (λ b. OnTrue b ((rule : Rule) × (later : List (List ℕ)) × IsRule frame names text rule later × RefusesOneOf rule.opts old new)) one asks in
    let (refusal, grew, asked) = pattern-in option old new refuses in
    (rule, later, is, (refusal, option, subst (λ xs. Contains xs refusal) (sym (grown-one old new refusal grew)) (Contains-push [] refusal), has, asked))

-- where a maker refused something, what it refused meanwhile is at least one
asks-length : (frame : Frame) (names : List (List ℕ)) (text : List ℕ) (old new : List Refusal) → Grows old new → refused_one old new ≡ true → 1 ≤ length (grown_by old new)
asks-length frame names text old new grew one = omega (arith, ltb-true (length old) (length new) one, ap length grew, length-append old (grown_by old new))

pub grown-grown : (first old new : List Refusal) → Grows first old → Grows old new → grown_by first new ≡ grown_by first old ++ grown_by old new
grown-grown first old new a b =
    ap (drop (length first)) (b ∙ ap (λ xs. xs ++ grown_by old new) a ∙ append_assoc first (grown_by first old) (grown_by old new))
    ∙ drop-append_seam first (grown_by first old ++ grown_by old new)

pub grows-grows : (first old new : List Refusal) → Grows first old → Grows old new → Grows first new
grows-grows first old new a b =
    b ∙ ap (λ xs. xs ++ grown_by old new) a ∙ append_assoc first (grown_by first old) (grown_by old new) ∙ ap (λ xs. first ++ xs) (sym (grown-grown first old new a b))

-- what the maker did from one moment to another, and then to a third
pub made-made : (means mid later : Means) (first old new : List Refusal) → OnlyMade means mid first old → OnlyMade mid later old new → OnlyMade means later first new
made-made means mid later first old new a b = record {
  same_meaning = λ text flags bytes. b.same_meaning text flags bytes ∙ a.same_meaning text flags bytes;
  grows = grows-grows first old new a.grows b.grows;
}

-- ---- one line

go-on : (before : RulesState) (r : Result RulesState (List ℕ)) (after : RulesState) (P : RulesState → Type 0) (Q : List ℕ → Type 0) → IsStep before r after None → P after → MatchResult r P Q
go-on before (Ok next) after P Q (same, none) p = subst P same p
go-on before (Err message) after P Q (rules, warnings, some) p = let never : None ≡ Some message = some in cc

stop-at : (before : RulesState) (r : Result RulesState (List ℕ)) (after : RulesState) (message : List ℕ) (P : RulesState → Type 0) → IsStep before r after (Some message)
    → MatchResult r P (λ error. end_at after (Some message) ≡ end_at before (Some error))
stop-at before (Ok next) after message P (same, some) = let never : Some message ≡ None = some in cc
stop-at before (Err error) after message P (rules, warnings, some) = cc

given-on : (frame : Frame) (all : List ℕ) (place : ℕ) (b : Bool) (before after : RulesState) (line : Line) (rest : List Line) (end : RulesEnd) → is_among all place ≡ b
    → StepGives frame line before b after None → RulesGive frame all (place + 1) after rest end → RulesGive frame all place before (line ∷ rest) end
unfolding RulesGive
given-on frame all place b before after line rest end same (verdict, gives, step) given = (
  verdict,
  subst (λ c. LineGives frame before c line.text verdict) (sym same) gives,
  go-on before (after_line frame line before verdict) after (λ next. RulesGive frame all (place + 1) next rest end) _ step
      given,
)

given-stop : (frame : Frame) (all : List ℕ) (place : ℕ) (b : Bool) (before after : RulesState) (line : Line) (rest : List Line) (message : List ℕ) → is_among all place ≡ b
    → StepGives frame line before b after (Some message) → RulesGive frame all place before (line ∷ rest) (end_at after (Some message))
unfolding RulesGive
given-stop frame all place b before after line rest message same (verdict, gives, step) =
    (verdict, subst (λ c. LineGives frame before c line.text verdict) (sym same) gives, stop-at before (after_line frame line before verdict) after message _ step)

given-none : (frame : Frame) (all : List ℕ) (place : ℕ) (state : RulesState) → RulesGive frame all place state [] (end_at state None)
unfolding RulesGive
given-none frame all place state = refl

-- ---- the lines so far and one more

module _ (frame : Frame) (lines : List Line) (start : RulesState) (first old new : List Refusal) (before after : RulesState)
    (line : Line) (rest : List Line) (grew_before : Grows first old) (grew : Grows old new)
    (so : SoFar frame lines start before (line ∷ rest) (grown_by first old))
    (asks : AsksOf frame before.names line.text old new) where
  at : (slice_get lines so.place ≡ Some line) × (drop (so.place + 1) lines ≡ rest)
  at = at-place so.place lines line rest so.left

  higher : (later : List ℕ) → All (λ p. so.place + 1 ≤ p) later → All (λ p. so.place ≤ p) later
  higher later above = All-weaker (λ p. so.place + 1 ≤ p) (λ p. so.place ≤ p) (λ p h. omega arith) later above

  lower : All (λ p. p < so.place + 1) so.refused
  lower = All-weaker (λ p. p < so.place) (λ p. p < so.place + 1) (λ p h. omega arith) so.refused so.below

  same-all : (later : List ℕ) → (so.refused ++ so.place ∷ []) ++ later ≡ so.refused ++ so.place ∷ later
  same-all later = append_assoc so.refused (so.place ∷ []) later

  -- where the maker refused nothing, the refused lines stay; where it did, this line is one
  kept : AreRefused frame lines so.refused (grown_by first new)
  kept = record {
    asked =
        subst (λ g. All (IsRefusedLine frame lines g) so.refused)
        (sym (grown-grown first old new grew_before grew))
        (more-refused frame lines so.refused (grown_by first old) (grown_by old new) so.are_refused.asked);
    few = omega (
      arith,
      so.are_refused.few,
      ap length (grown-grown first old new grew_before grew),
      length-append (grown_by first old) (grown_by old new),
    );
  }

  one-more : refused_one old new ≡ true → AreRefused frame lines (so.refused ++ so.place ∷ []) (grown_by first new)
  one-more one =
      let (rule, later, is, (refusal, option, among, has, asked)) = asks-in frame before.names line.text old new asks one in
      let there : IsRefusedLine frame lines (grown_by first old ++ grown_by old new) so.place = (
        line,
        before.names,
        rule,
        later,
        at.0,
        is,
        (refusal, option, Contains-append_right (grown_by first old) (grown_by old new) refusal among, has, asked),
      ) in
      record {
        asked =
            All-push (IsRefusedLine frame lines (grown_by first new))
            so.refused so.place kept.asked
            (subst (λ g. IsRefusedLine frame lines g so.place) (sym (grown-grown first old new grew_before grew)) there);
        few = omega (
          arith,
          so.are_refused.few,
          ap length (grown-grown first old new grew_before grew),
          length-append (grown_by first old) (grown_by old new),
          length-append so.refused (so.place ∷ []),
          asks-length frame before.names line.text old new grew one,
        );
      }

  onward-no : refused_one old new ≡ false → StepGives frame line before false after None → SoFar frame lines start after rest (grown_by first new)
  onward-no none step = record {
    place = so.place + 1;
    refused = so.refused;
    below = lower;
    left = at.1;
    goes = λ later above end given. so.goes later (higher later above) end
        (given-on frame (so.refused ++ later) so.place false before after line rest end (among-no so.place so.refused later so.below above) step given);
    are_refused = kept;
  }

  onward-yes : refused_one old new ≡ true → StepGives frame line before true after None → SoFar frame lines start after rest (grown_by first new)
  onward-yes some step = record {
    place = so.place + 1;
    refused = so.refused ++ so.place ∷ [];
    below = All-push (λ p. p < so.place + 1) so.refused so.place lower (omega arith);
    left = at.1;
    goes = λ later above end given.
        let whole : RulesGive frame (so.refused ++ so.place ∷ later) (so.place + 1) after rest end = subst (λ all. RulesGive frame all (so.place + 1) after rest end) (same-all later) given in
        let on = given-on frame (so.refused ++ so.place ∷ later) so.place true before after line rest end (among-yes so.place so.refused later) step whole in
        let from = so.goes (so.place ∷ later) (All-cons (λ p. so.place ≤ p) so.place later (omega arith) (higher later above)) end on in
        subst (λ all. RulesGive frame all 0 start lines end) (sym (same-all later)) from;
    are_refused = one-more some;
  }

  pub onward : StepGives frame line before (refused_one old new) after None → SoFar frame lines start after rest (grown_by first new)
  onward step = go (refused_one old new) refl step where
    go : (b : Bool) → refused_one old new ≡ b → StepGives frame line before b after None → SoFar frame lines start after rest (grown_by first new)
    go false is s = onward-no is s
    go true is s = onward-yes is s

  stopped-no : (message : List ℕ)
      → refused_one old new ≡ false
      → StepGives frame line before false after (Some message)
      → RulesAnswer frame lines start (grown_by first new) (end_at after (Some message))
  stopped-no message none step = record {
    refused = so.refused;
    are_refused = kept;
    gives =
        let all = so.refused ++ [] in
        let last = given-stop frame all so.place false before after line rest message (among-no so.place so.refused [] so.below (All-nil (λ p. so.place + 1 ≤ p))) step in
        let from = so.goes [] (All-nil (λ p. so.place ≤ p)) (end_at after (Some message)) last in
        subst (λ all. RulesGive frame all 0 start lines (end_at after (Some message))) (append-nil so.refused) from;
  }

  stopped-yes : (message : List ℕ)
      → refused_one old new ≡ true
      → StepGives frame line before true after (Some message)
      → RulesAnswer frame lines start (grown_by first new) (end_at after (Some message))
  stopped-yes message some step = record {
    refused = so.refused ++ so.place ∷ [];
    are_refused = one-more some;
    gives =
        let last = given-stop frame (so.refused ++ so.place ∷ []) so.place true before after line rest message (among-yes so.place so.refused []) step in
        so.goes (so.place ∷ []) (All-cons (λ p. so.place ≤ p) so.place [] (omega arith) (All-nil (λ p. so.place ≤ p))) (end_at after (Some message)) last;
  }

  pub stopped : (message : List ℕ) → StepGives frame line before (refused_one old new) after (Some message) → RulesAnswer frame lines start (grown_by first new) (end_at after (Some message))
  stopped message step = go (refused_one old new) refl step where
    go : (b : Bool) → refused_one old new ≡ b → StepGives frame line before b after (Some message) → RulesAnswer frame lines start (grown_by first new) (end_at after (Some message))
    go false is s = stopped-no message is s
    go true is s = stopped-yes message is s

  -- by the error that there is, if there is one
  pub onward-at : (refusal : Option (List ℕ)) → is_some refusal ≡ false → StepGives frame line before (refused_one old new) after refusal → SoFar frame lines start after rest (grown_by first new)
  onward-at None none step = onward step
  onward-at (Some message) none step = absurd (false≢true (sym none))

  pub stopped-at : (refusal : Option (List ℕ))
      → is_some refusal ≡ true
      → StepGives frame line before (refused_one old new) after refusal
      → RulesAnswer frame lines start (grown_by first new) (end_at after refusal)
  stopped-at None is step = absurd (false≢true is)
  stopped-at (Some message) is step = stopped message step

-- all lines were read
pub finished : (frame : Frame) (lines : List Line) (start : RulesState) (state : RulesState) (grown : List Refusal)
    → SoFar frame lines start state [] grown
    → RulesAnswer frame lines start grown (end_at state None)
finished frame lines start state grown so = record {
  refused = so.refused;
  are_refused = so.are_refused;
  gives = subst (λ all. RulesGive frame all 0 start lines (end_at state None)) (append-nil so.refused)
      (so.goes [] (All-nil (λ p. so.place ≤ p)) (end_at state None) (given-none frame (so.refused ++ []) so.place state));
}

pub finished-at : (frame : Frame) (lines : List Line) (start : RulesState) (state : RulesState) (rest : List Line) (grown : List Refusal) → length rest ≡ 0 → SoFar frame lines start state rest grown
    → RulesAnswer frame lines start grown (end_at state None)
finished-at frame lines start state [] grown none so = finished frame lines start state grown so
finished-at frame lines start state (line ∷ rest) grown none so = absurd (omega arith)
