-- A rule after the accepted ones, and what the maker refused meanwhile.
use Rattle.std.proofs.Common.{◌≡◌, ℕ, Bool, true, false, Option, Some, None, List, [], ◌∷◌, ◌++◌, length, drop, refl, sym, ap, subst, ◌∙◌, arith, length-append, append-nil}
use Rattle.std.specs.Prelude.{nat_le}
use Rattle.std.specs.Bool.{OnTrue}
use Rattle.std.proofs.Math.Seq.{drop-append_seam, drop-length}
use Rattle.std.proofs.lemmas.Bool.{lt-ltb, le-ltb}
use Rattle.edge_io.specs.declared.pattern.Refusal.{Refusal}
use Rattle.edge_io.specs.declared.pattern.Span.{Span}
use Rattle.conf_types.specs.declared.classes.Class.{Class}
use Rattle.option_eval.specs.Places.{Means}
use Rattle.option_eval.specs.RuleSet.{RefusesText, RefusesOneOf, Rules, SameMeaning, FindWhatIsMeant}
use Rattle.rule_parser.specs.declared.fault.RuleFault.{RuleFault}
use Rattle.rule_parser.specs.declared.fault.RuleKind.TheVariants as kind
use Rattle.rule_types.specs.declared.option.Opt.{Opt}
use Rattle.rule_types.specs.declared.option.Opt.TheVariants as opt
use Rattle.rule_types.specs.declared.rule.Rule.{Rule}
use Rattle.rule_parser.specs.Faults.{plain}
use Rattle.snort_setup.specs.Rules.{is_taken, most_rules, judged}
use Rattle.snort_setup.specs.Lines.{StayReady}
use Rattle.snort_setup.specs.Steps.{refused_one, Grows, Refuses, IsAdded, IsJudged}

-- ---- the maker

-- one refused text more
pub one-text : (option : Opt) (old new : List Refusal) → RefusesText option old new → (refusal : Refusal) × (new ≡ old ++ refusal ∷ [])
one-text (opt.Pcre text flags relative negated) old new refused = (record { text = text; flags = flags }, refused)
one-text _ old new refused = absurd refused

pub refused-none : (old new : List Refusal) → new ≡ old → refused_one old new ≡ false
refused-none old new same = le-ltb (length old) (length new) (omega (arith, ap length same))

refused-one : (options : List Opt) (old new : List Refusal) → RefusesOneOf options old new → refused_one old new ≡ true
refused-one options old new (option, has, refuses) =
    let (refusal, grew) = one-text option old new refuses in
    lt-ltb (length old) (length new) (omega (arith, ap length grew, length-append old (refusal ∷ [])))

pub refuses-none : (options : List Opt) (old new : List Refusal) → new ≡ old → Refuses options old new
refuses-none options old new same = subst (λ b. OnTrue b (RefusesOneOf options old new)) (sym (refused-none old new same)) tt

pub refuses-one : (options : List Opt) (old new : List Refusal) → RefusesOneOf options old new → Refuses options old new
refuses-one options old new one = subst (λ b. OnTrue b (RefusesOneOf options old new)) (sym (refused-one options old new one)) one

pub grows-none : (old new : List Refusal) → new ≡ old → Grows old new
grows-none old new same = same ∙ sym (append-nil old) ∙ ap (λ xs. old ++ xs) (sym (ap (drop (length old)) same ∙ drop-length old))

pub grows-one : (options : List Opt) (old new : List Refusal) → RefusesOneOf options old new → Grows old new
grows-one options old new (option, has, refuses) =
    let (refusal, grew) = one-text option old new refuses in
    grew ∙ ap (λ xs. old ++ xs) (sym (ap (drop (length old)) grew ∙ drop-append_seam old (refusal ∷ [])))

-- makers that mean the same
same-means : (a b : Means) → SameMeaning a b → a ≡ b
same-means a b same = λ i text flags bytes. sym (same text flags bytes) i

-- patterns find what either means
pub meant-later : {P : Type 0} (finds : P → List ℕ → Option Span) (a b : Means) (set : Rules P) → SameMeaning a b → FindWhatIsMeant finds a set → FindWhatIsMeant finds b set
meant-later finds a b set same = subst (λ (means : Means). FindWhatIsMeant finds means set) (same-means a b same)

pub meant-before : {P : Type 0} (finds : P → List ℕ → Option Span) (a b : Means) (set : Rules P) → SameMeaning a b → FindWhatIsMeant finds b set → FindWhatIsMeant finds a set
meant-before finds a b set same = subst (λ (means : Means). FindWhatIsMeant finds means set) (sym (same-means a b same))

-- what stays ready by two makers that mean the same
pub ready-ready : {P : Type 0} (finds : P → List ℕ → Option Span) (means mid : Means) (classes : List Class)
    (old now new : Rules P)
    → SameMeaning means mid
    → StayReady finds means classes old now
    → StayReady finds mid classes now new
    → StayReady finds means classes old new
ready-ready finds means mid classes old now new same a b = record {
  sound = λ sound. b.sound (a.sound sound);
  meant = λ meant. meant-before finds means mid new same (b.meant (meant-later finds means mid now same (a.meant meant)));
}

-- ---- the rule

pub added-pushed : (rules after : List Rule) (rule : Rule) (old new : List Refusal) → new ≡ old → after ≡ rules ++ rule ∷ [] → IsAdded rules rule (refused_one old new) after None
added-pushed rules after rule old new same pushed = subst (λ b. IsAdded rules rule b after None) (sym (refused-none old new same)) (pushed, refl)

pub added-refused : (rules after : List Rule) (rule : Rule) (options : List Opt) (old new : List Refusal) → RefusesOneOf options old new → after ≡ rules
    → IsAdded rules rule (refused_one old new) after (Some (plain kind.PatternRefused))
added-refused rules after rule options old new one same =
    subst (λ b. IsAdded rules rule b after (Some (plain kind.PatternRefused))) (sym (refused-one options old new one)) (same, refl)

pub judged-taken : (rules : List Rule) (is_refused : Bool) (rule : Rule) → is_taken rules rule ≡ true → IsJudged rules (judged rules is_refused rule) rules (Some (plain kind.DuplicateSid))
unfolding judged
judged-taken rules is_refused rule taken = rw taken (refl, refl)

pub judged-full : (rules : List Rule) (is_refused : Bool) (rule : Rule)
    → is_taken rules rule ≡ false
    → nat_le most_rules (length rules) ≡ true
    → IsJudged rules (judged rules is_refused rule) rules (Some (plain kind.Limit))
unfolding judged
judged-full rules is_refused rule free full = rw (free, full) (refl, refl)

pub judged-added : (rules after : List Rule) (is_refused : Bool) (rule : Rule) (fault : Option RuleFault) → is_taken rules rule ≡ false → nat_le most_rules (length rules) ≡ false
    → IsAdded rules rule is_refused after fault → IsJudged rules (judged rules is_refused rule) after fault
unfolding judged
judged-added rules after false rule fault free room added = rw (free, room) added
judged-added rules after true rule fault free room added = rw (free, room) added
