-- Expressions keep a rule sound.
use Rattle.std.proofs.Common.{◌≡◌, ℕ, ◌<◌, ◌≤◌, ◌==◌, ◌&&◌, Bool, true, false, not, List, ◌∷◌, length, nat_lt, refl, arith, All, []}
use Rattle.std.specs.List.{list_all}
use Rattle.std.proofs.lemmas.Bool.Decides.{nat_tests}
use Rattle.std.proofs.lemmas.List.Elements.{All-nil, All-cons}
use Rattle.net_lists.specs.Stops.{or_kind}
use Rattle.net_lists.proofs.Steps.{Holds, given, refused, tested, unless, chained, after_any}
use Rattle.rule_parser.specs.declared.draft.RuleDraft.{RuleDraft}
use Rattle.rule_parser.specs.declared.fault.Fault.TheVariants.{OptionValue}
use Rattle.rule_types.specs.declared.option.Opt.TheVariants as opt
use Rattle.rule_parser.specs.declared.quoted.Style.TheVariants.{Pattern}
use Rattle.rule_parser.specs.declared.quoted.QuotedPlace.TheVariants.{Plain}
use Rattle.rule_parser.specs.Contents.{negation}
use Rattle.rule_parser.specs.Patterns.{no_flags, flags_of, pattern_flags, is_ascii, expression_of, pcre, pcre_option}
use Rattle.rule_parser.specs.Quotes.{quoted, meaning}
use Rattle.rule_parser.proofs.Sound.Drafts.{IsSoundDraft}
use Rattle.rule_parser.proofs.Sound.Fields.{IsAnywhere, anywhere, anywhere-sound}

all_ascii : (text : List ℕ) → list_all is_ascii text ≡ true → All (λ byte. byte < 128) text
all_ascii [] e = All-nil (λ byte. byte < 128)
all_ascii (byte ∷ rest) e = All-cons (λ byte. byte < 128) byte rest (first (nat_lt byte 128) (list_all is_ascii rest) refl e) (all_ascii rest (others (nat_lt byte 128) (list_all is_ascii rest) e))
  where
    first : (b c : Bool) → nat_lt byte 128 ≡ b → (b && c) ≡ true → byte < 128
    first true c e h = grind (arith, nat_tests)
    first false c e h = cc

    others : (b c : Bool) → (b && c) ≡ true → c ≡ true
    others true c h = h
    others false c h = cc

-- an expression is ASCII
expression-ascii : (inside : List ℕ) → Holds (All (λ byte. byte < 128)) (expression_of inside)
unfolding expression_of
expression-ascii inside = after_any (or_kind OptionValue (meaning Pattern Plain inside)) (λ text. tested _ (λ e. given (all_ascii text e)) (λ _. refused))

pcre-anywhere : (value : List ℕ) → Holds IsAnywhere (pcre value)
unfolding pcre
pcre-anywhere value =
    after_any (or_kind OptionValue (quoted (negation value).1)) (λ parts.
    after_any _ (λ halves.
    chained (expression-ascii halves.0) (λ text ascii.
    after_any (flags_of no_flags halves.1) (λ flags.
    unless (not (length parts.1 == 0)) _ (λ _.
    unless (nat_lt 4096 (length text)) _ (λ short.
    given (anywhere (opt.Pcre text (pattern_flags flags) flags.relative (negation value).0) (λ names. (fits (length text) short, ascii)) (refl, λ names. refl))))))))
  where
    fits : (len : ℕ) → nat_lt 4096 len ≡ false → len ≤ 4096
    fits len short = grind (arith, nat_tests)

pub pcre-sound : (classes : ℕ) (draft : RuleDraft) → IsSoundDraft classes draft → (value : List ℕ) → Holds (IsSoundDraft classes) (pcre_option draft value)
unfolding pcre_option
pcre-sound classes draft sound value = chained (pcre-anywhere value) (anywhere-sound classes draft sound)
