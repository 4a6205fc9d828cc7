-- Rules with the patterns that were made of them.
--
-- To try it on: where a maker means by `ab` what it says, a set in which the rule `pcre:"/ab/"` has a
-- pattern that finds `xy` doesn't stand for that maker's meaning.
use Rattle.std.specs.Prelude.{◌≡◌, ℕ, ⊤, List, [], ◌∷◌, ◌++◌, Option, Some, None, Contains, slice_index_or}
use Rattle.std.specs.List.{AllZip}
use Rattle.edge_io.specs.declared.pattern.PatternFlags.{PatternFlags}
use Rattle.edge_io.specs.declared.pattern.Refusal.{Refusal}
use Rattle.edge_io.specs.declared.pattern.Span.{Span}
use Rattle.rule_types.specs.declared.option.Opt.{Opt}
use Rattle.rule_types.specs.declared.option.Opt.TheVariants as opt
use Rattle.rule_types.specs.declared.rule.Rule.{Rule}
use Rattle.option_eval.specs.Places.{Means}

-- the rules in order, and for each rule the made pattern of each of its options, where it has one
pub record Rules (P : Type 0) : Type 0 where
  pub rules : List Rule
  pub patterns : List (List (Option P))

module _ {P : Type 0} (finds : P → List ℕ → Option Span) (means : Means) where
  -- the pattern beside a pcre option finds what its text and flags mean
  abbrev pub IsMade : Opt → Option P → Type 0
  IsMade (opt.Pcre text flags relative negated) (Some pattern) = (bytes : List ℕ) → finds pattern bytes ≡ means text flags bytes
  IsMade (opt.Pcre text flags relative negated) None = ⊥
  IsMade _ pattern = ⊤

  -- the patterns of a rule find what its options mean
  abbrev pub AreMade : Rule → List (Option P) → Type 0
  AreMade rule patterns = AllZip IsMade rule.opts patterns

  -- the patterns of all rules find what their options mean
  abbrev pub FindWhatIsMeant : Rules P → Type 0
  FindWhatIsMeant set = AllZip AreMade set.rules set.patterns

-- the rule at a place
abbrev pub IsRuleAt : {P : Type 0} → Rules P → ℕ → Rule → Type 0
IsRuleAt set place rule = rule ≡ slice_index_or set.rules place rule

-- two makers mean the same
abbrev pub SameMeaning : Means → Means → Type 0
SameMeaning old new = (text : List ℕ) (flags : PatternFlags) (bytes : List ℕ) → new text flags bytes ≡ old text flags bytes

-- the text of a pcre option was refused, with its flags
abbrev pub RefusesText : Opt → List Refusal → List Refusal → Type 0
RefusesText (opt.Pcre text flags relative negated) old new = new ≡ old ++ record { text = text; flags = flags } ∷ []
RefusesText _ old new = ⊥

-- the text of a pcre option among the rule's options was refused, with its flags
abbrev pub RefusesOneOf : List Opt → List Refusal → List Refusal → Type 0
RefusesOneOf options old new = (option : Opt) × Contains options option × RefusesText option old new
