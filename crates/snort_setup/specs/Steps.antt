-- What a step of the code over one rule line gives, beside what it asked of the maker.
--
-- The maker's refusals tell which lines' patterns are refused: those at whose turn they grew.
use Rattle.std.specs.Prelude.{◌≡◌, ◌++◌, Bool, true, false, List, [], ◌∷◌, Option, Some, None, Result, Ok, Err, length, drop, nat_lt}
use Rattle.std.specs.Bool.{OnTrue}
use Rattle.edge_io.specs.declared.pattern.Refusal.{Refusal}
use Rattle.option_eval.specs.Places.{Means}
use Rattle.option_eval.specs.RuleSet.{RefusesOneOf, SameMeaning}
use Rattle.rule_parser.specs.declared.fault.RuleKind.{RuleKind}
use Rattle.rule_parser.specs.declared.fault.RuleKind.TheVariants as kind
use Rattle.rule_parser.specs.declared.fault.RuleFault.{RuleFault}
use Rattle.rule_types.specs.declared.option.Opt.{Opt}
use Rattle.rule_types.specs.declared.rule.Rule.{Rule}
use Rattle.rule_parser.specs.Faults.{plain}

-- ---- the maker

-- what a maker refused from one moment to another
abbrev pub grown_by : List Refusal → List Refusal → List Refusal
grown_by old new = drop (length old) new

-- a maker refused something
abbrev pub refused_one : List Refusal → List Refusal → Bool
refused_one old new = nat_lt (length old) (length new)

-- a maker's refusals only grow
abbrev pub Grows : List Refusal → List Refusal → Type 0
Grows old new = new ≡ old ++ grown_by old new

-- a maker made some patterns: it means what it meant, and keeps what it refused
pub record OnlyMade (means_old means_new : Means) (refused_old refused_new : List Refusal) : Type 0 where
  pub same_meaning : SameMeaning means_old means_new
  pub grows : Grows refused_old refused_new

-- what a maker refused is one pattern of these options, or nothing
abbrev pub Refuses : List Opt → List Refusal → List Refusal → Type 0
Refuses options old new = OnTrue (refused_one old new) (RefusesOneOf options old new)

-- ---- a rule

-- a line could not be read for want of memory
abbrev pub is_memory : RuleKind → Bool
is_memory kind.NoMemory = true
is_memory _ = false

-- the rules and the fault after a rule that the set takes, unless its pattern is refused
abbrev pub IsAdded : List Rule → Rule → Bool → List Rule → Option RuleFault → Type 0
IsAdded rules rule false after fault = (after ≡ rules ++ rule ∷ []) × (fault ≡ None)
IsAdded rules rule true after fault = (after ≡ rules) × (fault ≡ Some (plain kind.PatternRefused))

-- the rules and the fault after a rule that is judged so
abbrev pub IsJudged : List Rule → Result Rule RuleFault → List Rule → Option RuleFault → Type 0
IsJudged rules (Ok rule) after fault = (after ≡ rules ++ rule ∷ []) × (fault ≡ None)
IsJudged rules (Err why) after fault = (after ≡ rules) × (fault ≡ Some why)
