-- How the code finds whether a rule's number is taken: in an ordered set of the numbers of the accepted rules.
use Rattle.std.specs.Prelude.{◌≡◌, List}
use Rattle.std.specs.declared.cmp.Ordering.{Ordering}
use Rattle.std.specs.BTreeSet.{BTreeSet, contains}
use Rattle.rule_types.specs.declared.rule.Rule.{Rule}
use Rattle.snort_setup.specs.declared.number.Number.{Number}
use Rattle.snort_setup.specs.contracts.number.NumberOrd.TheImpl as ord
use Rattle.snort_setup.specs.Rules.{is_taken}

-- the number of a rule
abbrev pub number_of : Rule → Number
number_of rule = record { gid = rule.gid; sid = rule.sid }

-- the order of numbers
abbrev pub number_cmp : Number → Number → Ordering
number_cmp = (ord.ghosts).cmp

-- the set has the numbers of these rules, and no others
pub record AreNumbers (rules : List Rule) (numbers : BTreeSet Number) : Type 0 where
  pub found : (rule : Rule) → contains number_cmp numbers (number_of rule) ≡ is_taken rules rule
