-- The class of a rule among those of the configuration.
use Rattle.std.proofs.Common.{◌≡◌, ℕ, ◌<◌, Option, Some, None, Result, Ok, Err, ap, subst}
use Rattle.std.specs.Prelude.{IfSome}
use Rattle.edge_io.specs.OnResult.{◌>>=◌}
use Rattle.net_lists.specs.Stops.{or_kind}
use Rattle.rule_parser.specs.declared.draft.ClassName.{ClassName}
use Rattle.rule_parser.specs.declared.draft.ClassName.TheVariants as class
use Rattle.rule_parser.specs.declared.fault.Fault.{Fault}
use Rattle.rule_parser.specs.declared.fault.Fault.TheVariants.{MissingSid}
use Rattle.rule_parser.specs.RuleLine.{class_of, IsClassOf}

abbrev told_by : Option ℕ → Option ClassName → Result (ℕ × Option ℕ) Fault
told_by sid class = do
  number ← or_kind MissingSid sid
  place ← class_of class
  Ok (number, place)

abbrev class_told : Result (ℕ × Option ℕ) Fault → Option ℕ
class_told (Ok found) = found.1
class_told (Err why) = None

-- a class that is given is there
pub told-there : (count : ℕ) (sid : Option ℕ) (class : Option ClassName) (number : ℕ) (place : Option ℕ) → IsClassOf count class
    → told_by sid class ≡ Ok (number, place) → IfSome place (λ at. at < count)
unfolding class_of
told-there count None class number place is given = cc
told-there count (Some n) None number place is given = let At : Option ℕ → Type 0 = λ o. IfSome o (λ at. at < count) in let same : None ≡ place = ap class_told given in subst At same tt
told-there count (Some n) (Some (class.Known at)) number place is given =
    let At : Option ℕ → Type 0 = λ o. IfSome o (λ at. at < count) in
    let same : Some at ≡ place = ap class_told given in subst At same is
told-there count (Some n) (Some class.Unknown) number place is given = cc
