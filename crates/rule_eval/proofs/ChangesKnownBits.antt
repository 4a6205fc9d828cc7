-- A sound rule changes no bits but those that a session has.
use Rattle.std.proofs.Common.{ℕ, List, [], ◌∷◌, get_or}
use Rattle.std.specs.Prelude.{All}
use Rattle.std.proofs.Math.Logic.{∥∥₁_elim}
use mathlib.Core.HLevel.{Unit-prop, Π_prop}
use native.Mathlib.Bridge.{le_prop}
use Rattle.std.proofs.lemmas.List.Elements.{All-cons, All-nil, All-weaker}
use Rattle.rule_types.specs.declared.option.Opt.{Opt}
use Rattle.rule_types.specs.declared.option.Opt.TheVariants as opt
use Rattle.rule_types.specs.declared.rule.Rule.{Rule}
use Rattle.rule_types.specs.Sound.{AreOptions, IsOption, IsTriable, names_after_one}
use Rattle.rule_eval.specs.Picking.{ChangesKnownBits, IsKnownChange}

known_change : (names : List ℕ) (option : Opt) → IsOption names option → IsKnownChange option
known_change names (opt.BitDo change bit) h = h
known_change names _ h = tt

known_changes : (names : List ℕ) (options : List Opt) → AreOptions names options → All IsKnownChange options
known_changes names [] h = All-nil IsKnownChange
known_changes names (option ∷ options) h = All-cons IsKnownChange option options (known_change names option h.0) (known_changes (names_after_one names option) options h.1)

all_known : (rules : List Rule) → All IsTriable rules → All ChangesKnownBits rules
all_known rules h = All-weaker IsTriable ChangesKnownBits (λ rule triable. known_changes [] rule.opts triable.options) rules h

known_change-prop : (option : Opt) → IsProp (IsKnownChange option)
known_change-prop (opt.BitDo change bit) = le_prop
known_change-prop _ = Unit-prop

all_known-prop : (rules : List Rule) → IsProp (All ChangesKnownBits rules)
all_known-prop rules =
    Π_prop λ place. Π_prop λ rule. Π_prop λ _. Π_prop λ at. Π_prop λ option. Π_prop λ _. known_change-prop (get_or (get_or rules place rule).opts at option)

-- where no more is told of rules than that they are sound, the bits that they change are known, too
pub known_where_triable : (rules : List Rule) → ∥ All IsTriable rules ∥₁ → All ChangesKnownBits rules
known_where_triable rules triable = ∥∥₁_elim triable (all_known-prop rules) (all_known rules)
