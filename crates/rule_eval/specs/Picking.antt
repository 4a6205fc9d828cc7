-- The rules that match among some that are tried one after another, and the bits that they leave.
--
-- To try it on: of the places 0 and 2, where both rules match and the first sets a bit that the second
-- asks for, both are picked; in a session without that bit the second alone is not.
use Rattle.std.specs.Prelude.{◌≡◌, ℕ, ◌<◌, ⊤, Bool, false, List, [], ◌∷◌, ◌++◌, Option, All, fold, slice_get, if◌then◌else◌}
use Rattle.std.specs.Option.{option_map_or}
use Rattle.rule_types.specs.declared.option.Opt.{Opt}
use Rattle.rule_types.specs.declared.option.Opt.TheVariants as opt
use Rattle.rule_types.specs.declared.rule.Rule.{Rule}
use Rattle.rule_eval.specs.Hits.{Bits, Item, Test, bits_after, bits_seen}

-- the rule at a place matches
abbrev pub matches_at : Test → List Rule → Item → Option Bits → ℕ → Bool
matches_at test rules item bits place =
    option_map_or (λ (rule : Rule). test rule item (bits_seen bits)) (slice_get rules place) false

-- the bits after the rule at a place, which matches
abbrev pub bits_after_at : List Rule → Option Bits → ℕ → Option Bits
bits_after_at rules bits place = option_map_or (λ (rule : Rule). bits_after bits rule) (slice_get rules place) bits

-- the bits after the rules at these places, which match
abbrev pub bits_after_all : List Rule → Option Bits → List ℕ → Option Bits
bits_after_all rules bits places = fold (bits_after_at rules) bits places

-- of these places those at which the rule matches
unfoldable pub picked : Test → List Rule → Item → Option Bits → List ℕ → List ℕ
picked test rules item bits [] = []
picked test rules item bits (place ∷ places) =
    if matches_at test rules item bits place
    then place ∷ picked test rules item (bits_after_at rules bits place) places
    else picked test rules item bits places

-- the bit that an option changes, if it changes one, is among the 1024 that a session has
abbrev pub IsKnownChange : Opt → Type 0
IsKnownChange (opt.BitDo change bit) = bit < 1024
IsKnownChange option = ⊤

abbrev pub ChangesKnownBits : Rule → Type 0
ChangesKnownBits rule = All IsKnownChange rule.opts

-- how far places were tried: the bits that the rules so far left, and those of the places that were picked
pub record Progress : Type 0 where
  pub bits : Option Bits
  pub found : List ℕ

abbrev pub come_to : Option Bits → List ℕ → Progress
come_to bits found = record { bits = bits; found = found }

-- one more place is tried: it is picked and its changes are made where its rule matches
pub record Picks (test : Test) (rules : List Rule) (item : Item) (place : ℕ) (old new : Progress) : Type 0 where
  pub found : new.found ≡ (if matches_at test rules item old.bits place then old.found ++ place ∷ [] else old.found)
  pub bits : new.bits ≡ (if matches_at test rules item old.bits place then bits_after_at rules old.bits place else old.bits)

-- places are tried one after another: those of them are picked at which the rule matches
pub record PicksAll (test : Test) (rules : List Rule) (item : Item) (places : List ℕ) (old new : Option Bits)
    (kept : List ℕ) : Type 0 where
  pub found : kept ≡ picked test rules item old places
  pub bits : new ≡ bits_after_all rules old kept
