-- Which rules match an item, and the bits that they leave.
--
-- A rule matches where its header and its tests of fields hold (header_eval specs/Fields), its tests of
-- bits hold, and its payload options lead through the payload (option_eval specs/Places). The rules of an
-- item are tried in their order; each one that matches makes its changes of bits, in the order of its
-- options, and the next rule sees them (Snort Users Manual 2.9, section 3.6.10, flowbits). The bits are
-- those of the item's session; an item without a session has none, and changes on it do nothing.
-- To try it on: of `content:"a"; flowbits:set,x` and `content:"b"; flowbits:isset,x`, in this order, both
-- match "ab"; in the other order the second alone does.
use Rattle.std.specs.Prelude.{◌≡◌, ℕ, ◌+◌, ◌↔◌, ◌⊎◌, Bool, true, not, List, [], ◌∷◌, Option, All, IsTrue, fold, length, option_map, unwrap_or, if◌then◌else◌}
use Rattle.std.specs.Ordering.{nat_cmp}
use Rattle.std.specs.FinSet.{FinSet, contains, empty}
use Rattle.rule_types.specs.declared.option.Opt.{Opt}
use Rattle.rule_types.specs.declared.option.Opt.TheVariants as opt
use Rattle.rule_types.specs.declared.rule.Rule.{Rule}
use Rattle.header_eval.specs.Fields.{HeaderHolds, field_holds}
use Rattle.option_eval.specs.Places.{Means, PayloadMatches}
use Rattle.flowbit_state.specs.Changes.{changed}
pub use Rattle.rule_eval.specs.declared.item.Item.{Item}

-- the bits of a session that are set
abbrev pub Bits : Type 0
Bits = FinSet nat_cmp

-- the bits that an item has: none are set where it has no session
abbrev pub bits_seen : Option Bits → Bits
bits_seen bits = unwrap_or bits empty

-- A rule and an item.

-- isset, isnotset: a test of a flowbit holds; any other option does so always
abbrev pub flowbit_holds : Bits → Opt → Bool
flowbit_holds bits (opt.BitTest bit want) = if want then contains bits bit else not (contains bits bit)
flowbit_holds bits option = true

-- the rule matches an item of these bits
pub record RuleMatches (means : Means) (rule : Rule) (item : Item) (bits : Bits) : Type 0 where
  pub header : HeaderHolds rule item.head
  pub fields : All (λ option. IsTrue (field_holds option item.head (length item.payload))) rule.opts
  pub flowbits_hold : All (λ option. IsTrue (flowbit_holds bits option)) rule.opts
  pub payload : PayloadMatches means rule item.payload

-- the bits after an option of a rule that matches
abbrev pub bits_after_option : Bits → Opt → Bits
bits_after_option bits (opt.BitDo change bit) = changed change bit bits
bits_after_option bits option = bits

-- the bits after a rule that matches; without a session there are none to change
abbrev pub bits_after : Option Bits → Rule → Option Bits
bits_after bits rule = option_map (λ b. fold bits_after_option b rule.opts) bits

-- All rules that match, as a relation.

-- these are the places, from this one on, of all rules that match, in ascending order: where a rule
-- matches, its place comes first, and the rules after it see the bits that it leaves
abbrev pub AreMatches : Means → Item → ℕ → List Rule → Option Bits → List ℕ → Type 0
AreMatches means item place [] bits places = places ≡ []
AreMatches means item place (rule ∷ rules) bits places =
    (RuleMatches means rule item (bits_seen bits)
    × ((later : List ℕ) × (places ≡ place ∷ later) × AreMatches means item (place + 1) rules (bits_after bits rule) later))
    ⊎ ((¬ RuleMatches means rule item (bits_seen bits)) × AreMatches means item (place + 1) rules bits places)

-- these are the places of all rules that match an item of these bits
abbrev pub AreHits : Means → List Rule → Item → Option Bits → List ℕ → Type 0
AreHits means rules item bits places = AreMatches means item 0 rules bits places

-- All rules that match, by a test.

-- a test of a rule on an item with these bits
abbrev pub Test : Type 0
Test = Rule → Item → Bits → Bool

-- the test says which rules match
abbrev pub Tells : Means → Test → Type 0
Tells means test = (rule : Rule) (item : Item) (bits : Bits) → (IsTrue (test rule item bits) ↔ RuleMatches means rule item bits)

-- the places, from this one on, of the rules that match
unfoldable pub places_from : Test → Item → ℕ → List Rule → Option Bits → List ℕ
places_from matches item place [] bits = []
places_from matches item place (rule ∷ rules) bits =
    if matches rule item (bits_seen bits)
    then place ∷ places_from matches item (place + 1) rules (bits_after bits rule)
    else places_from matches item (place + 1) rules bits

-- the rules that are tried, and which of them match
pub record Trying : Type 0 where
  pub rules : List Rule
  pub matches : Test

-- the places of all rules that match an item
unfoldable pub matching : Trying → Item → Option Bits → List ℕ
matching trying item bits = places_from trying.matches item 0 trying.rules bits
