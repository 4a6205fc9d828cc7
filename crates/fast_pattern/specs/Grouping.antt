-- What the groups keep of the rules, and when they stand for a list of rules. How they are grouped is this
-- project's own choice.
--
-- To try it on: of `alert udp ..` without a content and `alert ip ..` with one, the first is in the
-- indexes of UDP, and the automaton has the pattern of the second.
use Rattle.std.specs.Prelude.{◌≡◌, ℕ, Bool, true, false, ◌&&◌, ◌||◌, List, [], ◌++◌, Option, Some, None, length, map, slice_get}
use Rattle.packet_decode.specs.declared.item.ItemHead.{ItemHead}
use Rattle.packet_decode.specs.declared.packet.Body.{Body}
use Rattle.rule_types.specs.declared.rule.Rule.{Rule}
use Rattle.fast_pattern.specs.declared.header.RuleHead.{RuleHead}
use Rattle.fast_pattern.specs.declared.header.Transport.TheVariants as kinds
use Rattle.fast_pattern.specs.declared.groups.Groups.{Groups}
use Rattle.fast_pattern.specs.FastPattern.{pattern_of}
use Rattle.fast_pattern.specs.Candidates.{header_fits, candidates}
use Rattle.pattern_search.specs.Occurring.{numbers}
use Rattle.pattern_search.specs.Finding.{Finds}
use Rattle.fast_pattern.specs.Kinds.{kind_of, is_plain}
use Rattle.fast_pattern.specs.Blocks.{has}
use Rattle.fast_pattern.specs.Sides.{is_due, AreSides}
use Rattle.pattern_search.specs.Slots.{table_words}
use Rattle.fast_pattern.specs.Doors.{lets_in}

-- what is kept of a rule's header
abbrev pub asked_of : Rule → RuleHead
asked_of rule = record { proto = rule.proto; sports = rule.sports; dports = rule.dports; both = rule.both }

-- the header of the rule at a place fits the item
abbrev pub fits_some : Body → Option RuleHead → Bool
fits_some carried None = false
fits_some carried (Some asked) = header_fits asked.proto asked.sports asked.dports asked.both carried

unfoldable pub fits_at : List RuleHead → Body → ℕ → Bool
fits_at rules carried place = fits_some carried (slice_get rules place)

-- the rule at a place has no pattern, and is asked for by the item
unfoldable pub is_due_at : List RuleHead → List (List ℕ) → Body → ℕ → Bool
is_due_at rules patterns carried place = is_plain rules patterns (kind_of carried) place && is_due carried (slice_get rules place)

-- a rule's pattern as bytes; none is the empty one
abbrev pub text_of : Option (List ℕ) → List ℕ
text_of None = []
text_of (Some pattern) = pattern

abbrev pub texts_of : List Rule → List (List ℕ)
texts_of rules = map (λ rule. text_of (pattern_of rule.opts)) rules

-- each item that the header of one of these rules fits is let in
pub record Guards (table : List ℕ) (rules : List RuleHead) : Type 0 where
  pub sized : length table ≡ table_words
  pub guards : (carried : Body) (place : ℕ) → fits_at rules carried place ≡ true → lets_in table carried ≡ true

-- the groups are those of these rules
pub record AreFor (groups : Groups) (rules : List Rule) : Type 0 where
  pub asked : groups.rules.items ≡ map asked_of rules
  pub guards : Guards groups.doors.items groups.rules.items
  pub finds : Finds groups.automaton (texts_of rules)
  pub tcp : AreSides groups.rules.items (texts_of rules) kinds.Tcp groups.tcp
  pub udp : AreSides groups.rules.items (texts_of rules) kinds.Udp groups.udp
  pub icmp : groups.icmp.items ≡ numbers (is_plain groups.rules.items (texts_of rules) kinds.Icmp) 0 (length rules)
  pub other : groups.other.items ≡ numbers (is_plain groups.rules.items (texts_of rules) kinds.Other) 0 (length rules)

-- the rules without a pattern that are asked for by the item were added
pub record AddDue (groups : Groups) (carried : Body) (old new : List ℕ) : Type 0 where
  pub added : (rules : List Rule) → AreFor groups rules → (place : ℕ)
      → has new place ≡ (has old place || is_due_at groups.rules.items (texts_of rules) carried place)

-- whatever rules the groups are of, their candidates for the item are appended
pub record AppendCandidates (groups : Groups) (head : ItemHead) (payload old new : List ℕ) : Type 0 where
  pub appended : (rules : List Rule) → AreFor groups rules → new ≡ old ++ candidates rules head.body payload
