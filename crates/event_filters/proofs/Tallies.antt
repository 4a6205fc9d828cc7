-- How the code counts an event is how the definition does.
use Rattle.std.proofs.Common.{◌≡◌, ℕ, ◌<◌, ◌≤◌, List, map, length, get_or, refl, sym, ap, subst, ◌∙◌, arith, Some, None}
use Rattle.std.specs.Prelude.{Option, slice_get, option_and_then, unwrap_or, All, IfSome}
use Rattle.std.specs.Option.{option_map}
use Rattle.std.proofs.lemmas.Option.{slice_get-map, slice_get_within, get_or_from_slice_get}
use Rattle.packet_decode.specs.declared.item.ItemHead.{ItemHead}
use Rattle.conf_types.specs.declared.filter.EventFilter.{EventFilter}
use Rattle.conf_types.specs.Sound.{IsFilter}
use Rattle.rule_types.specs.declared.rule.Period.{Period}
use Rattle.rule_types.specs.declared.rule.Rule.{Rule}
use Rattle.rule_types.specs.Sound.{IsTriable}
use Rattle.event_filters.specs.declared.counting.Count.{Count}
use Rattle.event_filters.specs.declared.counting.CountKey.{CountKey}
use Rattle.event_filters.specs.Counting.{Event}
use Rattle.event_filters.specs.Counts.{period_count, match_count, count_by, placed, event_count}
use Rattle.event_filters.specs.Events.{event_of, no_line, period_key, period_line, match_key, match_line, filter_key, filter_line, event_key, event_line}
use Rattle.event_filters.specs.Runs.{AreSome}
use Rattle.event_filters.specs.Windows.{IsCountOf}

-- a match, by its rule's detection filter
module _ (rules : List Rule) (head : ItemHead) (place : ℕ) where
  abbrev keys : Option Rule → Option CountKey
  keys o = option_and_then (λ (rule : Rule). option_map (period_key place rule head) rule.period) o

  abbrev IsMatch : Option Count → Type 0
  IsMatch count = IsCountOf (match_key rules) (match_line rules) (event_of head place) count

  at_period : (rule : Rule) → slice_get rules place ≡ Some rule → (period : Option Period) → rule.period ≡ period → IsMatch (option_map (period_count place rule head) period)
  at_period rule is None none = ap keys is ∙ ap (option_map (period_key place rule head)) none
  at_period rule is (Some period) some = (
    ap keys is ∙ ap (option_map (period_key place rule head)) some,
    ap (λ o. unwrap_or (option_and_then (λ (r : Rule). option_map period_line r.period) o) no_line) is ∙ ap (λ p. unwrap_or (option_map period_line p) no_line) some,
  )

  at_match : (o : Option Rule) → slice_get rules place ≡ o → IsMatch (option_and_then (λ (rule : Rule). option_map (period_count place rule head) rule.period) o)
  at_match None is = ap keys is
  at_match (Some rule) is = at_period rule is rule.period refl

  pub IsCountOf-match : IsCountOf (match_key rules) (match_line rules) (event_of head place) (match_count rules head place)
  IsCountOf-match = at_match (slice_get rules place) refl

-- an event, by the filter that the table has for its rule
module _ (lines : List EventFilter) (place_for : Rule → Option ℕ) (rules : List Rule) (places : List (Option ℕ)) (head : ItemHead) (event : ℕ) (table : places ≡ map place_for rules) where
  abbrev line_keys : Rule → ℕ → Option EventFilter → Option CountKey
  line_keys rule place o = option_map (filter_key place rule head) o

  abbrev place_keys : Rule → Option ℕ → Option CountKey
  place_keys rule o = option_and_then (λ place. line_keys rule place (slice_get lines place)) o

  abbrev rule_keys : Option Rule → Option CountKey
  rule_keys o = option_and_then (λ (rule : Rule). place_keys rule (place_for rule)) o

  abbrev IsEvent : Option Count → Type 0
  IsEvent count = IsCountOf (event_key place_for lines rules) (event_line lines) (event_of head event) count

  at_line : (rule : Rule) (place : ℕ) → slice_get rules event ≡ Some rule → place_for rule ≡ Some place → (line : Option EventFilter) → slice_get lines place ≡ line
      → IsEvent (option_map (λ (l : EventFilter). record { key = filter_key place rule head l; line = filter_line l }) line)
  at_line rule place is for None none = ap rule_keys is ∙ ap (place_keys rule) for ∙ ap (line_keys rule place) none
  at_line rule place is for (Some line) some = (
    ap rule_keys is ∙ ap (place_keys rule) for ∙ ap (line_keys rule place) some,
    ap (λ o. unwrap_or (option_map filter_line o) no_line) some,
  )

  at_place : (rule : Rule) → slice_get rules event ≡ Some rule → (place : Option ℕ) → place_for rule ≡ place → IsEvent (option_and_then (count_by lines rule head) place)
  at_place rule is None for = ap rule_keys is ∙ ap (place_keys rule) for
  at_place rule is (Some place) for = at_line rule place is for (slice_get lines place) refl

  placed_is : (rule : Rule) → slice_get rules event ≡ Some rule → placed places event ≡ place_for rule
  placed_is rule is =
      ap (λ ps. placed ps event) table
      ∙ ap (option_and_then (λ (o : Option ℕ). o)) (slice_get-map place_for rules event ∙ ap (option_map place_for) is)

  at_rule : (o : Option Rule) → slice_get rules event ≡ o → IsEvent (option_and_then (λ (rule : Rule). option_and_then (count_by lines rule head) (placed places event)) o)
  at_rule None is = ap rule_keys is
  at_rule (Some rule) is = subst (λ (o : Option ℕ). IsEvent (option_and_then (count_by lines rule head) o)) (sym (placed_is rule is)) (at_place rule is (place_for rule) refl)

  pub IsCountOf-event : IsCountOf (event_key place_for lines rules) (event_line lines) (event_of head event) (event_count lines places rules head event)
  IsCountOf-event = at_rule (slice_get rules event) refl

-- what holds of each element holds of the one at a place
all_at : {X : Type 0} (P : X → Type 0) (xs : List X) (i : ℕ) (x : X) → All P xs → slice_get xs i ≡ Some x → P x
all_at P xs i x all is = subst P (get_or_from_slice_get xs i x x is) (all i x (slice_get_within xs i x is))

-- sound rules and filters count one event at least
pub AreSome-matches : (rules : List Rule) → All IsTriable rules → AreSome (match_line rules)
AreSome-matches rules all = λ key. at key (slice_get rules key.place) refl
  where
    periods : (rule : Rule) → IsTriable rule → (period : Option Period) → rule.period ≡ period → 0 < (unwrap_or (option_map period_line period) no_line).count
    periods rule triable None is = omega arith
    periods rule triable (Some period) is =
        let both = subst (λ (o : Option Period). IfSome o (λ p. (1 ≤ p.count) × (1 ≤ p.seconds))) is triable.period in
        omega (arith, both.0)

    at : (key : CountKey) (o : Option Rule) → slice_get rules key.place ≡ o → 0 < (unwrap_or (option_and_then (λ (rule : Rule). option_map period_line rule.period) o) no_line).count
    at key None is = omega arith
    at key (Some rule) is = periods rule (all_at IsTriable rules key.place rule all is) rule.period refl

pub AreSome-events : (lines : List EventFilter) → All IsFilter lines → AreSome (event_line lines)
AreSome-events lines all = λ key. at key (slice_get lines key.place) refl
  where
    at : (key : CountKey) (o : Option EventFilter) → slice_get lines key.place ≡ o → 0 < (unwrap_or (option_map filter_line o) no_line).count
    at key None is = omega arith
    at key (Some line) is = let sound = all_at IsFilter lines key.place line all is in omega (arith, sound.count.0)
