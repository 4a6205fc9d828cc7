-- Sets of states: value lists, each with the places that go with it.
use Rattle.std.specs.Prelude.{◌≡◌, ℕ, ◌≤◌, ◌⊎◌, ⊤, List, length, Contains, Option, Some, None, option_map, bytes_eq, if◌then◌else◌}
use Rattle.std.specs.Ordering.{nat_cmp}
use Rattle.std.specs.Cmp.Lexicographic.{slice_cmp}
use Rattle.std.specs.BTreeMap.{get}
use Rattle.rule_types.specs.declared.option.Opt.{Opt}
use Rattle.option_eval.specs.declared.state_map.StateMap.{StateMap}
use Rattle.option_eval.specs.declared.states.HeldStates.{HeldStates}
use Rattle.option_eval.specs.declared.states.HeldStates.TheVariants as held
use Rattle.option_eval.specs.declared.states.States.{States}
use Rattle.option_eval.specs.Places.{Means}
use Rattle.option_eval.specs.Sets.{point}
use Rattle.option_eval.specs.Numbers.{Point}
use Rattle.option_eval.specs.Walks.{MatchesFrom, MatchesFromOne, IsListed, HasValues, after_extraction}

-- the places that go with a value list, if a map has a state with it
unfoldable pub map_at : StateMap → List ℕ → Option (List ℕ)
map_at map values = option_map (λ places. places.items) (get (slice_cmp nat_cmp) map.places values)

-- the places of a value list, of what is held
abbrev pub held_at : HeldStates → List ℕ → Option (List ℕ)
held_at held.Nothing values = None
held_at (held.One state) values = if bytes_eq state.values values then Some state.places.items else None
held_at (held.Many map) values = map_at map values

-- the places that go with a value list, if there is a state with it
unfoldable pub places_at : States → List ℕ → Option (List ℕ)
places_at states values = held_at states.held values

-- how many states there are
abbrev pub held_count : HeldStates → ℕ
held_count held.Nothing = 0
held_count (held.One state) = 1
held_count (held.Many map) = length map.places.entries

unfoldable pub state_count : States → ℕ
state_count states = held_count states.held

-- some state has a point of this kind
abbrev pub SomeState : (List ℕ → ℕ → Type 0) → States → Type 0
SomeState P states =
    (values : List ℕ) × (places : List ℕ) × (places_at states values ≡ Some places) × (p : ℕ) × Contains places p × P values p

-- each state's values are of one kind, and each of its places of another
abbrev pub EachState : (List ℕ → Type 0) → (List ℕ → ℕ → Type 0) → States → Type 0
EachState K R states =
    (values places : List ℕ) → places_at states values ≡ Some places → K values × ((p : ℕ) → Contains places p → R values p)

-- some way leads through the options from some state
abbrev pub MatchesFromSome : Means → List ℕ → List Opt → States → Type 0
MatchesFromSome means payload options states =
    SomeState (λ values p. MatchesFrom means payload options (point values p)) states

-- the list has the values of each state, and those that are kept after each of the options; each point of
-- a state is listed, and those after each extraction
abbrev pub HaveValues : Means → List ℕ → List (List ℕ) → Option (List Point) → List Opt → States → Type 0
HaveValues means payload lists listed options states = EachState (Contains lists)
    (λ values p. IsListed listed values p × HasValues means payload lists listed options (point values p)) states

-- each place is one of a payload of `size` bytes, or its end
abbrev pub AreWithin : ℕ → States → Type 0
AreWithin size states = EachState (λ values. ⊤) (λ values p. p ≤ size) states

-- each point of some states is one of others
abbrev pub AreAmong : States → States → Type 0
AreAmong from to = (values places : List ℕ) → places_at from values ≡ Some places
    → (found : List ℕ) × (places_at to values ≡ Some found) × ((p : ℕ) → Contains places p → Contains found p)

-- the states have the same points
abbrev pub AreSame : States → States → Type 0
AreSame old new = AreAmong old new × AreAmong new old

-- the states after an extraction where ways lead on: those that were there, and those that the options give
-- from these places; and their values, where a list has those before
pub record Leaves (means : Means) (payload : List ℕ) (options : List Opt) (values places : List ℕ)
    (old new : States) : Type 0 where
  pub sound : MatchesFromSome means payload (after_extraction options) new
      → MatchesFromSome means payload (after_extraction options) old ⊎ MatchesFromOne means payload options values places
  pub kept : MatchesFromSome means payload (after_extraction options) old
      → MatchesFromSome means payload (after_extraction options) new
  pub complete : MatchesFromOne means payload options values places
      → MatchesFromSome means payload (after_extraction options) new
  pub have : (lists : List (List ℕ)) (listed : Option (List Point))
      → ((p : ℕ) → Contains places p → HasValues means payload lists listed options (point values p))
      → HaveValues means payload lists listed (after_extraction options) old
      → HaveValues means payload lists listed (after_extraction options) new
