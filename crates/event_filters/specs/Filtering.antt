-- What a `Filters` stands for: the items that it was given, with the rules that match them.
use Rattle.std.specs.Prelude.{◌≡◌, ℕ, ◌<◌, ◌++◌, ◌∷◌, List, [], Option, map, All, length}
use Rattle.edge_io.specs.Along.{trail}
use Rattle.packet_decode.specs.declared.item.ItemHead.{ItemHead}
use Rattle.conf_types.specs.declared.config.Config.{Config}
use Rattle.conf_types.specs.Sound.{IsSound}
use Rattle.rule_types.specs.declared.rule.Rule.{Rule}
use Rattle.rule_types.specs.Sound.{IsTriable}
use Rattle.event_filters.specs.declared.counting.CountKey.{CountKey}
use Rattle.event_filters.specs.declared.counting.Window.{Window}
use Rattle.event_filters.specs.Queue.{longest_content}
use Rattle.event_filters.specs.Events.{Item, matches, match_key, match_line, own_place, global_place, event_key, event_line, arising, own_kept, kept}
use Rattle.event_filters.specs.Windows.{Windows, window_at, AreAfter}

-- what is kept: of each rule the size of its longest content and the places of its filters, and the windows
pub record FiltersState : Type 0 where
  pub sizes : List ℕ
  pub own_places : List (Option ℕ)
  pub global_places : List (Option ℕ)
  pub matches : List (CountKey × Window)
  pub own : List (CountKey × Window)
  pub global : List (CountKey × Window)

-- the filters of this configuration and these rules, once they were given these items
unfoldable pub IsGiven : Config → List Rule → List Item → FiltersState → Type 0
IsGiven config rules items filters = record {
  config_sound : IsSound config;
  rules_sound : All IsTriable rules;
  sizes : filters.sizes ≡ map longest_content rules;
  own_places : filters.own_places ≡ map (own_place config.filters) rules;
  global_places : filters.global_places ≡ map (global_place config.filters) rules;
  matches : AreAfter (match_key rules) (match_line rules) (trail (λ before item. matches item) items) (window_at filters.matches);
  own : AreAfter (event_key (own_place config.filters) config.filters rules) (event_line config.filters)
      (trail (arising config rules) items) (window_at filters.own);
  global : AreAfter (event_key (global_place config.filters) config.filters rules) (event_line config.filters)
      (trail (own_kept config.filters rules) (trail (arising config rules) items)) (window_at filters.global);
}

-- the filters of this configuration and these rules, where they are sound, before the first item
abbrev pub IsMade : Config → List Rule → FiltersState → Type 0
IsMade config rules filters = IsSound config → All IsTriable rules → IsGiven config rules [] filters

-- the filters were given one item more, and of its events those that are kept were appended
abbrev pub Passes : Config → List Rule → FiltersState → List ℕ → Item → FiltersState → List ℕ → Type 0
Passes config rules old out item new written =
    (before : List Item) → IsGiven config rules before old
    → IsGiven config rules (before ++ item ∷ []) new × (written ≡ out ++ kept config rules before item)

-- filters have the same windows at every key, and the same tables
pub record IsSame (old new : FiltersState) : Type 0 where
  pub sizes : new.sizes ≡ old.sizes
  pub own_places : new.own_places ≡ old.own_places
  pub global_places : new.global_places ≡ old.global_places
  pub matches : (key : CountKey) → window_at new.matches key ≡ window_at old.matches key
  pub own : (key : CountKey) → window_at new.own key ≡ window_at old.own key
  pub global : (key : CountKey) → window_at new.global key ≡ window_at old.global key
