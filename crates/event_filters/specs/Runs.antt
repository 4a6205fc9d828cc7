-- What a run over an item's events does to the windows, and what it writes.
use Rattle.std.specs.Prelude.{◌≡◌, ℕ, ◌<◌, ◌++◌, not, List, Option, map}
use Rattle.std.specs.List.{filter}
use Rattle.edge_io.specs.Along.{trail, trail_from}
use Rattle.packet_decode.specs.declared.item.ItemHead.{ItemHead}
use Rattle.conf_types.specs.declared.filter.EventFilter.{EventFilter}
use Rattle.conf_types.specs.declared.filter.Suppress.{Suppress}
use Rattle.rule_types.specs.declared.rule.Rule.{Rule}
use Rattle.event_filters.specs.declared.counting.CountKey.{CountKey}
use Rattle.event_filters.specs.declared.counting.CountLine.{CountLine}
use Rattle.event_filters.specs.declared.counting.Window.{Window}
use Rattle.event_filters.specs.declared.filtering.FilterLines.{FilterLines}
use Rattle.event_filters.specs.Counting.{Event}
use Rattle.event_filters.specs.Events.{events_of, places_of, match_key, match_line, match_stays, own_place, global_place, event_key, event_line, own_kept, filtered, is_suppressed}
use Rattle.event_filters.specs.Windows.{window_at, AreAfter}

-- every line lets an event through before its count is used up
abbrev pub AreSome : (CountKey → CountLine) → Type 0
AreSome line_at = (key : CountKey) → 0 < (line_at key).count

-- the windows of detection filters, and what was written
pub record Matched : Type 0 where
  pub matches : List (CountKey × Window)
  pub written : List ℕ

-- the matches at these places were counted, and those that stay were appended
unfoldable pub Stays : List Rule → ItemHead → Matched → List ℕ → Matched → Type 0
Stays rules head old places new =
    AreSome (match_line rules) → (earlier : List Event)
    → AreAfter (match_key rules) (match_line rules) earlier (window_at old.matches)
    → AreAfter (match_key rules) (match_line rules) (earlier ++ events_of head places) (window_at new.matches)
    × (new.written ≡ old.written ++ places_of (trail_from (match_stays rules) earlier (events_of head places)))

-- the lines that events go through, the rules, and the tables of the rules' filters
pub record Lines : Type 0 where
  pub filters : List EventFilter
  pub suppress : List Suppress
  pub rules : List Rule
  pub own_places : List (Option ℕ)
  pub global_places : List (Option ℕ)

-- what the code's lines are, as these definitions see them
abbrev pub lines_of : FilterLines → Lines
lines_of lines = record {
  filters = lines.filters.now;
  suppress = lines.suppress.now;
  rules = lines.rules.now;
  own_places = lines.own_places.now;
  global_places = lines.global_places.now;
}

-- the tables are those of the rules
pub record AreTables (lines : Lines) : Type 0 where
  pub own : lines.own_places ≡ map (own_place lines.filters) lines.rules
  pub global : lines.global_places ≡ map (global_place lines.filters) lines.rules

-- the windows of event filters, and what was written
pub record Filtered : Type 0 where
  pub own : List (CountKey × Window)
  pub global : List (CountKey × Window)
  pub written : List ℕ

-- the events that no suppress line drops
abbrev pub unsuppressed : Lines → ItemHead → List ℕ → List ℕ
unsuppressed lines head places = filter (λ place. not (is_suppressed lines.suppress lines.rules head place)) places

-- the windows stand for the events that came as far as the event filters
pub record AreBothOf (lines : Lines) (events : List Event) (state : Filtered) : Type 0 where
  pub own : AreAfter (event_key (own_place lines.filters) lines.filters lines.rules) (event_line lines.filters) events
      (window_at state.own)
  pub global : AreAfter (event_key (global_place lines.filters) lines.filters lines.rules) (event_line lines.filters)
      (trail (own_kept lines.filters lines.rules) events) (window_at state.global)

-- the events at these places that aren't suppressed were counted, and those that are kept were appended
unfoldable pub Keeps : Lines → ItemHead → Filtered → List ℕ → Filtered → Type 0
Keeps lines head old places new =
    AreTables lines → AreSome (event_line lines.filters) → (earlier : List Event) → AreBothOf lines earlier old
    → AreBothOf lines (earlier ++ events_of head (unsuppressed lines head places)) new
    × (new.written ≡ old.written ++ places_of (trail_from (filtered lines.filters lines.rules) earlier
    (events_of head (unsuppressed lines head places))))
