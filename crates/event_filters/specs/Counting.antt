-- How events are counted in intervals, and which of them a line lets through.
--
-- An interval begins at its first event. It ends at the first event that is at or past its start plus the
-- line's seconds; that event begins the next one. An event that is earlier than the start, by its time,
-- counts in the interval at hand. (Snort Users Manual 2.9, "Event Filtering" and "detection_filter"; that
-- intervals follow events and not the clock, and what becomes of times that run backwards, are this
-- project's own.) An answer looks at the list of the earlier events that came as far as this one.
-- To try it on: at 0, 1, 59, 60 and 61 seconds, under 60 seconds, the numbers of the events in their
-- intervals are 1, 2, 3, 1, 2.
use Rattle.std.specs.Prelude.{ℕ, ◌+◌, ◌*◌, ◌%◌, ◌==◌, Bool, true, false, if◌then◌else◌, nat_lt, nat_le, List, [], ◌∷◌, ◌++◌, Option, None, Some, length, map, fold}
use Rattle.std.specs.List.{filter}
use Rattle.std.specs.Option.{option_map_or}
use Rattle.packet_decode.specs.declared.item.ItemHead.{ItemHead}
use Rattle.event_filters.specs.declared.counting.CountKey.{CountKey}
use Rattle.event_filters.specs.declared.counting.CountKind.{CountKind}
use Rattle.event_filters.specs.declared.counting.CountKind.TheVariants.{Limit, Threshold, Both, Above}
use Rattle.event_filters.specs.declared.counting.CountLine.{CountLine}
use Rattle.event_filters.specs.Keys.{same_key}

-- a rule, by its place among the rules, and the head of an item that it matches
pub record Event : Type 0 where
  pub head : ItemHead
  pub rule : ℕ

-- when the event came, in nanoseconds
abbrev pub moment_of : Event → ℕ
moment_of event = event.head.moment.nanos

-- the moments of the interval at hand, the first of which began it, once one more event has come
abbrev pub interval_after : ℕ → List ℕ → ℕ → List ℕ
interval_after seconds [] moment = moment ∷ []
interval_after seconds (start ∷ later) moment =
    if nat_lt moment (start + seconds * 1000000000) then (start ∷ later) ++ moment ∷ [] else moment ∷ []

-- the interval at hand, once events have come at these moments, in order of arrival
abbrev pub interval_of : ℕ → List ℕ → List ℕ
interval_of seconds moments = fold (interval_after seconds) [] moments

-- the number in its interval of an event that comes at this moment, after events at the earlier ones
unfoldable pub windowed : List ℕ → ℕ → ℕ → ℕ
windowed earlier moment seconds = length (interval_of seconds (earlier ++ moment ∷ []))

-- whether a line lets an event with this number in its interval through: the first `count` events, every
-- `count`th, the `count`th alone, or those above the `count`th
abbrev pub lets : CountKind → ℕ → ℕ → Bool
lets Limit count number = nat_le number count
lets Threshold count number = number % count == 0
lets Both count number = number == count
lets Above count number = nat_lt count number

-- the event has this key
abbrev pub has_key : (Event → Option CountKey) → CountKey → Event → Bool
has_key key_of key event = option_map_or (same_key key) (key_of event) false

-- when the events of this key came
abbrev pub moments_of : (Event → Option CountKey) → CountKey → List Event → List ℕ
moments_of key_of key events = map moment_of (filter (has_key key_of key) events)

-- the number of this event among the earlier ones of its key, in their interval
abbrev pub number_of : (Event → Option CountKey) → ℕ → CountKey → List Event → Event → ℕ
number_of key_of seconds key earlier event = windowed (moments_of key_of key earlier) (moment_of event) seconds

-- whether the line of this key lets the event through; an event without a key is not counted
abbrev pub passes : (Event → Option CountKey) → (CountKey → CountLine) → List Event → Event → Option CountKey → Bool
passes key_of line_at earlier event None = true
passes key_of line_at earlier event (Some key) =
    lets (line_at key).kind (line_at key).count (number_of key_of (line_at key).seconds key earlier event)

-- the event where its line lets it through, after these earlier events that came as far
abbrev pub counted : (Event → Option CountKey) → (CountKey → CountLine) → List Event → Event → List Event
counted key_of line_at earlier event =
    if passes key_of line_at earlier event (key_of event) then event ∷ [] else []
