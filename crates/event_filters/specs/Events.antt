-- Which events of an item are kept, after the items before it.
--
-- Each item goes through these steps, in order (Snort Users Manual 2.9, "Event Processing", and
-- "detection_filter" under "Post-Detection Rule Options"):
--
-- 1. A match of a rule with a detection filter counts, by rule and tracked address. It stays only where its
--    number in its interval is above the filter's count. Matches of other rules stay.
-- 2. The matches that stay give the item's queue of events (specs/Queue).
-- 3. A suppress line drops the events that it speaks of: all events where its gid and sid are 0; those of
--    its gid, and of its sid unless that is 0. Where it tracks an address, it drops those whose address its
--    list has.
-- 4. The event filter of the event's gid and sid decides, where there is one.
-- 5. An event that it lets through, or that has none, is decided by the global filter, where there is one:
--    that of its gid and sid 0, or else that of gid 0 and sid 0.
--
-- Each filter counts what comes as far as itself, by gid, sid and tracked address. That a suppress line of
-- gid 0 and another sid drops nothing, and that 0 and 0 yields to the gid's own, are this project's own.
-- To try it on: with `type limit, track by_src, count 1, seconds 60` for gid 1 and sid 1, of events of one
-- address at 0, 1, 2, 3 and 60 seconds those at 0 and 60 are kept; with `type threshold` and count 2
-- those at 1 and 3; with `type both` and count 2 that at 1.
use Rattle.std.specs.Prelude.{ℕ, Bool, true, false, not, ◌&&◌, ◌||◌, ◌==◌, List, [], Option, None, Some, length, map, slice_get, unwrap_or, position, option_and_then}
use Rattle.std.specs.List.{filter, list_any}
use Rattle.std.specs.Option.{option_map, option_map_or, option_or}
use Rattle.edge_io.specs.Along.{chained}
use Rattle.edge_io.specs.declared.address.Addr.{Addr}
use Rattle.net_lists.specs.Verdicts.{has_address, is_listed}
use Rattle.packet_decode.specs.declared.item.ItemHead.{ItemHead}
use Rattle.conf_types.specs.declared.config.Config.{Config}
use Rattle.conf_types.specs.declared.filter.EventFilter.{EventFilter}
use Rattle.conf_types.specs.declared.filter.FilterKind.{FilterKind}
use Rattle.conf_types.specs.declared.filter.FilterKind.TheVariants as filters
use Rattle.conf_types.specs.declared.filter.Suppress.{Suppress}
use Rattle.conf_types.specs.declared.filter.Track.{Track}
use Rattle.conf_types.specs.declared.filter.Track.TheVariants.{BySrc, ByDst}
use Rattle.rule_types.specs.declared.rule.Period.{Period}
use Rattle.rule_types.specs.declared.rule.Rule.{Rule}
use Rattle.event_filters.specs.declared.counting.CountKey.{CountKey}
use Rattle.event_filters.specs.declared.counting.CountKind.{CountKind}
use Rattle.event_filters.specs.declared.counting.CountKind.TheVariants.{Limit, Threshold, Both, Above}
use Rattle.event_filters.specs.declared.counting.CountLine.{CountLine}
use Rattle.event_filters.specs.Keys.{tracked}
use Rattle.event_filters.specs.Counting.{Event, counted}
use Rattle.event_filters.specs.Queue.{queued}

-- an item, and the places of the rules that match it, in rising order
pub record Item : Type 0 where
  pub head : ItemHead
  pub hits : List ℕ

-- a rule matches the item
abbrev pub is_matched : Item → Bool
is_matched item = not (length item.hits == 0)

-- the items that a rule matches
abbrev pub matched : List Item → List Item
matched items = filter is_matched items

-- the events of an item by the rules at these places
abbrev pub event_of : ItemHead → ℕ → Event
event_of head place = record { head = head; rule = place }

abbrev pub events_of : ItemHead → List ℕ → List Event
events_of head places = map (event_of head) places

-- the places of the rules of events
abbrev pub places_of : List Event → List ℕ
places_of events = map (λ (event : Event). event.rule) events

-- what takes the place of a line where there is none; no event has such a key
abbrev pub no_line : CountLine
no_line = record { kind = Above; count = 1; seconds = 1 }

-- ---- 1. detection filters

-- what a detection filter counts by, at the rule of this place
abbrev pub period_key : ℕ → Rule → ItemHead → Period → CountKey
period_key place rule head period = record { place = place; gid = rule.gid; sid = rule.sid; addr = tracked period.by_src head }

-- how a detection filter counts
abbrev pub period_line : Period → CountLine
period_line period = record { kind = Above; count = period.count; seconds = period.seconds }

-- the key of a match, where its rule has a detection filter
abbrev pub match_key : List Rule → Event → Option CountKey
match_key rules event =
    option_and_then (λ (rule : Rule). option_map (period_key event.rule rule event.head) rule.period) (slice_get rules event.rule)

-- how the matches of a key are counted
abbrev pub match_line : List Rule → CountKey → CountLine
match_line rules key =
    unwrap_or (option_and_then (λ (rule : Rule). option_map period_line rule.period) (slice_get rules key.place)) no_line

-- the matches of an item
abbrev pub matches : Item → List Event
matches item = events_of item.head item.hits

-- the match where it stays, after these earlier matches
abbrev pub match_stays : List Rule → List Event → Event → List Event
match_stays rules = counted (match_key rules) (match_line rules)

-- the matches of an item that stay, after these items
abbrev pub staying : List Rule → List Item → Item → List Event
staying rules = chained (match_stays rules) (λ before item. matches item)

-- ---- 3. suppression

-- the line speaks of the rule's events
abbrev pub speaks_of : Suppress → Rule → Bool
speaks_of line rule =
    ((line.gid == 0) && (line.sid == 0)) || ((line.gid == rule.gid) && ((line.sid == 0) || (line.sid == rule.sid)))

-- the address that the line tracks
abbrev pub address_of : Track → ItemHead → Addr
address_of BySrc head = head.ip.src
address_of ByDst head = head.ip.dst

-- the line drops the events of this item that it speaks of
abbrev pub drops : Suppress → ItemHead → Bool
drops line head = option_map_or (λ t. is_listed (has_address (address_of t.0 head)) t.1) line.track true

-- a line drops the event of the rule at this place
abbrev pub is_suppressed : List Suppress → List Rule → ItemHead → ℕ → Bool
is_suppressed lines rules head place =
    option_map_or (λ (rule : Rule). list_any (λ line. speaks_of line rule && drops line head) lines) (slice_get rules place) false

-- the events of an item that event filters decide, after these items
unfoldable pub arising : Config → List Rule → List Item → Item → List Event
arising config rules before item =
    events_of item.head (filter (λ place. not (is_suppressed config.suppress rules item.head place))
    (queued config.queue rules (places_of (staying rules before item))))

-- ---- 4. and 5. event filters

-- how a filter counts
abbrev pub kind_of : FilterKind → CountKind
kind_of filters.Limit = Limit
kind_of filters.Threshold = Threshold
kind_of filters.Both = Both

abbrev pub filter_line : EventFilter → CountLine
filter_line line = record { kind = kind_of line.kind; count = line.count; seconds = line.seconds }

-- what the filter at this place counts by
abbrev pub filter_key : ℕ → Rule → ItemHead → EventFilter → CountKey
filter_key place rule head line = record { place = place; gid = rule.gid; sid = rule.sid; addr = tracked line.by_src head }

-- the place of the filter with this gid and sid
abbrev pub filter_place : List EventFilter → ℕ → ℕ → Option ℕ
filter_place lines gid sid = position (λ (line : EventFilter). (line.gid == gid) && (line.sid == sid)) lines

-- the filter of the rule's gid and sid; the global one
abbrev pub own_place : List EventFilter → Rule → Option ℕ
own_place lines rule = filter_place lines rule.gid rule.sid

abbrev pub global_place : List EventFilter → Rule → Option ℕ
global_place lines rule = option_or (filter_place lines rule.gid 0) (filter_place lines 0 0)

-- the key of an event, where there is a filter that is chosen for its rule
abbrev pub event_key : (Rule → Option ℕ) → List EventFilter → List Rule → Event → Option CountKey
event_key place_for lines rules event =
    option_and_then (λ (rule : Rule).
    option_and_then (λ place. option_map (filter_key place rule event.head) (slice_get lines place)) (place_for rule))
    (slice_get rules event.rule)

-- how the events of a key are counted
abbrev pub event_line : List EventFilter → CountKey → CountLine
event_line lines key = unwrap_or (option_map filter_line (slice_get lines key.place)) no_line

-- the event where its own filter lets it through, after the earlier events that came as far
abbrev pub own_kept : List EventFilter → List Rule → List Event → Event → List Event
own_kept lines rules = counted (event_key (own_place lines) lines rules) (event_line lines)

-- the event where the global filter lets it through, after the earlier events that came as far
abbrev pub global_kept : List EventFilter → List Rule → List Event → Event → List Event
global_kept lines rules = counted (event_key (global_place lines) lines rules) (event_line lines)

-- the event where both let it through: the global filter counts what the other lets through
unfoldable pub filtered : List EventFilter → List Rule → List Event → Event → List Event
filtered lines rules = chained (global_kept lines rules) (own_kept lines rules)

-- the places of the rules whose events of an item are kept, after these items, in the order of their lines
unfoldable pub kept : Config → List Rule → List Item → Item → List ℕ
kept config rules before item =
    places_of (chained (filtered config.filters rules) (arising config rules) before item)
