-- The events of an item, of which each that is kept is an alert.
--
-- An item comes with all rules that match it. Which of its events are kept depends on the earlier items with their
-- rules (event_filters specs/Events), and on nothing else. An alert is an event beside the record whose decoding made
-- the job of its item. (Snort Users Manual 2.9, sections 2.4 and 3.)
-- To try it on: an item that the rules 0 and 2 match, with a queue of one event and no filter, has one event, that of
-- the rule that the queue puts first.
use Rattle.std.specs.Prelude.{ℕ, List, length, map, slice_get, sum_by, option_map}
use Rattle.std.specs.Option.{option_to_list}
use Rattle.std.specs.List.{flat_map}
use Rattle.packet_decode.specs.declared.item.ItemHead.{ItemHead}
use Rattle.conf_types.specs.declared.config.Config.{Config}
use Rattle.rule_types.specs.declared.rule.Rule.{Rule}
use Rattle.record_jobs.specs.Way.{LinkedRecord}
use Rattle.flow_lanes.specs.declared.answer.Hits.{Hits}
use Rattle.event_filters.specs.Events.{Item, kept}
use Rattle.alert_lines.specs.Beside.{Beside}

-- an item and a rule that alerts on it
pub record Event : Type 0 where
  pub head : ItemHead
  pub rule : Rule

-- an event that is shown, beside the record whose decoding made the job of its item
abbrev pub Alert : Type 0
Alert = Beside LinkedRecord Event

-- an item as the filters of events see it
abbrev pub filtered_item : Hits → Item
filtered_item hits = record { head = hits.head; hits = hits.rules }

abbrev pub event_of : ItemHead → Rule → Event
event_of head rule = record { head = head; rule = rule }

-- the event of the rule at a place
abbrev pub event_at : List Rule → ItemHead → ℕ → List Event
event_at rules head place = option_to_list (option_map (event_of head) (slice_get rules place))

-- the events of an item after earlier items that are kept, in the order in which they are shown
unfoldable pub item_events : Config → List Rule → List Hits → Hits → List Event
item_events config rules before hits =
    flat_map (event_at rules hits.head) (kept config rules (map filtered_item before) (filtered_item hits))

-- how many rules match these items
abbrev pub hit_count : List Hits → ℕ
hit_count items = sum_by (λ (hits : Hits). length hits.rules) items
