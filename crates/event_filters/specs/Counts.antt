-- How the code counts an event: by the rule's detection filter, or by a filter whose place is in a table.
use Rattle.std.specs.Prelude.{ℕ, List, Option, slice_get, option_and_then}
use Rattle.std.specs.Option.{option_map}
use Rattle.packet_decode.specs.declared.item.ItemHead.{ItemHead}
use Rattle.conf_types.specs.declared.filter.EventFilter.{EventFilter}
use Rattle.rule_types.specs.declared.rule.Period.{Period}
use Rattle.rule_types.specs.declared.rule.Rule.{Rule}
use Rattle.event_filters.specs.declared.counting.Count.{Count}
use Rattle.event_filters.specs.Events.{period_key, period_line, filter_key, filter_line}

-- how an event is counted by a detection filter
abbrev pub period_count : ℕ → Rule → ItemHead → Period → Count
period_count place rule head period = record { key = period_key place rule head period; line = period_line period }

abbrev pub match_count : List Rule → ItemHead → ℕ → Option Count
match_count rules head place =
    option_and_then (λ (rule : Rule). option_map (period_count place rule head) rule.period) (slice_get rules place)

-- how an event is counted by the filter at this place
abbrev pub count_by : List EventFilter → Rule → ItemHead → ℕ → Option Count
count_by lines rule head place =
    option_map (λ line. record { key = filter_key place rule head line; line = filter_line line }) (slice_get lines place)

-- by the filter whose place the table has for the rule
abbrev pub placed : List (Option ℕ) → ℕ → Option ℕ
placed places event = option_and_then (λ place. place) (slice_get places event)

abbrev pub event_count : List EventFilter → List (Option ℕ) → List Rule → ItemHead → ℕ → Option Count
event_count lines places rules head event =
    option_and_then (λ rule. option_and_then (count_by lines rule head) (placed places event)) (slice_get rules event)
