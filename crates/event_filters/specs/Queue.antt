-- Which of the rules that match an item give events, and in which order.
--
-- Where a pass rule is among them, none does. Else the first `max_queue` alert rules without noalert, in
-- the order of the rules, form a queue. It is ordered by the longest content that isn't negated, the
-- longest first, or by priority, the smallest number first; equals keep the order of the rules. The first
-- `log` of the queue are the events. (Snort Users Manual 2.9, "Event Logging": `config event_queue`.)
-- To try it on: with max_queue 8 and log 3, of nine rules with contents of one length the first three give
-- events; with a longer content in the eighth it is the eighth, first and second; with one in the ninth
-- only it is the first three.
use Rattle.std.specs.Prelude.{ℕ, Bool, true, false, not, ◌&&◌, if◌then◌else◌, nat_lt, List, [], ◌∷◌, Option, length, map, max, fold, take, slice_get, slice_index, unwrap_or}
use Rattle.std.specs.List.{filter, list_any}
use Rattle.std.specs.Option.{option_map, option_map_or}
use Rattle.conf_types.specs.declared.config.QueueLimits.{QueueLimits}
use Rattle.event_filters.specs.declared.queue.QueueOrder.{QueueOrder}
use Rattle.rule_types.specs.declared.option.Opt.{Opt}
use Rattle.rule_types.specs.declared.option.Opt.TheVariants as opt
use Rattle.rule_types.specs.declared.rule.Action.{Action}
use Rattle.rule_types.specs.declared.rule.Action.TheVariants.{Alert, Pass}
use Rattle.rule_types.specs.declared.rule.Rule.{Rule}

-- the actions
abbrev pub is_alert : Action → Bool
is_alert Alert = true
is_alert Pass = false

-- the rule at this place is a pass rule
abbrev pub passes_item : List Rule → ℕ → Bool
passes_item rules place = option_map_or (λ (rule : Rule). not (is_alert rule.action)) (slice_get rules place) false

-- the rule at this place is an alert rule without noalert
abbrev pub gives_event : List Rule → ℕ → Bool
gives_event rules place = option_map_or (λ (rule : Rule). is_alert rule.action && not rule.noalert) (slice_get rules place) false

-- how many bytes a content that isn't negated has
abbrev pub content_size : Opt → ℕ
content_size (opt.Content content) = if content.negated then 0 else length content.bytes
content_size _ = 0

-- how many bytes the rule's longest content that isn't negated has; 0 where it has none
abbrev pub longest_content : Rule → ℕ
longest_content rule = fold max 0 (map content_size rule.opts)

-- the priority of the rule at this place
abbrev pub priority_at : List Rule → ℕ → ℕ
priority_at rules place = unwrap_or (option_map (λ (rule : Rule). rule.priority) (slice_get rules place)) 0

-- the first event comes before the second whatever the order of their rules, where these are the sizes
-- of the rules' longest contents
abbrev pub comes_before : Bool → List Rule → List ℕ → ℕ → ℕ → Bool
comes_before by_priority rules sizes first second =
    if by_priority then nat_lt (priority_at rules first) (priority_at rules second)
    else nat_lt (slice_index sizes second) (slice_index sizes first)

-- the first event comes before the second, in the code's order
abbrev pub order_of : QueueOrder → ℕ → ℕ → Bool
order_of order = comes_before order.by_priority order.rules.now order.sizes.now

-- an event joins others in their order: it is put before the first one that it comes before
abbrev pub joined : (ℕ → ℕ → Bool) → List ℕ → ℕ → List ℕ
joined before [] event = event ∷ []
joined before (next ∷ later) event = if before event next then event ∷ next ∷ later else next ∷ joined before later event

-- the events in their order; equals as they came
abbrev pub ordered : (ℕ → ℕ → Bool) → List ℕ → List ℕ
ordered before events = fold (joined before) [] events

-- the queue of these events, before it is ordered: no more than its limit, in the order of their rules
abbrev pub first_events : ℕ → List Rule → List ℕ → List ℕ
first_events most rules places = take most (filter (gives_event rules) places)

-- a queue that is not full, once the rule at this place has given its event, if it gives one
abbrev pub with_event : (ℕ → ℕ → Bool) → ℕ → List Rule → List ℕ → ℕ → List ℕ
with_event before most rules queue place =
    if nat_lt (length queue) most && gives_event rules place then joined before queue place else queue

-- the queue, ordered and cut, where these are the sizes of the rules' longest contents
abbrev pub queued_by : QueueLimits → List Rule → List ℕ → List ℕ → List ℕ
queued_by queue rules sizes places =
    if list_any (passes_item rules) places then []
    else take queue.log (ordered (comes_before queue.by_priority rules sizes) (first_events queue.max_queue rules places))

-- the places of the rules that give an item's events, where the rules at these places match it
unfoldable pub queued : QueueLimits → List Rule → List ℕ → List ℕ
queued queue rules places = queued_by queue rules (map longest_content rules) places
