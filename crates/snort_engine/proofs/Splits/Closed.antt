-- A part of a capture that has ended shows the events of the whole that go between its pairs.
use Rattle.std.proofs.Common.{◌≡◌, ℕ, Bool, true, false, cond, List, [], ◌∷◌, ◌++◌, Option, Some, None, map, refl, sym, ap, ap₂, ◌∙◌}
use Rattle.std.specs.Prelude.{slice_get}
use Rattle.std.specs.List.{All, flat_map}
use Rattle.std.specs.Option.{option_map, option_to_list}
use Rattle.std.proofs.lemmas.List.Elements.{All-append, All-cons, All-nil, All-weaker, filter-append}
use Rattle.edge_io.specs.Along.{trail, trail_from}
use Rattle.edge_io.proofs.Along.{trail-append, trail-chained}
use Rattle.packet_decode.specs.declared.item.ItemHead.{ItemHead}
use Rattle.rule_types.specs.declared.rule.Rule.{Rule}
use Rattle.conf_types.specs.declared.config.Config.{Config}
use Rattle.event_filters.specs.Events.{kept}
use Rattle.flow_lanes.specs.declared.answer.Hits.{Hits}
use Rattle.record_jobs.specs.Jobs.{jobs}
use Rattle.record_jobs.specs.Splitting.{Pairs, Part, all_items, is_between, items_between, items_of_job, last_items, of_part, record_items}
use Rattle.record_jobs.specs.Way.{LinkedRecord}
use Rattle.record_jobs.proofs.Splits.Closed.{part-items}
use Rattle.record_jobs.proofs.Splits.Flows.{filter-same}
use Rattle.alert_lines.specs.Beside.{Beside, beside, carried, whats}
use Rattle.alert_lines.specs.Events.{Event, event_at, event_of, filtered_item, item_events}
use Rattle.alert_lines.proofs.Beside.{whats-append, whats-beside, whats-carried, whats-own}
use Rattle.snort_engine.specs.Course.{Plan}
use Rattle.snort_engine.specs.SplitCaptures.{AreCountedApart, IsShownWhole, events_between, items_by_head}
use Rattle.snort_engine.specs.Trace.{Closed, closing_alerts, closing_events, closing_items, detection_of, items_of, job_items, jobs_way, last_of, record_alerts, record_events, trace}
use Rattle.snort_engine.proofs.Splits.Captures.{Has, item-events-own}
use Rattle.snort_engine.proofs.Splits.Filters.{OfHits, mine, mine-beside, mine-carried, none-in}

-- ---- an event has the head of its item
module _ (config : Config) (rules : List Rule) where
  abbrev HasHead : ItemHead → Event → Type 0
  HasHead head event = event.head ≡ head

  all-at : (head : ItemHead) (places : List ℕ) → All (HasHead head) (flat_map (event_at rules head) places)
  all-at head [] = All-nil (HasHead head)
  all-at head (place ∷ places) =
      All-append (HasHead head) (event_at rules head place) (flat_map (event_at rules head) places) (by_rule (slice_get rules place)) (all-at head places)
    where
      by_rule : (rule : Option Rule) → All (HasHead head) (option_to_list (option_map (event_of head) rule))
      by_rule None = All-nil (HasHead head)
      by_rule (Some rule) = All-cons (HasHead head) (event_of head rule) [] refl (All-nil (HasHead head))

  events-head : (before : List Hits) (hits : Hits) → All (HasHead hits.head) (item_events config rules before hits)
  unfolding item_events
  events-head before hits = all-at hits.head (kept config rules (map filtered_item before) (filtered_item hits))

-- ---- the events of the items of a part
module _ (plan : Plan) (pairs : Pairs) where
  abbrev own_head : ItemHead → Bool
  own_head = is_between pairs

  abbrev events : List Hits → Hits → List Event
  events = item_events plan.config plan.rules

  whats-mine : (items : List Hits) → whats (mine own_head (items_by_head items)) ≡ items_between pairs items
  whats-mine [] = refl
  whats-mine (hits ∷ later) = by_head (own_head hits.head) (whats-mine later)
    where
      by_head : (b : Bool) → whats (mine own_head (items_by_head later)) ≡ items_between pairs later
          → whats (cond b (beside hits.head hits ∷ mine own_head (items_by_head later)) (mine own_head (items_by_head later))) ≡ cond b (hits ∷ items_between pairs later) (items_between pairs later)
      by_head true rest = ap (λ (xs : List Hits). hits ∷ xs) rest
      by_head false rest = rest

  whats-cond : (b : Bool) (head : ItemHead) (xs : List Event) → whats (cond b (map (beside head) xs) []) ≡ cond b xs []
  whats-cond true head xs = whats-beside head xs
  whats-cond false head xs = refl

  -- the part's own among the events of all items
  carried-mine : (before items : List Hits) → whats (mine own_head (carried events before (items_by_head items))) ≡ events_between pairs (trail_from events before items)
  carried-mine before [] = refl
  carried-mine before (hits ∷ later) =
      let front : List Event = events before hits in
      let after : List (Beside ItemHead Event) = carried events (before ++ hits ∷ []) (items_by_head later) in
      let own : Event → Bool = λ event. own_head event.head in
      let same : All (λ (event : Event). own_head event.head ≡ own_head hits.head) front =
      All-weaker (λ (event : Event). event.head ≡ hits.head) (λ (event : Event). own_head event.head ≡ own_head hits.head) (λ event is. ap own_head is) front
      (events-head plan.config plan.rules before hits) in
      ap whats (filter-append (λ (b : Beside ItemHead Event). own_head b.source) (map (beside hits.head) front) after)
      ∙ whats-append (mine own_head (map (beside hits.head) front)) (mine own_head after)
      ∙ ap₂ (λ (xs ys : List Event). xs ++ ys)
      (ap whats (mine-beside own_head hits.head front) ∙ whats-cond (own_head hits.head) hits.head front ∙ sym (filter-same own (own_head hits.head) front same))
      (carried-mine (before ++ hits ∷ []) later)
      ∙ sym (filter-append own front (trail_from events (before ++ hits ∷ []) later))

  part-events : (items : List Hits) → AreCountedApart plan own_head (items_by_head items) → trail events (items_between pairs items) ≡ events_between pairs (trail events items)
  part-events items apart =
      let all = items_by_head items in
      ap (trail events) (sym (whats-mine items))
      ∙ sym (whats-carried events [] (mine own_head all))
      ∙ ap whats (sym (mine-carried own_head (OfHits own_head (Has own_head all)) events (item-events-own own_head all plan apart) [] all
      (λ b has. absurd (none-in b has)) (λ b has. (b.what, has, refl))))
      ∙ carried-mine [] items

-- ---- the law

-- the events of a capture that has ended are those of all its items
whole-events : (plan : Plan) (records : List LinkedRecord) → whats (trace plan [] records Closed) ≡ trail (item_events plan.config plan.rules) (all_items (detection_of plan) (jobs_way plan) records)
unfolding trace closing_alerts closing_events closing_items items_of record_events job_items
whole-events plan records =
    let d = detection_of plan in
    let way = jobs_way plan in
    let events = item_events plan.config plan.rules in
    whats-append (trail (record_alerts plan) records) (closing_alerts plan records)
    ∙ ap₂ (λ (xs ys : List Event). xs ++ ys) (whats-own (record_events plan) [] records) (whats-beside (last_of records) (closing_events plan records))
    ∙ ap₂ (λ (xs ys : List Event). xs ++ ys)
    (sym (trail-chained events (record_items d way) records))
    (ap (λ (before : List Hits). trail_from events before (last_items d way records)) (trail-chained (items_of_job d) (jobs way) records))
    ∙ sym (trail-append events (trail (record_items d way) records) (last_items d way records))

pub part-shows-all : (plan : Plan) (pairs : Pairs) (part : Part) (records : List LinkedRecord) → IsShownWhole plan pairs part records
    → whats (trace plan [] (of_part part records) Closed) ≡ events_between pairs (whats (trace plan [] records Closed))
part-shows-all plan pairs part records shown =
    let items : List Hits = all_items (detection_of plan) (jobs_way plan) records in
    whole-events plan (of_part part records)
    ∙ ap (trail (item_events plan.config plan.rules)) (part-items (detection_of plan) (jobs_way plan) pairs part records shown.split)
    ∙ part-events plan pairs items shown.apart
    ∙ sym (ap (events_between pairs) (whole-events plan records))
