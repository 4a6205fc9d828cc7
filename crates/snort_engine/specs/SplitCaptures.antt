-- What a part of a capture shows that is split by pairs of addresses.
--
-- It shows, in order, the alerts that the whole shows of its records, where these have their items in either
-- (record_jobs specs/Splitting: the conditions on full tables and on the capture's beginning), and nothing counts events
-- of two parts together: neither a detection filter nor an event filter has a key for an item of this part that it has
-- for one of another part. Where filters track addresses that no two parts share, this is so.
--
-- Where the capture has ended, the alerts of flows that end with it are beside the last record, whichever part that is
-- of. So of a closed capture it is said of events, which are of a part by the pairs that they go between, where the part
-- also ends when the capture does.
--
-- It is said of records that are read, so under `-n` of those within the limit. A line goes by its event; Unified2
-- numbers alerts from the first one on and has the packet of its record, and counts go by all records, so these differ.
-- To try it on: of packets between a and b and between c and d, the part of a and b shows the alerts of its packets. With
-- an event filter of a rule that lets the first event of each source through, it does so too; with `track by_dst` it may
-- not where b is d.
use Rattle.std.specs.Prelude.{◌≡◌, ℕ, Bool, true, false, List, Contains, Option, Some, filter, map}
use Rattle.edge_io.specs.Along.{trail}
use Rattle.packet_decode.specs.declared.item.ItemHead.{ItemHead}
use Rattle.event_filters.specs.declared.counting.CountKey.{CountKey}
use Rattle.event_filters.specs.Counting.{Event}
use Rattle.event_filters.specs.Events.{event_key, event_of, global_place, match_key, own_place}
use Rattle.event_filters.specs.Keys.{same_key}
use Rattle.flow_lanes.specs.declared.answer.Hits.{Hits}
use Rattle.record_jobs.specs.Splitting.{IsSplit, IsSplitWhole, Pairs, Part, all_items, is_between, record_items}
use Rattle.record_jobs.specs.Way.{LinkedRecord}
use Rattle.alert_lines.specs.Beside.{Beside, beside, own}
use Rattle.snort_engine.specs.Course.{Plan}
use Rattle.alert_lines.specs.Events.{Alert, Event as Shown}
use Rattle.snort_engine.specs.Trace.{detection_of, jobs_way}

-- the alerts of a part, by the records that they are beside
abbrev pub alerts_of : Part → List Alert → List Alert
alerts_of part alerts = filter (λ (alert : Alert). part alert.source) alerts

-- the items of records, each beside the record whose job has it
abbrev pub items_beside : Plan → List LinkedRecord → List (Beside LinkedRecord Hits)
items_beside plan records = trail (own (record_items (detection_of plan) (jobs_way plan))) records

-- by these keys no item of the part is counted together with one that isn't, whichever rules match the two
abbrev pub IsCountedApart : {S : Type 0} → (S → Bool) → List (Beside S Hits) → (Event → Option CountKey) → Type 0
IsCountedApart {S} part items key_of = (a b : Beside S Hits) (p q : ℕ) (key other : CountKey)
    → Contains items a → Contains items b → part a.source ≡ true → part b.source ≡ false
    → key_of (event_of a.what.head p) ≡ Some key → key_of (event_of b.what.head q) ≡ Some other → same_key key other ≡ false

-- no item of the part is counted together with one that isn't: not by detection filters, nor by the event filters of
-- rules or of all rules
pub record AreCountedApart {S : Type 0} (plan : Plan) (part : S → Bool) (items : List (Beside S Hits)) : Type 0 where
  pub matches : IsCountedApart part items (match_key plan.rules)
  pub own : IsCountedApart part items (event_key (own_place plan.config.filters) plan.config.filters plan.rules)
  pub global : IsCountedApart part items (event_key (global_place plan.config.filters) plan.config.filters plan.rules)

-- a part whose records have their items, and across which nothing is counted
pub record IsShownApart (plan : Plan) (part : Part) (records : List LinkedRecord) : Type 0 where
  pub split : IsSplit (jobs_way plan) part records
  pub apart : AreCountedApart plan part (items_beside plan records)

-- ---- where the capture has ended

-- the events that go between these pairs
abbrev pub events_between : Pairs → List Shown → List Shown
events_between pairs events = filter (λ (event : Shown). is_between pairs event.head) events

-- items, each beside its head
abbrev pub items_by_head : List Hits → List (Beside ItemHead Hits)
items_by_head items = map (λ (hits : Hits). beside hits.head hits) items

-- a part by these pairs that ends when the capture does, and across which nothing is counted, of no item
pub record IsShownWhole (plan : Plan) (pairs : Pairs) (part : Part) (records : List LinkedRecord) : Type 0 where
  pub split : IsSplitWhole (jobs_way plan) pairs part records
  pub apart : AreCountedApart plan (is_between pairs) (items_by_head (all_items (detection_of plan) (jobs_way plan) records))
