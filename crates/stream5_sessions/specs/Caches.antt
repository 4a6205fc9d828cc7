-- How the flows that live are kept: of each protocol the keys that live with their flows' numbers,
-- the latest touched first.
use Rattle.std.specs.Prelude.{◌≡◌, ℕ, ◌+◌, ◌-◌, ◌<◌, ◌≤◌, Bool, true, false, List, [], ◌∷◌, ◌++◌, Option, Some, None, length, take, slice_get, option_map, if◌then◌else◌}
use Rattle.std.specs.Map.{lookup, remove_entry}
use Rattle.stream5_sessions.specs.declared.key.Key.{Key}
use Rattle.stream5_sessions.specs.declared.flows.Touch.{Touch}
use Rattle.stream5_sessions.specs.Keys.{is_of, same_key}
use Rattle.stream5_sessions.specs.Liveness.{MaxFlows, is_live, begun, flow_number, max_for, touch_found, live_flows, live_count}

-- how many flows live at most, the number of the next flow, and the keys that are kept
pub record FlowsState : Type 0 where
  pub max : MaxFlows
  pub next : ℕ
  pub tcp : List (Key × ℕ)
  pub udp : List (Key × ℕ)

-- a flow of each protocol may live, and no more keys are kept than flows of a protocol may live
pub record IsBounded (flows : FlowsState) : Type 0 where
  pub some_tcp : 0 < flows.max.tcp
  pub some_udp : 0 < flows.max.udp
  pub tcp : length flows.tcp ≤ flows.max.tcp
  pub udp : length flows.udp ≤ flows.max.udp

-- the keys of the protocol, each once, with their last flows' numbers, the latest touched first
abbrev pub stretches : MaxFlows → Bool → List Key → List (Key × ℕ)
stretches max tcp [] = []
stretches max tcp (key ∷ earlier) =
    if is_of tcp key
    then (key, flow_number max (key ∷ earlier) key) ∷ remove_entry (same_key key) (stretches max tcp earlier)
    else stretches max tcp earlier

-- the value stands for these touches
pub record HasSeen (flows : FlowsState) (touches : List Key) : Type 0 where
  pub some_tcp : 0 < flows.max.tcp
  pub some_udp : 0 < flows.max.udp
  pub next : flows.next ≡ begun flows.max touches
  pub tcp : flows.tcp ≡ take flows.max.tcp (stretches flows.max true touches)
  pub udp : flows.udp ≡ take flows.max.udp (stretches flows.max false touches)

-- for whatever touches the value was for, this is what a touch of the key finds
abbrev pub IsFound : FlowsState → Key → Touch → Type 0
IsFound flows key touch = (touches : List Key) → HasSeen flows touches → touch ≡ touch_found flows.max touches key

-- whatever touches the value was for, it now stands for those and one of the key
abbrev pub SeesTouch : FlowsState → Key → FlowsState → Type 0
SeesTouch old key new = (touches : List Key) → HasSeen old touches → HasSeen new (key ∷ touches)

-- the value stands for some touches after which the key lives
abbrev pub IsKnown : FlowsState → Key → Type 0
IsKnown flows key = (touches : List Key) × HasSeen flows touches × (is_live flows.max touches key ≡ true)

-- after whatever touches the value stands for, no more flows of a protocol live than may
abbrev pub KeepsBounds : FlowsState → Type 0
KeepsBounds flows =
    (touches : List Key) → HasSeen flows touches → (tcp : Bool) → live_count flows.max tcp touches ≤ max_for flows.max tcp

-- after whatever touches the value stands for, the flows that live are appended
abbrev pub AppendsLive : FlowsState → List ℕ → List ℕ → Type 0
AppendsLive flows old new = (touches : List Key) → HasSeen flows touches → new ≡ old ++ live_flows flows.max touches

-- what a touch finds, where the look-up gave this
abbrev pub found_by : List (Key × ℕ) → ℕ → ℕ → Option ℕ → Touch
found_by entries cap next (Some flow) = record { flow = flow; fresh = false; evicted = None }
found_by entries cap next None = record {
  flow = next;
  fresh = true;
  evicted = option_map (λ entry. entry.1) (slice_get entries (cap - 1));
}

-- what is kept after a touch, where the look-up gave this
abbrev pub kept_by : List (Key × ℕ) → ℕ → ℕ → Key → Option ℕ → List (Key × ℕ)
kept_by entries cap next key (Some flow) = (key, flow) ∷ remove_entry (same_key key) entries
kept_by entries cap next key None = (key, next) ∷ take (cap - 1) entries

-- the number of the next flow after a touch, where the look-up gave this
abbrev pub next_by : ℕ → Option ℕ → ℕ
next_by next (Some flow) = next
next_by next None = next + 1

-- the keys that are kept of this protocol
abbrev pub kept_of : FlowsState → Bool → List (Key × ℕ)
kept_of flows tcp = if tcp then flows.tcp else flows.udp

-- the flow under which the key is kept
abbrev pub looked_up : FlowsState → Key → Option ℕ
looked_up flows key = lookup (same_key key) (kept_of flows key.tcp)

-- what a touch of the key finds
abbrev pub found_in : FlowsState → Key → Touch
found_in flows key = found_by (kept_of flows key.tcp) (max_for flows.max key.tcp) flows.next (looked_up flows key)

-- what is kept of this protocol after a touch of the key
abbrev pub kept_after : FlowsState → Key → List (Key × ℕ)
kept_after flows key = kept_by (kept_of flows key.tcp) (max_for flows.max key.tcp) flows.next key (looked_up flows key)

-- the value after a touch of the key
abbrev pub touched_state : FlowsState → Key → FlowsState
touched_state flows key = record {
  max = flows.max;
  next = next_by flows.next (looked_up flows key);
  tcp = (if key.tcp then kept_after flows key else flows.tcp);
  udp = (if key.tcp then flows.udp else kept_after flows key);
}
