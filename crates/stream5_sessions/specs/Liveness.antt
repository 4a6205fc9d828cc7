-- Which flows live, and their numbers.
--
-- A flow is one stretch of life of a key. Each packet of a tracked protocol touches its key. From a
-- touch on the key lives, until as many different other keys of its protocol were touched since its
-- last touch as there may be flows of the protocol: `max_tcp` and `max_udp` of stream5 (Snort Users
-- Manual 2.9, section 2.2.2, `stream5_global`). A flow's number is the count of flows that began
-- before it, of either protocol. That the key which was silent for longest gives way is this
-- project's own choice.
--
-- Touches are in lists, the latest first, those of both protocols in one list.
-- To try it on: with at most two TCP flows, the TCP keys a, b, a, c are flows 0, 1, 0, 2, and the
-- touch of c ends flow 1. With at most one, a, b, a are flows 0, 1, 2.
use Rattle.std.specs.Prelude.{ℕ, ◌+◌, Bool, not, ◌&&◌, ◌==◌, List, [], ◌∷◌, Option, filter, nat_lt, if◌then◌else◌}
use Rattle.std.specs.List.{list_any, find, range_with_len}
use Rattle.std.specs.Option.{option_map}
use Rattle.stream5_sessions.specs.declared.key.Key.{Key}
use Rattle.stream5_sessions.specs.declared.flows.Touch.{Touch}
use Rattle.stream5_sessions.specs.Keys.{is_of, same_key}

-- how many flows of each protocol live at most
pub record MaxFlows : Type 0 where
  pub tcp : ℕ
  pub udp : ℕ

-- how many flows of this protocol live at most
abbrev pub max_for : MaxFlows → Bool → ℕ
max_for max tcp = if tcp then max.tcp else max.udp

-- the key is among these touches
abbrev pub is_touched : List Key → Key → Bool
is_touched touches key = list_any (same_key key) touches

-- the touches since the key's last one; all of them, where there is none
abbrev pub since : Key → List Key → List Key
since key [] = []
since key (touch ∷ earlier) = if same_key key touch then [] else touch ∷ since key earlier

-- how many different keys there are among these
abbrev pub distinct_count : List Key → ℕ
distinct_count [] = 0
distinct_count (key ∷ keys) = if is_touched keys key then distinct_count keys else distinct_count keys + 1

-- the key lives: it was touched, and since its last touch fewer different other keys of its protocol
-- were touched than there may be flows
unfoldable pub is_live : MaxFlows → List Key → Key → Bool
is_live max touches key =
    is_touched touches key
    && nat_lt (distinct_count (filter (is_of key.tcp) (since key touches))) (max_for max key.tcp)

-- how many flows have begun: one at each touch of a key that didn't live
abbrev pub begun : MaxFlows → List Key → ℕ
begun max [] = 0
begun max (key ∷ earlier) = if is_live max earlier key then begun max earlier else begun max earlier + 1

-- the number of the key's last flow: at its last touch it kept its flow, if it lived, and else began
-- the next one
abbrev pub flow_number : MaxFlows → List Key → Key → ℕ
flow_number max [] key = 0
flow_number max (touch ∷ earlier) key =
    if same_key key touch
    then (if is_live max earlier touch then flow_number max earlier touch else begun max earlier)
    else flow_number max earlier key

-- this touch ends the key's life
abbrev pub ends_life : MaxFlows → List Key → Key → Key → Bool
ends_life max earlier touch key = is_live max earlier key && not (is_live max (touch ∷ earlier) key)

-- the flow whose life this touch ends, if there is one
unfoldable pub evicted_flow : MaxFlows → List Key → Key → Option ℕ
evicted_flow max earlier touch =
    option_map (flow_number max earlier) (find (ends_life max earlier touch) earlier)

-- what a touch of the key finds: its flow, whether the flow begins, and the flow that it ends
abbrev pub touch_found : MaxFlows → List Key → Key → Touch
touch_found max earlier key = record {
  flow = flow_number max (key ∷ earlier) key;
  fresh = not (is_live max earlier key);
  evicted = evicted_flow max earlier key;
}

-- a key that lives has this flow
abbrev pub is_live_flow : MaxFlows → List Key → ℕ → Bool
is_live_flow max touches flow =
    list_any (λ key. is_live max touches key && (flow_number max touches key == flow)) touches

-- the numbers of the flows that live, in ascending order
unfoldable pub live_flows : MaxFlows → List Key → List ℕ
live_flows max touches = filter (is_live_flow max touches) (range_with_len 0 (begun max touches))

-- how many keys of this protocol live
abbrev pub live_count : MaxFlows → Bool → List Key → ℕ
live_count max tcp touches = distinct_count (filter (λ key. is_of tcp key && is_live max touches key) touches)
