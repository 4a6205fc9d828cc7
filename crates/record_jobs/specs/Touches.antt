-- Which packets belong to flows, and what they find of them.
--
-- A packet of TCP or UDP touches the key of its flow, where the configuration tracks its protocol (Snort
-- Users Manual 2.9, section 2.2.2). Which flows live, their numbers, and which one a touch ends, is said by
-- stream5_sessions specs/Liveness over the list of all touches, the latest first.
-- To try it on: with at most one TCP flow, a packet from port 1000 to port 80 and one from port 1001 to port
-- 80 are of the flows 0 and 1, and the second ends flow 0.
use Rattle.std.specs.Prelude.{ℕ, Bool, true, false, List, reverse, Option, Some, None, option_and_then, if◌then◌else◌}
use Rattle.std.specs.Option.{option_map, option_to_list}
use Rattle.edge_io.specs.Along.{trail}
use Rattle.packet_decode.specs.declared.packet.Body.{Body}
use Rattle.packet_decode.specs.declared.packet.Body.TheVariants as body
use Rattle.packet_decode.specs.declared.packet.IpHead.{IpHead}
use Rattle.conf_types.specs.declared.config.StreamConfig.{StreamConfig}
use Rattle.stream5_sessions.specs.declared.flows.Touch.{Touch}
use Rattle.stream5_sessions.specs.declared.key.Key.{Key}
use Rattle.stream5_sessions.specs.Keys.{key_of}
use Rattle.stream5_sessions.specs.Liveness.{MaxFlows, touch_found}
use Rattle.record_jobs.specs.declared.item.RecordItem.{RecordItem}
use Rattle.record_jobs.specs.Packets.{packet_in}
use Rattle.record_jobs.specs.Way.{LinkedRecord, Way}

-- how many flows of each protocol live at most
abbrev pub most_flows : StreamConfig → MaxFlows
most_flows stream = record { tcp = stream.max_tcp; udp = stream.max_udp }

-- the key of a packet between two ports
abbrev pub key_between : Bool → IpHead → ℕ → ℕ → Key
key_between tcp ip sport dport = key_of tcp (record { addr = ip.src; port = sport }) (record { addr = ip.dst; port = dport })

-- the key of a packet, where its protocol is tracked
unfoldable pub tracked_key : StreamConfig → IpHead → Body → Option Key
tracked_key stream ip (body.Tcp head) = if stream.tcp then Some (key_between true ip head.sport head.dport) else None
tracked_key stream ip (body.Udp sport dport) = if stream.udp then Some (key_between false ip sport dport) else None
tracked_key stream ip carried = None

abbrev pub item_key : Way → RecordItem → Option Key
item_key way item = tracked_key way.stream item.head.ip item.head.body

-- the key that a record touches
unfoldable pub key_in : Way → List LinkedRecord → LinkedRecord → Option Key
key_in way before r = option_and_then (item_key way) (packet_in way before r)

abbrev pub keys_in : Way → List LinkedRecord → LinkedRecord → List Key
keys_in way before r = option_to_list (key_in way before r)

-- the touches of these records, the latest first
unfoldable pub touches : Way → List LinkedRecord → List Key
touches way records = reverse (trail (keys_in way) records)

-- what a record's touch finds
unfoldable pub touch_in : Way → List LinkedRecord → LinkedRecord → Option Touch
touch_in way before r = option_map (touch_found (most_flows way.stream) (touches way before)) (key_in way before r)
