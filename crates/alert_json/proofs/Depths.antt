-- A record nests two objects deep.
use Rattle.std.proofs.Common.{ℕ, ◌≤◌, List, [], ◌∷◌, ◌++◌, Option, None, Some, option_map, arith}
use Rattle.std.specs.Prelude.{⊤, codes, unwrap_or}
use Rattle.base64.specs.GeneralPurpose.{encode_of}
use Rattle.base64.specs.Engines.{standard}
use Rattle.alert_fast.specs.Line.{address_text}
use Rattle.serde_json.specs.Data.{depth, members_depth}
use Rattle.alert_json.specs.declared.event.FiveTuple.{FiveTuple}
use Rattle.alert_json.specs.Facts.{AlertFacts, PacketFacts, EventFacts, RunFacts}
use Rattle.alert_json.specs.Texts.{text_of, printable_text}
use Rattle.alert_json.specs.Stamps.{timestamp_text}
use Rattle.alert_json.specs.FlowNumbers.{community_id, flow_number}
use Rattle.alert_json.specs.Value.{Field, members_of, text_field, number_field, object_field, maybe_text, maybe_number}
use Rattle.alert_json.specs.Value.{source_port, target_port, message_kind, message_code, protocol_name, action, severity}
use Rattle.alert_json.specs.Value.{time_fields, flow_fields, alert_fields, packet_fields, run_fields, event_fields}

-- the values of members nest no deeper
abbrev pub Low : ℕ → List Field → Type 0
Low n [] = ⊤
Low n (field ∷ fields) = (depth field.1 ≤ n) × Low n fields

-- in a record, so that the lists are read off a goal
pub record IsLow (n : ℕ) (fields : List Field) : Type 0 where
  pub low : Low n fields

append : (n : ℕ) (xs ys : List Field) → Low n xs → Low n ys → Low n (xs ++ ys)
append n [] ys h k = k
append n (x ∷ xs) ys h k = (h.0, append n xs ys h.1 k)

and : {n : ℕ} {xs ys : List Field} → IsLow n xs → IsLow n ys → IsLow n (xs ++ ys)
and {n} {xs} {ys} h k = record { low = append n xs ys h.low k.low }

pub members_depth-low : (n : ℕ) (fields : List Field) → Low n fields → members_depth (members_of fields) ≤ n
members_depth-low n [] h = omega arith
members_depth-low n (x ∷ xs) h = omega (arith, h.0, members_depth-low n xs h.1)

text : (n : ℕ) (key s : List ℕ) → IsLow n (text_field key s)
text n key s = record { low = (omega arith, tt) }

count : (n : ℕ) (key : List ℕ) (value : ℕ) → IsLow n (number_field key value)
count n key value = record { low = (omega arith, tt) }

inner : (key : List ℕ) (fields : List Field) → IsLow 0 fields → IsLow 1 (object_field key fields)
inner key fields h = record { low = (omega (arith, members_depth-low 0 fields h.low), tt) }

maybe : (n : ℕ) (key : List ℕ) (s : Option (List ℕ)) → IsLow n (maybe_text key s)
maybe n key None = record { low = tt }
maybe n key (Some s) = text n key s

maybe_count : (n : ℕ) (key : List ℕ) (value : Option ℕ) → IsLow n (maybe_number key value)
maybe_count n key None = record { low = tt }
maybe_count n key (Some value) = count n key value

time : (event : EventFacts) → IsLow 1 (time_fields event)
unfolding time_fields
time event =
    let stamp = text 1 (codes "timestamp") (timestamp_text event.nanos) in
    let number_is = maybe_count 1 (codes "flow_id") (flow_number event.flow) in
    let packet_is = maybe_count 1 (codes "pcap_cnt") event.count in
    and (and (and stamp number_is) packet_is) (text 1 (codes "event_type") (codes "alert"))

flow : (seed : ℕ) (f : FiveTuple) → IsLow 1 (flow_fields seed f)
unfolding flow_fields
flow seed f =
    let source = text 1 (codes "src_ip") (address_text f.src) in
    let sport = maybe_count 1 (codes "src_port") (source_port f.pair) in
    let target = text 1 (codes "dest_ip") (address_text f.dst) in
    let dport = maybe_count 1 (codes "dest_port") (target_port f.pair) in
    let protocol = text 1 (codes "proto") (protocol_name f.protocol) in
    let kind = maybe_count 1 (codes "icmp_type") (message_kind f.pair) in
    let code = maybe_count 1 (codes "icmp_code") (message_code f.pair) in
    let id = maybe 1 (codes "community_id") (community_id seed f) in
    and (and (and (and (and (and (and source sport) target) dport) protocol) kind) code) id

rule : (alert : AlertFacts) → IsLow 0 (alert_fields alert)
unfolding alert_fields
rule alert =
    let done = text 0 (codes "action") (action alert.blocked) in
    let gid = count 0 (codes "gid") alert.gid in
    let sid = count 0 (codes "signature_id") alert.sid in
    let rev = count 0 (codes "rev") alert.rev in
    let msg = text 0 (codes "signature") (text_of alert.msg) in
    let category = text 0 (codes "category") (text_of (unwrap_or alert.class [])) in
    and (and (and (and (and (and done gid) sid) rev) msg) category) (count 0 (codes "severity") (severity alert.class alert.priority))

packet : (it : Option PacketFacts) → IsLow 1 (packet_fields it)
unfolding packet_fields
packet None = record { low = tt }
packet (Some it) =
    let payload = maybe 1 (codes "payload_printable") (option_map printable_text it.payload) in
    let bytes = text 1 (codes "packet") (encode_of standard it.bytes) in
    and (and payload bytes) (inner (codes "packet_info") (number_field (codes "linktype") it.link) (count 0 (codes "linktype") it.link))

shared : (run : RunFacts) → IsLow 1 (run_fields run)
unfolding run_fields
shared run = and (maybe 1 (codes "host") (option_map text_of run.host)) (maybe 1 (codes "pcap_filename") (option_map text_of run.pcap_filename))

pub event_low : (event : EventFacts) (run : RunFacts) → IsLow 1 (event_fields event run)
unfolding event_fields
event_low event run =
    let about = inner (codes "alert") (alert_fields event.alert) (rule event.alert) in
    and (and (and (and (time event) (flow run.seed event.flow)) about) (packet event.packet)) (shared run)
