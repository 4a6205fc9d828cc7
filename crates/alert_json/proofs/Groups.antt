-- The groups of a record's members, written one member after another.
use Rattle.std.proofs.Common.{◌≡◌, ℕ, List, [], Option, None, Some, option_map, subst}
use Rattle.std.specs.Prelude.{codes, unwrap_or}
use Rattle.base64.specs.GeneralPurpose.{encode_of}
use Rattle.base64.specs.Engines.{standard}
use Rattle.json.specs.Token.{Token}
use Rattle.alert_fast.specs.Line.{address_text}
use Rattle.alert_json.specs.declared.event.FiveTuple.{FiveTuple}
use Rattle.alert_json.specs.Facts.{AlertFacts, PacketFacts, EventFacts, RunFacts}
use Rattle.alert_json.specs.Texts.{text_of, printable_text}
use Rattle.alert_json.specs.Stamps.{timestamp_text}
use Rattle.alert_json.specs.FlowNumbers.{community_hash, community_text, community_id, flow_number}
use Rattle.alert_json.specs.Value.{text_field, number_field, object_field, maybe_text, maybe_number, source_port, target_port}
use Rattle.alert_json.specs.Value.{message_kind, message_code, protocol_name, action, severity, time_fields, flow_fields}
use Rattle.alert_json.specs.Value.{alert_fields, packet_fields, run_fields, event_fields}
use Rattle.alert_json.specs.Tokens.{Adds}
use Rattle.alert_json.proofs.Adding.{none, then}

pub time-group : (event : EventFacts) (stamp : List ℕ) (number : Option ℕ) (old a b c new : List Token) → stamp ≡ timestamp_text event.nanos → number ≡ flow_number event.flow
    → Adds old a (text_field (codes "timestamp") stamp) → Adds a b (maybe_number (codes "flow_id") number)
    → Adds b c (maybe_number (codes "pcap_cnt") event.count) → Adds c new (text_field (codes "event_type") (codes "alert"))
    → Adds old new (time_fields event)
unfolding time_fields
time-group event stamp number old a b c new same known h1 h2 h3 h4 =
    then (then (then (subst (λ (s : List ℕ). Adds old a (text_field (codes "timestamp") s)) same h1)
    (subst (λ (n : Option ℕ). Adds a b (maybe_number (codes "flow_id") n)) known h2)) h3) h4

pub flow-group : (seed : ℕ) (flow : FiveTuple) (source target kind code : Option ℕ) (old a b c d e f g new : List Token)
    → source ≡ source_port flow.pair → target ≡ target_port flow.pair → kind ≡ message_kind flow.pair → code ≡ message_code flow.pair
    → Adds old a (text_field (codes "src_ip") (address_text flow.src)) → Adds a b (maybe_number (codes "src_port") source)
    → Adds b c (text_field (codes "dest_ip") (address_text flow.dst)) → Adds c d (maybe_number (codes "dest_port") target)
    → Adds d e (text_field (codes "proto") (protocol_name flow.protocol)) → Adds e f (maybe_number (codes "icmp_type") kind)
    → Adds f g (maybe_number (codes "icmp_code") code) → Adds g new (maybe_text (codes "community_id") (community_id seed flow))
    → Adds old new (flow_fields seed flow)
unfolding flow_fields
flow-group seed flow source target kind code old a b c d e f g new s t k o h1 h2 h3 h4 h5 h6 h7 h8 =
    let sources = subst (λ (n : Option ℕ). Adds a b (maybe_number (codes "src_port") n)) s h2 in
    let targets = subst (λ (n : Option ℕ). Adds c d (maybe_number (codes "dest_port") n)) t h4 in
    let kinds = subst (λ (n : Option ℕ). Adds e f (maybe_number (codes "icmp_type") n)) k h6 in
    let numbers = subst (λ (n : Option ℕ). Adds f g (maybe_number (codes "icmp_code") n)) o h7 in
    then (then (then (then (then (then (then h1 sources) h3) targets) h5) kinds) numbers) h8

pub alert-group : (alert : AlertFacts) (done category : List ℕ) (severe : ℕ) (old a b c d e f new : List Token)
    → done ≡ action alert.blocked → category ≡ unwrap_or alert.class [] → severe ≡ severity alert.class alert.priority
    → Adds old a (text_field (codes "action") done) → Adds a b (number_field (codes "gid") alert.gid)
    → Adds b c (number_field (codes "signature_id") alert.sid) → Adds c d (number_field (codes "rev") alert.rev)
    → Adds d e (text_field (codes "signature") (text_of alert.msg)) → Adds e f (text_field (codes "category") (text_of category))
    → Adds f new (number_field (codes "severity") severe) → Adds old new (alert_fields alert)
unfolding alert_fields
alert-group alert done category severe old a b c d e f new is named much h1 h2 h3 h4 h5 h6 h7 =
    let action_is = subst (λ (x : List ℕ). Adds old a (text_field (codes "action") x)) is h1 in
    let category_is = subst (λ (x : List ℕ). Adds e f (text_field (codes "category") (text_of x))) named h6 in
    let severity_is = subst (λ (x : ℕ). Adds f new (number_field (codes "severity") x)) much h7 in
    then (then (then (then (then (then action_is h2) h3) h4) h5) category_is) severity_is

pub packet-group : (packet : PacketFacts) (old a b new : List Token) → Adds old a (maybe_text (codes "payload_printable") (option_map printable_text packet.payload))
    → Adds a b (text_field (codes "packet") (encode_of standard packet.bytes))
    → Adds b new (object_field (codes "packet_info") (number_field (codes "linktype") packet.link)) → Adds old new (packet_fields (Some packet))
unfolding packet_fields
packet-group packet old a b new h1 h2 h3 = then (then h1 h2) h3

pub no-packet : (old : List Token) → Adds old old (packet_fields None)
unfolding packet_fields
no-packet old = none old

pub run-group : (run : RunFacts) (old a new : List Token) → Adds old a (maybe_text (codes "host") (option_map text_of run.host))
    → Adds a new (maybe_text (codes "pcap_filename") (option_map text_of run.pcap_filename)) → Adds old new (run_fields run)
unfolding run_fields
run-group run old a new h1 h2 = then h1 h2

pub event-group : (event : EventFacts) (run : RunFacts) (old a b c d new : List Token) → Adds old a (time_fields event) → Adds a b (flow_fields run.seed event.flow)
    → Adds b c (object_field (codes "alert") (alert_fields event.alert)) → Adds c d (packet_fields event.packet) → Adds d new (run_fields run)
    → Adds old new (event_fields event run)
unfolding event_fields
event-group event run old a b c d new h1 h2 h3 h4 h5 = then (then (then (then h1 h2) h3) h4) h5

-- the ID of a hash that is the flow's
pub same-community : (seed : ℕ) (flow : FiveTuple) (hash : Option (List ℕ)) (old new : List Token) → hash ≡ community_hash seed flow flow.pair
    → Adds old new (maybe_text (codes "community_id") (option_map community_text hash)) → Adds old new (maybe_text (codes "community_id") (community_id seed flow))
same-community seed flow hash old new is h =
    subst (λ (h : Option (List ℕ)). Adds old new (maybe_text (codes "community_id") (option_map community_text h))) is h
