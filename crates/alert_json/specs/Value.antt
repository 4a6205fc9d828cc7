-- The record of an event, as a JSON value and as a line.
--
-- The keys, and their order, are those of Suricata's EVE output, "Event type: alert" (Suricata User Guide, "EVE
-- JSON Format"). A value is one of the kit's `serde_json`, and its text has no blank (`compact_text`): an
-- object is `{`, its members, each a key in quotes, a colon and a value, with commas between them, and `}`; a
-- string has the escapes of RFC 8259, section 7.
-- To try it on: `{"timestamp":"1970-01-01T00:00:00.000000+0000","event_type":"alert","src_ip":"10.0.0.1","dest_ip":..`
-- begins the line of a fragment of UDP at moment 0.
use Rattle.std.specs.Prelude.{ℕ, ◌==◌, Bool, if◌then◌else◌, List, [], ◌∷◌, ◌++◌, Option, None, Some, option_map, unwrap_or, codes, decimal}
use Rattle.base64.specs.GeneralPurpose.{encode_of}
use Rattle.base64.specs.Engines.{standard}
use Rattle.serde_json.specs.Data.{Data, unsigned, number, string, object, Members, no_members, member}
use Rattle.serde_json.specs.Written.{compact_text}
use Rattle.alert_fast.specs.Line.{address_text}
use Rattle.alert_json.specs.declared.event.FiveTuple.{FiveTuple}
use Rattle.alert_json.specs.declared.event.Pair.{Pair}
use Rattle.alert_json.specs.declared.event.Pair.TheVariants.{Unknown, Ports, Message}
use Rattle.alert_json.specs.Facts.{AlertFacts, PacketFacts, EventFacts, RunFacts}
use Rattle.alert_json.specs.Texts.{text_of, printable_text}
use Rattle.alert_json.specs.Stamps.{timestamp_text}
use Rattle.alert_json.specs.FlowNumbers.{community_id, flow_number}

-- a member of an object: its key and its value
abbrev pub Field : Type 0
Field = List ℕ × Data

-- members, in this order
abbrev pub members_of : List Field → Members
members_of [] = no_members
members_of (field ∷ fields) = member field.0 field.1 (members_of fields)

-- the object of these members
abbrev pub object_of : List Field → Data
object_of fields = object (members_of fields)

-- one member: a text, a number, an object
abbrev pub text_field : List ℕ → List ℕ → List Field
text_field key text = (key, string text) ∷ []

abbrev pub number_field : List ℕ → ℕ → List Field
number_field key value = (key, number (unsigned value)) ∷ []

abbrev pub object_field : List ℕ → List Field → List Field
object_field key fields = (key, object_of fields) ∷ []

-- a member for what is there
abbrev pub maybe_text : List ℕ → Option (List ℕ) → List Field
maybe_text key None = []
maybe_text key (Some text) = text_field key text

abbrev pub maybe_number : List ℕ → Option ℕ → List Field
maybe_number key None = []
maybe_number key (Some value) = number_field key value

-- the name of a protocol at IANA, as Suricata writes it
unfoldable pub known_name : ℕ → Option (List ℕ)
known_name protocol =
    if protocol == 6 then Some (codes "TCP") else (if protocol == 17 then Some (codes "UDP")
    else (if protocol == 1 then Some (codes "ICMP") else (if protocol == 58 then Some (codes "IPv6-ICMP")
    else (if protocol == 2 then Some (codes "IGMP") else (if protocol == 41 then Some (codes "IPv6")
    else (if protocol == 47 then Some (codes "GRE") else (if protocol == 50 then Some (codes "ESP")
    else (if protocol == 51 then Some (codes "AH") else (if protocol == 103 then Some (codes "PIM")
    else (if protocol == 132 then Some (codes "SCTP") else None))))))))))

-- the name of a protocol, or its number
abbrev pub protocol_name : ℕ → List ℕ
protocol_name protocol = unwrap_or (known_name protocol) (decimal protocol)

-- the members of when: its time, the number of its flow, and that of its packet
unfoldable pub time_fields : EventFacts → List Field
time_fields event =
    text_field (codes "timestamp") (timestamp_text event.nanos)
    ++ maybe_number (codes "flow_id") (flow_number event.flow)
    ++ maybe_number (codes "pcap_cnt") event.count
    ++ text_field (codes "event_type") (codes "alert")

-- the ports, where they are known
abbrev pub source_port : Pair → Option ℕ
source_port Unknown = None
source_port (Ports sport dport) = Some sport
source_port (Message kind code) = None

abbrev pub target_port : Pair → Option ℕ
target_port Unknown = None
target_port (Ports sport dport) = Some dport
target_port (Message kind code) = None

-- type and code, of a message
abbrev pub message_kind : Pair → Option ℕ
message_kind Unknown = None
message_kind (Ports sport dport) = None
message_kind (Message kind code) = Some kind

abbrev pub message_code : Pair → Option ℕ
message_code Unknown = None
message_code (Ports sport dport) = None
message_code (Message kind code) = Some code

-- the members of between whom
unfoldable pub flow_fields : ℕ → FiveTuple → List Field
flow_fields seed flow =
    text_field (codes "src_ip") (address_text flow.src)
    ++ maybe_number (codes "src_port") (source_port flow.pair)
    ++ text_field (codes "dest_ip") (address_text flow.dst)
    ++ maybe_number (codes "dest_port") (target_port flow.pair)
    ++ text_field (codes "proto") (protocol_name flow.protocol)
    ++ maybe_number (codes "icmp_type") (message_kind flow.pair)
    ++ maybe_number (codes "icmp_code") (message_code flow.pair)
    ++ maybe_text (codes "community_id") (community_id seed flow)

-- what was done with the packet
abbrev pub action : Bool → List ℕ
action blocked = if blocked then codes "blocked" else codes "allowed"

-- the priority; of a rule that says nothing of it and has no class, 3
unfoldable pub severity : Option (List ℕ) → ℕ → ℕ
severity None priority = if priority == 0 then 3 else priority
severity (Some class) priority = priority

-- the members of which rule
unfoldable pub alert_fields : AlertFacts → List Field
alert_fields alert =
    text_field (codes "action") (action alert.blocked)
    ++ number_field (codes "gid") alert.gid
    ++ number_field (codes "signature_id") alert.sid
    ++ number_field (codes "rev") alert.rev
    ++ text_field (codes "signature") (text_of alert.msg)
    ++ text_field (codes "category") (text_of (unwrap_or alert.class []))
    ++ number_field (codes "severity") (severity alert.class alert.priority)

-- the members of the packet, where it is known
unfoldable pub packet_fields : Option PacketFacts → List Field
packet_fields None = []
packet_fields (Some packet) =
    maybe_text (codes "payload_printable") (option_map printable_text packet.payload)
    ++ text_field (codes "packet") (encode_of standard packet.bytes)
    ++ object_field (codes "packet_info") (number_field (codes "linktype") packet.link)

-- the members that all events of a run have alike
unfoldable pub run_fields : RunFacts → List Field
run_fields run =
    maybe_text (codes "host") (option_map text_of run.host)
    ++ maybe_text (codes "pcap_filename") (option_map text_of run.pcap_filename)

-- the members of an event's record
unfoldable pub event_fields : EventFacts → RunFacts → List Field
event_fields event run =
    time_fields event ++ flow_fields run.seed event.flow
    ++ object_field (codes "alert") (alert_fields event.alert)
    ++ packet_fields event.packet ++ run_fields run

-- the record of an event, as a value
abbrev pub event_value : EventFacts → RunFacts → Data
event_value event run = object_of (event_fields event run)

-- the text of an event's record
abbrev pub event_text : EventFacts → RunFacts → List ℕ
event_text event run = compact_text (event_value event run)

-- the line of an event
abbrev pub event_line : EventFacts → RunFacts → List ℕ
event_line event run = event_text event run ++ codes "\n"
