-- What is told of an event of Unified2.
--
-- An event has two ports, or type and code of an ICMP message, and zeros in their place where it is of a fragment (Snort
-- Users Manual 2.9, "Unified2 IDS Event"). Own: zeros are ports only where the packet is there, is read, and is no
-- fragment. It is read as the detector reads a record (`record_decoded`), without a checksum verified. The texts of rules and
-- classes stand in no record of Unified2: they are those of a configuration, or empty.
-- To try it on: of an event over UDP with the ports 0 and 0 and no packet neither port is told; with the packet, and it is
-- no fragment, both are told as 0.
use Rattle.std.specs.Prelude.{ℕ, ◌+◌, ◌*◌, ◌==◌, ◌||◌, Bool, true, false, not, if◌then◌else◌, List, Option, None, Some, option_map, option_and_then, Result, Ok, Err}
use Rattle.edge_io.specs.declared.link.Link.{Link}
use Rattle.edge_io.specs.declared.link.Link.TheVariants.{Ethernet, RawIp, Cooked}
use Rattle.packet_decode.specs.declared.checks.Checks.{Checks}
use Rattle.packet_decode.specs.declared.skip.Skip.{Skip}
use Rattle.packet_decode.specs.declared.packet.Body.{Body}
use Rattle.packet_decode.specs.declared.packet.Body.TheVariants.{Tcp, Udp, Icmp, Other, Fragment, Stream}
use Rattle.packet_decode.specs.Decoding.{Fields}
use Rattle.ipv6_decode.specs.Versions.{record_decoded}
use Rattle.unified2_out.specs.declared.record.U2Event.{U2Event}
use Rattle.unified2_out.specs.declared.record.U2Packet.{U2Packet}
use Rattle.alert_json.specs.declared.event.FiveTuple.{FiveTuple}
use Rattle.alert_json.specs.declared.event.Pair.{Pair}
use Rattle.alert_json.specs.declared.event.Pair.TheVariants.{Unknown, Ports, Message}
use Rattle.alert_json.specs.Facts.{AlertFacts, PacketFacts, EventFacts, run_facts}
use Rattle.alert_json.specs.Value.{event_line}
use Rattle.snort_eve.specs.declared.events.JsonLines.{JsonLines}
use Rattle.snort_eve.specs.Joins.{Joined}
use Rattle.snort_eve.specs.Texts.{Texts, class_text, message_of, texts_of}

-- the link type of this number, where packets are read over it
unfoldable pub link_of : ℕ → Option Link
link_of number =
    if number == 1 then Some Ethernet else (if number == 101 then Some RawIp
    else (if number == 113 then Some Cooked else None))

-- no checksum is verified
abbrev pub unchecked : Checks
unchecked = record { ip = false; tcp = false; udp = false; icmp = false }

-- the packet of an answer
abbrev pub packet_of : Result Fields Skip → Option Fields
packet_of (Ok fields) = Some fields
packet_of (Err skip) = None

-- the packet that is read in a record's bytes
abbrev pub packet_in : ℕ → List ℕ → Option Fields
packet_in number bytes = option_and_then (λ (link : Link). packet_of (record_decoded link bytes unchecked)) (link_of number)

abbrev pub is_fragment : Body → Bool
is_fragment (Tcp head) = false
is_fragment (Udp sport dport) = false
is_fragment (Icmp kind code id seq) = false
is_fragment Other = false
is_fragment Fragment = true
is_fragment (Stream sport dport) = false

-- a packet is read in a record's bytes, and is no fragment
abbrev pub is_unbroken : Option Fields → Bool
is_unbroken None = false
is_unbroken (Some fields) = not (is_fragment fields.body)

-- the packet of an event is there, is read, and is no fragment
abbrev pub is_whole : Option U2Packet → Bool
is_whole None = false
is_whole (Some packet) = is_unbroken (packet_in packet.link packet.bytes)

-- both numbers of an event are known to be ports, or type and code
unfoldable pub has_pair : U2Event → Bool → Bool
has_pair event whole = (not (event.sport == 0) || not (event.dport == 0)) || whole

-- what these two numbers are by the protocol
unfoldable pub pair_by : ℕ → ℕ → ℕ → Pair
pair_by protocol sport dport =
    if (protocol == 6) || (protocol == 17) then Ports sport dport
    else (if (protocol == 1) || (protocol == 58) then Message sport dport else Unknown)

unfoldable pub pair_of : U2Event → Bool → Pair
pair_of event whole = if has_pair event whole then pair_by event.protocol event.sport event.dport else Unknown

-- the moment of an event, in nanoseconds
abbrev pub nanos_of : U2Event → ℕ
nanos_of event = (event.second * 1_000_000 + event.micro) * 1_000

-- its flow
abbrev pub flow_of : U2Event → Bool → FiveTuple
flow_of event whole = record {
  protocol = event.protocol;
  src = event.src;
  dst = event.dst;
  pair = pair_of event whole;
}

-- the text of the class of this number; 0 stands for none
unfoldable pub class_of : Texts → ℕ → Option (List ℕ)
class_of texts number = if number == 0 then None else Some (class_text texts number)

-- its rule
abbrev pub rule_of : Texts → U2Event → AlertFacts
rule_of texts event = record {
  blocked = event.blocked == 1;
  gid = event.gid;
  sid = event.sid;
  rev = event.rev;
  msg = message_of texts event.gid event.sid;
  class = class_of texts event.class;
  priority = event.priority;
}

-- its packet
abbrev pub captured_of : U2Packet → PacketFacts
captured_of packet = record {
  link = packet.link;
  bytes = packet.bytes;
  payload = option_map (λ (fields : Fields). fields.payload) (packet_in packet.link packet.bytes);
}

-- what is told of an event with its packet
abbrev pub event_of : Texts → Joined → EventFacts
event_of texts it = record {
  nanos = nanos_of it.event;
  flow = flow_of it.event (is_whole it.packet);
  alert = rule_of texts it.event;
  packet = option_map captured_of it.packet;
  count = None;
}

-- the line of an event, by texts and names that are lent
abbrev pub line_by : JsonLines → Joined → List ℕ
line_by lines it = event_line (event_of (texts_of lines.texts.now) it) (run_facts lines.run)
