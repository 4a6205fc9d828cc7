-- What an alert is as Unified2 records: its event, and the packet of that event.
--
-- The fields are those of Snort's own records (Snort Users Manual 2.9, "Unified2 File Format"); what is in
-- them is this project's reading. There is one sensor, 0, and nothing is known of impact or blocking.
-- Events are numbered over the whole run from 1 on; numbers and seconds are taken modulo 2^32, and what is less
-- than a microsecond is cut off. An ICMP message has its type and code in place of ports. The packet is
-- the record whose decoding made the event's item.
-- To try it on: the third alert of a run, of a rule of the first class, on a packet of 45 bytes, is an event with
-- the number 3 and the class 1, 60 bytes, and its packet, 81 bytes.
use Rattle.std.specs.Prelude.{ℕ, ◌+◌, ◌/◌, ◌%◌, ◌^◌, List, ◌++◌, Option, None, Some}
use Rattle.edge_io.specs.declared.link.Link.{Link}
use Rattle.edge_io.specs.declared.link.Link.TheVariants.{Ethernet, RawIp, Cooked}
use Rattle.edge_io.specs.declared.moment.Moment.{Moment}
use Rattle.packet_decode.specs.declared.packet.Body.{Body}
use Rattle.packet_decode.specs.declared.packet.Body.TheVariants as body
use Rattle.record_jobs.specs.Way.{LinkedRecord}
use Rattle.unified2_out.specs.declared.record.U2Event.{U2Event}
use Rattle.unified2_out.specs.declared.record.U2Packet.{U2Packet}
use Rattle.unified2_out.specs.declared.record.U2.TheVariants.{Event as an_event, Packet as a_packet}
use Rattle.unified2_out.specs.Records.{unified2_text}
use Rattle.alert_lines.specs.Events.{Alert, Event}

-- the whole seconds of a moment, and its microseconds
abbrev pub seconds_of : Moment → ℕ
seconds_of moment = moment.nanos / 1000000000 % 2 ^ 32

abbrev pub micros_of : Moment → ℕ
micros_of moment = moment.nanos / 1000 % 1000000

-- the number of a link layer in captures
abbrev pub link_number : Link → ℕ
link_number Ethernet = 1
link_number RawIp = 101
link_number Cooked = 113

-- the class at a place, counted from 1, modulo 2^32; 0 where there is none
abbrev pub class_number : Option ℕ → ℕ
class_number None = 0
class_number (Some place) = (place + 1) % 2 ^ 32

-- the ports of a packet or a stream, or the type and the code of an ICMP message
abbrev pub first_port : Body → ℕ
first_port (body.Tcp head) = head.sport
first_port (body.Udp sport dport) = sport
first_port (body.Stream sport dport) = sport
first_port (body.Icmp kind code id seq) = kind
first_port body.Other = 0
first_port body.Fragment = 0

abbrev pub second_port : Body → ℕ
second_port (body.Tcp head) = head.dport
second_port (body.Udp sport dport) = dport
second_port (body.Stream sport dport) = dport
second_port (body.Icmp kind code id seq) = code
second_port body.Other = 0
second_port body.Fragment = 0

-- the number of an event after this many others
abbrev pub event_number : ℕ → ℕ
event_number before = (before + 1) % 2 ^ 32

-- the record of an event after this many others
abbrev pub event_record : ℕ → Event → U2Event
event_record before event = record {
  sensor = 0;
  id = event_number before;
  second = seconds_of event.head.moment;
  micro = micros_of event.head.moment;
  sid = event.rule.sid;
  gid = event.rule.gid;
  rev = event.rule.rev;
  class = class_number event.rule.class;
  priority = event.rule.priority;
  src = event.head.ip.src;
  dst = event.head.ip.dst;
  sport = first_port event.head.body;
  dport = second_port event.head.body;
  protocol = event.head.ip.protocol;
  impact_flag = 0;
  impact = 0;
  blocked = 0;
}

-- the record of its packet, which was captured so
abbrev pub packet_record : ℕ → Moment → LinkedRecord → U2Packet
packet_record before moment source = record {
  sensor = 0;
  id = event_number before;
  event_second = seconds_of moment;
  second = seconds_of source.captured.moment;
  micro = micros_of source.captured.moment;
  link = link_number source.link;
  bytes = source.captured.bytes;
}

-- the bytes of an alert after this many others: its event, and then the packet
unfoldable pub records_text : ℕ → Alert → List ℕ
records_text before alert =
    unified2_text (an_event (event_record before alert.what))
    ++ unified2_text (a_packet (packet_record before alert.what.head.moment alert.source))
