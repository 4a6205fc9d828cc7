-- What the line of an item tells.
--
-- To try it on: a fragment of UDP tells protocol 17 and no ports.
use Rattle.std.specs.Prelude.{ℕ, ◌/◌, ◌%◌, List, Option, Some, None, option_map}
use Rattle.packet_decode.specs.declared.item.ItemHead.{ItemHead}
use Rattle.packet_decode.specs.declared.packet.Body.{Body}
use Rattle.packet_decode.specs.declared.packet.Body.TheVariants.{Tcp, Udp, Icmp, Other, Fragment, Stream}
use Rattle.conf_types.specs.declared.classes.Class.{Class}
use Rattle.rule_types.specs.declared.rule.Rule.{Rule}
use Rattle.alert_fast.specs.declared.told.LineTime.{LineTime}
use Rattle.alert_fast.specs.Calendar.{date_of}
use Rattle.alert_fast.specs.Line.{text_of}
use Rattle.alert_fast.specs.Told.{LineFacts}

-- the date and the time of a moment
abbrev pub time_at : ℕ → LineTime
time_at nanos = record {
  month = (date_of (nanos / 86_400_000_000_000)).month;
  day = (date_of (nanos / 86_400_000_000_000)).day;
  hour = nanos / 3_600_000_000_000 % 24;
  minute = nanos / 60_000_000_000 % 60;
  second = nanos / 1_000_000_000 % 60;
  microsecond = nanos / 1_000 % 1_000_000;
}

-- the ports of a TCP or UDP packet, or of a stream
abbrev pub ports_of : Body → Option (ℕ × ℕ)
ports_of (Tcp head) = Some (head.sport, head.dport)
ports_of (Udp sport dport) = Some (sport, dport)
ports_of (Stream sport dport) = Some (sport, dport)
ports_of (Icmp kind code id seq) = None
ports_of Other = None
ports_of Fragment = None

-- what the line of an item that a rule matches tells, where these are the classes
abbrev pub told_by : ItemHead → Rule → List Class → LineFacts
told_by head rule classes = record {
  time = time_at head.moment.nanos;
  mark = record { gid = rule.gid; sid = rule.sid; rev = rule.rev };
  msg = rule.msg;
  class = option_map (λ (place : ℕ). text_of classes place) rule.class;
  priority = rule.priority;
  protocol = head.ip.protocol;
  ends = record { src = head.ip.src; dst = head.ip.dst; ports = ports_of head.body };
}
