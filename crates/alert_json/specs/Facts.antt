-- What a record is made of: the values of `Event` and `RunFields`, wherever their bytes lie.
--
-- To try it on: two events that borrow equal messages from different places have the same facts.
use Rattle.std.specs.Prelude.{ℕ, Bool, List, Option, option_map}
use Rattle.std.specs.Borrow.{Bor}
use Rattle.alert_json.specs.declared.event.Event.{Event}
use Rattle.alert_json.specs.declared.event.FiveTuple.{FiveTuple}
use Rattle.alert_json.specs.declared.event.Alert.{Alert}
use Rattle.alert_json.specs.declared.event.Captured.{Captured}
use Rattle.alert_json.specs.declared.event.RunFields.{RunFields}

-- what is known of the rule
pub record AlertFacts : Type 0 where
  pub blocked : Bool
  pub gid : ℕ
  pub sid : ℕ
  pub rev : ℕ
  pub msg : List ℕ
  pub class : Option (List ℕ)
  pub priority : ℕ

-- what is known of the packet
pub record PacketFacts : Type 0 where
  pub link : ℕ
  pub bytes : List ℕ
  pub payload : Option (List ℕ)

-- what is known of the event; its moment is in nanoseconds since 1970-01-01 00:00:00 UTC
pub record EventFacts : Type 0 where
  pub nanos : ℕ
  pub flow : FiveTuple
  pub alert : AlertFacts
  pub packet : Option PacketFacts
  pub count : Option ℕ

-- what is known of the run
pub record RunFacts : Type 0 where
  pub seed : ℕ
  pub host : Option (List ℕ)
  pub pcap_filename : Option (List ℕ)

-- bytes that are lent
abbrev pub bytes_of : Option (Bor (List ℕ)) → Option (List ℕ)
bytes_of lent = option_map (λ (b : Bor (List ℕ)). b.now) lent

abbrev pub alert_facts : Alert → AlertFacts
alert_facts alert = record {
  blocked = alert.blocked;
  gid = alert.gid;
  sid = alert.sid;
  rev = alert.rev;
  msg = alert.msg.now;
  class = bytes_of alert.class;
  priority = alert.priority;
}

abbrev pub packet_facts : Captured → PacketFacts
packet_facts packet = record { link = packet.link; bytes = packet.bytes.now; payload = bytes_of packet.payload }

abbrev pub event_facts : Event → EventFacts
event_facts event = record {
  nanos = event.moment.nanos;
  flow = event.flow;
  alert = alert_facts event.alert;
  packet = option_map packet_facts event.packet;
  count = event.count;
}

abbrev pub run_facts : RunFields → RunFacts
run_facts run = record { seed = run.seed; host = bytes_of run.host; pcap_filename = bytes_of run.pcap_filename }
