-- The event that an alert line tells.
--
-- To try it on: of a line of ICMP neither ports nor a message are known, so its record has no `icmp_type`.
use Rattle.std.specs.Prelude.{ℕ, false, Option, None, Some}
use Rattle.alert_fast.specs.Told.{LineFacts}
use Rattle.alert_json.specs.declared.event.Pair.{Pair}
use Rattle.alert_json.specs.declared.event.Pair.TheVariants.{Unknown, Ports}
use Rattle.alert_json.specs.Facts.{EventFacts}

-- the ports, where the line has them
abbrev pub pair_of : Option (ℕ × ℕ) → Pair
pair_of None = Unknown
pair_of (Some ports) = Ports ports.0 ports.1

-- the event at this moment, in nanoseconds since 1970-01-01 00:00:00 UTC, of which a line tells this
abbrev pub event_of_line : ℕ → LineFacts → EventFacts
event_of_line nanos told = record {
  nanos = nanos;
  flow = record { protocol = told.protocol; src = told.ends.src; dst = told.ends.dst; pair = pair_of told.ends.ports };
  alert = record {
    blocked = false;
    gid = told.mark.gid;
    sid = told.mark.sid;
    rev = told.mark.rev;
    msg = told.msg;
    class = told.class;
    priority = told.priority;
  };
  packet = None;
  count = None;
}
