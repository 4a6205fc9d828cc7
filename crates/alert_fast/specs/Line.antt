-- The text of an alert line.
--
-- The form is that of Snort's fast alerts (Snort Users Manual 2.9, section 2.6.2, "alert_fast"), with the
-- date and the time in UTC. Addresses of version 6 are written by RFC 5952, and never end in a dotted one.
-- To try it on: the line of an item at moment 0 begins `01/01-00:00:00.000000  [**] [`; a fragment of
-- protocol 17 has `{UDP} 10.0.0.1 -> 10.0.0.2`, without ports; 2001:db8:0:0:1:0:0:1 is `2001:db8::1:0:0:1`.
use Rattle.std.specs.Prelude.{ℕ, ◌/◌, ◌%◌, ◌^◌, ◌==◌, if◌then◌else◌, List, [], ◌++◌, Option, None, Some, option_map, unwrap_or, slice_get, codes, decimal}
use Rattle.std.specs.Int.{w128, to_be_bytes}
use Rattle.std.specs.Net.Addr.{segments_of}
use Rattle.std.specs.Net.Text.{hex_groups_text}
use Rattle.edge_io.specs.declared.address.Addr.{Addr}
use Rattle.edge_io.specs.declared.address.Addr.TheVariants.{V4, V6}
use Rattle.packet_decode.specs.declared.item.ItemHead.{ItemHead}
use Rattle.packet_decode.specs.declared.packet.Body.{Body}
use Rattle.packet_decode.specs.declared.packet.Body.TheVariants.{Tcp, Udp, Icmp, Other, Fragment, Stream}
use Rattle.conf_types.specs.declared.classes.Class.{Class}
use Rattle.rule_types.specs.declared.rule.Rule.{Rule}
use Rattle.alert_fast.specs.Calendar.{CivilDate, date_of}
use Rattle.alert_fast.specs.Pieces.{digits}

-- month and day of a date, as 02/29
unfoldable pub date_text : CivilDate → List ℕ
date_text date = digits 2 date.month ++ codes "/" ++ digits 2 date.day

-- the time of day in UTC, as 23:59:59.999999: what is less than a microsecond is cut off
unfoldable pub clock_text : ℕ → List ℕ
clock_text nanos =
    digits 2 (nanos / 3_600_000_000_000 % 24) ++ codes ":"
    ++ digits 2 (nanos / 60_000_000_000 % 60) ++ codes ":"
    ++ digits 2 (nanos / 1_000_000_000 % 60) ++ codes "."
    ++ digits 6 (nanos / 1_000 % 1_000_000)

-- date and time of a moment, in nanoseconds since 1970-01-01 00:00:00 UTC
unfoldable pub time_text : ℕ → List ℕ
time_text nanos = date_text (date_of (nanos / 86_400_000_000_000)) ++ codes "-" ++ clock_text nanos

-- the mark of a rule: its generator, number and revision, as [1:1000:2]
unfoldable pub rule_mark : ℕ → ℕ → ℕ → List ℕ
rule_mark gid sid rev = codes "[" ++ decimal gid ++ codes ":" ++ decimal sid ++ codes ":" ++ decimal rev ++ codes "]"

-- the mark and the message of a rule
unfoldable pub marked_msg : ℕ → ℕ → ℕ → List ℕ → List ℕ
marked_msg gid sid rev msg = codes "[**] " ++ rule_mark gid sid rev ++ codes " " ++ msg ++ codes " [**] "

-- the text of the class at this place
abbrev pub text_of : List Class → ℕ → List ℕ
text_of classes place = unwrap_or (option_map (λ (class : Class). class.text) (slice_get classes place)) []

-- the classification, where the rule has a class, and a blank
unfoldable pub class_text : List Class → Option ℕ → List ℕ
class_text classes None = []
class_text classes (Some place) = codes "[Classification: " ++ text_of classes place ++ codes "] "

-- the priority, and a blank
unfoldable pub priority_text : ℕ → List ℕ
priority_text priority = codes "[Priority: " ++ decimal priority ++ codes "] "

-- the name of the protocol of an IP header, or its number in three digits
unfoldable pub protocol_text : ℕ → List ℕ
protocol_text number =
    if number == 6 then codes "TCP"
    else (if number == 17 then codes "UDP"
    else (if number == 1 then codes "ICMP"
    else codes "PROTO:" ++ digits 3 number))

-- an address of version 4 in dotted decimal
unfoldable pub dotted_text : ℕ → List ℕ
dotted_text address =
    decimal (address / 2 ^ 24) ++ codes "." ++ decimal (address / 2 ^ 16 % 256) ++ codes "."
    ++ decimal (address / 2 ^ 8 % 256) ++ codes "." ++ decimal (address % 256)

-- an address of version 6 by RFC 5952, sections 4.1 to 4.3: eight groups in lower-case hex digits without
-- leading zeros, between colons; `::` in place of the longest run of at least two zero groups, of runs of
-- one length the first
unfoldable pub colon_text : ℕ → List ℕ
colon_text address = hex_groups_text (segments_of (to_be_bytes w128 address))

-- an address
unfoldable pub address_text : Addr → List ℕ
address_text (V4 address) = dotted_text address
address_text (V6 address) = colon_text address

-- the port that a TCP or UDP packet, or a stream, comes from
abbrev pub source_port : Body → Option ℕ
source_port (Tcp head) = Some head.sport
source_port (Udp sport dport) = Some sport
source_port (Stream sport dport) = Some sport
source_port (Icmp kind code id seq) = None
source_port Other = None
source_port Fragment = None

-- the port that it goes to
abbrev pub destination_port : Body → Option ℕ
destination_port (Tcp head) = Some head.dport
destination_port (Udp sport dport) = Some dport
destination_port (Stream sport dport) = Some dport
destination_port (Icmp kind code id seq) = None
destination_port Other = None
destination_port Fragment = None

-- a port after a colon, where there is one
unfoldable pub port_text : Option ℕ → List ℕ
port_text None = []
port_text (Some port) = codes ":" ++ decimal port

-- the line of an item that a rule matches, where these are the classes: when, by which rule, its class and
-- its priority, the protocol, from where and to where
unfoldable pub line_text : ItemHead → Rule → List Class → List ℕ
line_text head rule classes =
    (time_text head.moment.nanos ++ codes "  ")
    ++ marked_msg rule.gid rule.sid rule.rev rule.msg
    ++ class_text classes rule.class ++ priority_text rule.priority
    ++ (codes "{" ++ protocol_text head.ip.protocol ++ codes "} ")
    ++ address_text head.ip.src ++ (port_text (source_port head.body) ++ codes " -> ")
    ++ address_text head.ip.dst ++ (port_text (destination_port head.body) ++ codes "\n")
