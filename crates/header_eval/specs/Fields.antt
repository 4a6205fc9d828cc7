-- When the header of a rule, and when an option that tests a field, holds of an item.
--
-- Public source: Snort Users Manual 2.9, section 3.2 (rule headers) and section 3.6 (non-payload
-- detection); the fields are those of RFC 791, 793 and 792. What a stretch of a stream has of a packet,
-- nothing but its ends and its protocol, is this project's own.
-- To try it on: a rule of udp from any to 10.0.0.2 port 53 holds of a UDP packet to 10.0.0.2 port 53,
-- and of no fragment; under `<>` it holds of the answer too. `ttl:<5` holds of a packet with ttl 4, and
-- of no stretch of a stream.
use Rattle.std.specs.Prelude.{◌≡◌, ℕ, ◌+◌, ◌-◌, ◌==◌, ◌⊎◌, ⊤, Bool, true, false, not, ◌&&◌, ◌||◌, Option, Some, None, List, nat_lt, nat_le, bit_and, if◌then◌else◌}
use Rattle.std.specs.Option.{option_map}
use Rattle.edge_io.specs.Addresses.{same_addr}
use Rattle.net_lists.specs.declared.part.AddrBounds.{AddrBounds}
use Rattle.net_lists.specs.declared.part.ValueBounds.{ValueBounds}
use Rattle.net_lists.specs.declared.part.Part.{Part}
use Rattle.net_lists.specs.Membership.{IsListed, Has, HasAddress}
use Rattle.packet_decode.specs.declared.item.ItemHead.{ItemHead}
use Rattle.packet_decode.specs.declared.item.ItemKind.{ItemKind}
use Rattle.packet_decode.specs.declared.item.ItemKind.TheVariants as kind
use Rattle.packet_decode.specs.declared.packet.Body.{Body}
use Rattle.packet_decode.specs.declared.packet.Body.TheVariants as body
use Rattle.packet_decode.specs.declared.packet.IpHead.{IpHead}
use Rattle.packet_decode.specs.declared.packet.TcpHead.{TcpHead}
use Rattle.rule_types.specs.declared.option.Cmp.{Cmp}
use Rattle.rule_types.specs.declared.option.Cmp.TheVariants as cmp
use Rattle.rule_types.specs.declared.option.Field.{Field}
use Rattle.rule_types.specs.declared.option.Field.TheVariants as field
use Rattle.rule_types.specs.declared.option.FlowOpt.{FlowOpt}
use Rattle.rule_types.specs.declared.option.Mode.{Mode}
use Rattle.rule_types.specs.declared.option.Mode.TheVariants as mode
use Rattle.rule_types.specs.declared.option.Opt.{Opt}
use Rattle.rule_types.specs.declared.option.Opt.TheVariants as opt
use Rattle.rule_types.specs.declared.option.Side.{Side}
use Rattle.rule_types.specs.declared.option.Side.TheVariants as side
use Rattle.rule_types.specs.declared.rule.Proto.{Proto}
use Rattle.rule_types.specs.declared.rule.Proto.TheVariants as proto
use Rattle.rule_types.specs.declared.rule.Rule.{Rule}
use Rattle.header_eval.specs.declared.header.ItemEnd.{ItemEnd}

-- ---- the header

-- the item is of the rule's protocol: every item is of ip, a stretch of a stream is of tcp, and a
-- fragment is of ip alone
abbrev pub is_of : Proto → Body → Bool
is_of proto.Ip body = true
is_of proto.Tcp (body.Tcp head) = true
is_of proto.Tcp (body.Stream sport dport) = true
is_of proto.Udp (body.Udp sport dport) = true
is_of proto.Icmp (body.Icmp kind code id seq) = true
is_of proto body = false

-- the ports of the source and of the destination, where the item has ports
abbrev pub source_port : Body → Option ℕ
source_port (body.Tcp head) = Some head.sport
source_port (body.Udp sport dport) = Some sport
source_port (body.Stream sport dport) = Some sport
source_port body = None

abbrev pub destination_port : Body → Option ℕ
destination_port (body.Tcp head) = Some head.dport
destination_port (body.Udp sport dport) = Some dport
destination_port (body.Stream sport dport) = Some dport
destination_port body = None

-- the ends of an item
abbrev pub source_of : ItemHead → ItemEnd
source_of head = record { addr = head.ip.src; port = source_port head.body }

abbrev pub destination_of : ItemHead → ItemEnd
destination_of head = record { addr = head.ip.dst; port = destination_port head.body }

-- the end has a port, and it is listed
abbrev pub HasPort : List (Part (ValueBounds ℕ)) → Option ℕ → Type 0
HasPort ports None = ⊥
HasPort ports (Some port) = IsListed (Has port) ports

-- ports are tested by rules of tcp and udp alone
abbrev pub PortHolds : Proto → List (Part (ValueBounds ℕ)) → Option ℕ → Type 0
PortHolds proto.Tcp ports port = HasPort ports port
PortHolds proto.Udp ports port = HasPort ports port
PortHolds proto ports port = ⊤

-- the end is one of these addresses and ports
abbrev pub IsEnd : Proto → List (Part AddrBounds) → List (Part (ValueBounds ℕ)) → ItemEnd → Type 0
IsEnd proto addrs ports end = IsListed (HasAddress end.addr) addrs × PortHolds proto ports end.port

-- the way from one end to another is the rule's, from its left side to its right side
unfoldable pub IsWay : Rule → ItemEnd → ItemEnd → Type 0
IsWay rule from to = IsEnd rule.proto rule.src rule.sports from × IsEnd rule.proto rule.dst rule.dports to

-- the header holds: `<>` takes either way
unfoldable pub HeaderHolds : Rule → ItemHead → Type 0
HeaderHolds rule head =
    (is_of rule.proto head.body ≡ true) × (IsWay rule (source_of head) (destination_of head)
    ⊎ ((rule.both ≡ true) × IsWay rule (destination_of head) (source_of head)))

-- ---- the values of fields: none where the item lacks the field

-- a stretch of a stream
abbrev pub is_stream : ItemKind → Bool
is_stream kind.Stream = true
is_stream kind = false

-- a datagram that was put together from fragments
abbrev pub is_rebuilt : ItemKind → Bool
is_rebuilt kind.Rebuilt = true
is_rebuilt kind = false

-- a number that each packet has, and no stretch of a stream
abbrev pub of_packet : ItemHead → ℕ → Option ℕ
of_packet head number = if is_stream head.kind then None else Some number

-- the header of a TCP packet
abbrev pub tcp_of : ItemKind → Body → Option TcpHead
tcp_of kind.Stream body = None
tcp_of kind (body.Tcp head) = Some head
tcp_of kind body = None

-- itype, icode, icmp_id, icmp_seq: the four numbers of an ICMP packet
abbrev pub itype : Body → Option ℕ
itype (body.Icmp kind code id seq) = Some kind
itype body = None

abbrev pub icode : Body → Option ℕ
icode (body.Icmp kind code id seq) = Some code
icode body = None

abbrev pub icmp_id : Body → Option ℕ
icmp_id (body.Icmp kind code id seq) = Some id
icmp_id body = None

abbrev pub icmp_seq : Body → Option ℕ
icmp_seq (body.Icmp kind code id seq) = Some seq
icmp_seq body = None

-- the number that a field of an item with `len` bytes of payload has
unfoldable pub field_value : Field → ItemHead → ℕ → Option ℕ
field_value field.Ttl head len = of_packet head head.ip.ttl
field_value field.Tos head len = of_packet head head.ip.tos
field_value field.Id head len = of_packet head head.ip.id
field_value field.FragOffset head len = of_packet head head.ip.offset
field_value field.IpProto head len = Some head.ip.protocol
field_value field.Seq head len = option_map (λ tcp. tcp.seq) (tcp_of head.kind head.body)
field_value field.Ack head len = option_map (λ tcp. tcp.ack) (tcp_of head.kind head.body)
field_value field.Window head len = option_map (λ tcp. tcp.window) (tcp_of head.kind head.body)
field_value field.Itype head len = itype head.body
field_value field.Icode head len = icode head.body
field_value field.IcmpId head len = icmp_id head.body
field_value field.IcmpSeq head len = icmp_seq head.body
field_value field.Dsize head len = of_packet head len

-- ---- comparisons

-- a number against another, or against two ends which are inside
abbrev pub compares : Cmp → ℕ → ℕ → ℕ → Bool
compares cmp.Eq number low high = number == low
compares cmp.Ne number low high = not (number == low)
compares cmp.Lt number low high = nat_lt number low
compares cmp.Gt number low high = nat_lt low number
compares cmp.Le number low high = nat_le number low
compares cmp.Ge number low high = nat_le low number
compares cmp.And number low high = not (bit_and number low == 0)
compares cmp.Within number low high = nat_le low number && nat_le number high

-- a number that may lack, against another, or against two ends which are inside
abbrev pub value_compares : Option ℕ → Cmp → ℕ → ℕ → Bool
value_compares None cmp low high = false
value_compares (Some number) cmp low high = compares cmp number low high

-- bits that are set, against the bits of an option
abbrev pub bits_hold : Mode → ℕ → ℕ → Bool
bits_hold mode.Exact set bits = set == bits
bits_hold mode.All set bits = bit_and set bits == bits
bits_hold mode.Any set bits = not (bit_and set bits == 0)
bits_hold mode.NoneSet set bits = bit_and set bits == 0

-- ---- fragbits

-- more fragments is 1, don't fragment 2, the reserved bit 4
abbrev pub fragbits : IpHead → ℕ
fragbits ip = (if ip.more then 1 else 0) + (if ip.dont then 2 else 0) + (if ip.reserved then 4 else 0)

abbrev pub fragbits_hold : ItemHead → Mode → ℕ → Bool
fragbits_hold head mode bits = not (is_stream head.kind) && bits_hold mode (fragbits head.ip) bits

-- ---- flags

-- the flags of a TCP packet, against those of an option: those of the mask don't count
abbrev pub flags_hold : Option TcpHead → Mode → ℕ → ℕ → Bool
flags_hold None mode bits mask = false
flags_hold (Some tcp) mode bits mask = bits_hold mode (bit_and tcp.flags (255 - mask)) bits

-- ---- flow

-- what is asked of a fact, if anything is
abbrev pub agrees : Option Bool → Bool → Bool
agrees None fact = true
agrees (Some true) fact = fact
agrees (Some false) fact = not fact

-- what is asked of a fact that may not be known, if anything is
abbrev pub agrees_known : Option Bool → Option Bool → Bool
agrees_known None fact = true
agrees_known asked None = false
agrees_known asked (Some fact) = agrees asked fact

-- what is asked of the session and of how the item came to be; `stateless` asks nothing
unfoldable pub flow_holds : FlowOpt → ItemHead → Bool
flow_holds flow head =
    agrees flow.established head.session.established
    && (agrees_known flow.from_client head.session.from_client
    && (agrees flow.stream (is_stream head.kind) && agrees flow.frag (is_rebuilt head.kind)))

-- ---- stream_size

-- how much the sides of a session have sent, where it is known
abbrev pub stream_size_holds : Option (ℕ × ℕ) → Side → Cmp → ℕ → Bool
stream_size_holds None side cmp size = false
stream_size_holds (Some sizes) side.Client cmp size = compares cmp sizes.0 size size
stream_size_holds (Some sizes) side.Server cmp size = compares cmp sizes.1 size size
stream_size_holds (Some sizes) side.Both cmp size = compares cmp sizes.0 size size && compares cmp sizes.1 size size
stream_size_holds (Some sizes) side.Either cmp size = compares cmp sizes.0 size size || compares cmp sizes.1 size size

-- ---- all options

-- an option holds of an item with `len` bytes of payload; one that tests no field does so always
unfoldable pub field_holds : Opt → ItemHead → ℕ → Bool
field_holds (opt.Flow flow) head len = flow_holds flow head
field_holds (opt.Flags mode bits mask) head len = flags_hold (tcp_of head.kind head.body) mode bits mask
field_holds (opt.FragBits mode bits) head len = fragbits_hold head mode bits
field_holds (opt.Compare field cmp low high) head len = value_compares (field_value field head len) cmp low high
field_holds opt.SameIp head len = same_addr head.ip.src head.ip.dst
field_holds (opt.StreamSize side cmp size) head len = stream_size_holds head.session.sizes side cmp size
field_holds opt head len = true
