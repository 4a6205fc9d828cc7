-- What a captured record says, by the places of its bytes, or why it is skipped.
--
-- Every number is at a stated place of the whole record, and every payload is a slice of it. The
-- steps go in this order, and the first one that fails decides: link header, tags and type, lengths
-- of the IPv4 header, its checksum, fragment, transport header, its checksum. No byte is named before
-- a test that it is captured.
-- The standards: RFC 894 and IEEE 802.1Q for the type field and tags, RFC 791 section 3.1 for IPv4,
-- RFC 793 section 3.1 for TCP, RFC 768 for UDP, RFC 792 for ICMP, RFC 1071 for the checksums.
-- To try it on: 02 00 00 00 00 02 02 00 00 00 00 01 08 00, 45 00 00 1f 00 01 00 00 40 11 66 cb 0a 00
-- 00 01 0a 00 00 02, 03 e8 07 d0 00 0b 00 00, 61 62 63 over Ethernet is a UDP packet from 10.0.0.1
-- port 1000 to 10.0.0.2 port 2000, whose payload is the last three bytes.
use Rattle.std.specs.Prelude.{ℕ, ◌+◌, ◌*◌, ◌/◌, ◌%◌, List, length, take, drop, Bool, not, ◌&&◌, ◌||◌, Option, Some, None, Result, Ok, Err, nat_lt, ◌==◌, if◌then◌else◌}
use Rattle.edge_io.specs.declared.address.Addr.TheVariants.{V4}
use Rattle.edge_io.specs.declared.link.Link.{Link}
use Rattle.edge_io.specs.declared.link.Link.TheVariants.{Ethernet, RawIp, Cooked}
use Rattle.packet_decode.specs.declared.checks.Checks.{Checks}
use Rattle.packet_decode.specs.declared.version.IpVersion.{IpVersion}
use Rattle.packet_decode.specs.declared.version.IpVersion.TheVariants.{Four, Six}
use Rattle.packet_decode.specs.declared.skip.Skip.{Skip}
use Rattle.packet_decode.specs.declared.skip.Skip.TheVariants.{Short, OtherProtocol, Checksum, Malformed}
use Rattle.packet_decode.specs.declared.ipv4.DataBounds.{DataBounds}
use Rattle.packet_decode.specs.declared.packet.IpHead.{IpHead}
use Rattle.packet_decode.specs.declared.packet.TcpHead.{TcpHead}
use Rattle.packet_decode.specs.declared.packet.Body.{Body}
use Rattle.packet_decode.specs.declared.packet.Body.TheVariants.{Tcp, Udp, Icmp, Other, Fragment}
use Rattle.packet_decode.specs.declared.packet.Packet.{Packet}
use Rattle.packet_decode.specs.declared.placed.Placed.{Placed}
use Rattle.edge_io.specs.OnResult.{◌>>=◌}
use Rattle.edge_io.specs.Bytes.{byte_at, be16, be32, slice, word_sum}
use Rattle.packet_decode.specs.Checksum.{is_all_ones, pseudo_sum}
use Rattle.packet_decode.specs.Versions.{ether_type, first_digit, version_of, icmp_protocol}

-- a packet apart from where its payload lies in memory
pub record Fields : Type 0 where
  pub ip : IpHead
  pub body : Body
  pub payload : List ℕ

-- the fields of a packet
abbrev pub fields_of : Packet → Fields
fields_of packet = record { ip = packet.ip; body = packet.body; payload = packet.payload.now }

-- an answer of the decoder, its packet seen by the fields
abbrev pub seen : Result Packet Skip → Result Fields Skip
seen (Ok packet) = Ok (fields_of packet)
seen (Err skip) = Err skip

-- the payload of a packet that was read from these bytes
abbrev pub payload_at : List ℕ → Placed → List ℕ
payload_at bytes packet = take packet.len (drop packet.start bytes)

-- the fields of a packet that was read from these bytes
abbrev pub fields_at : List ℕ → Placed → Fields
fields_at bytes packet = record { ip = packet.ip; body = packet.body; payload = payload_at bytes packet }

-- an answer of the decoder that writes a packet in place: the packet, where no reason to skip it is given
abbrev pub placed : List ℕ → Option Skip → Placed → Result Fields Skip
placed bytes None packet = Ok (fields_at bytes packet)
placed bytes (Some skip) packet = Err skip

-- The place of the type field after a tag whose own type, 8100, is at `place`: a tag has 4
-- bytes, and the type of what it holds follows it (IEEE 802.1Q). Without a tag it is the place itself.
unfoldable pub after_tag : List ℕ → ℕ → Result ℕ Skip
after_tag bytes place =
    if be16 bytes place == 0x8100
    then (if nat_lt (length bytes) (place + 6) then Err Short else Ok (place + 4))
    else Ok place

-- Where the packet of a version starts, if a type field is at `place`: after at most two tags,
-- and after a type that names the version.
unfoldable pub typed_start : IpVersion → List ℕ → ℕ → Result ℕ Skip
typed_start version bytes place = do
  inner ← after_tag bytes place
  innermost ← after_tag bytes inner
  if be16 bytes innermost == ether_type version then Ok (innermost + 2) else Err OtherProtocol

-- Where the packet of a version starts: Ethernet has 14 bytes with the type at 12, Linux cooked
-- capture 16 with the type at 14, and raw IP none, but the version in the first four bits.
unfoldable pub link_start : IpVersion → Link → List ℕ → Result ℕ Skip
link_start version Ethernet bytes = if nat_lt (length bytes) 14 then Err Short else typed_start version bytes 12
link_start version Cooked bytes = if nat_lt (length bytes) 16 then Err Short else typed_start version bytes 14
link_start version RawIp bytes =
    if length bytes == 0 then Err Short
    else (if byte_at bytes 0 / 16 == first_digit version then Ok 0 else Err OtherProtocol)

-- Where the data of the IPv4 datagram at `start` starts and stops, by the header length, which
-- counts units of 4 bytes, and by the total length (RFC 791, section 3.1). The header isn't longer
-- than the total, so it is captured where the total is.
unfoldable pub data_bounds : List ℕ → ℕ → Result DataBounds Skip
data_bounds bytes start =
    if nat_lt (length bytes) (start + 20) then Err Short
    else (let version = byte_at bytes start / 16 in
    let header_len = byte_at bytes start % 16 * 4 in
    let total_len = be16 bytes (start + 2) in
    if not (version == 4) || nat_lt header_len 20 || nat_lt total_len header_len then Err Malformed
    else (if nat_lt (length bytes) (start + total_len) then Err Short
    else Ok (record { start = start + header_len; stop = start + total_len })))

-- The fields of the IPv4 header at `start` (RFC 791, section 3.1). The word at 6 has the reserved
-- bit, don't fragment and more fragments from the highest bit on, and then 13 bits of offset.
unfoldable pub ip_head_at : List ℕ → ℕ → IpHead
ip_head_at bytes start =
    let fragmentation = be16 bytes (start + 6) in
    record {
      src = V4 (be32 bytes (start + 12));
      dst = V4 (be32 bytes (start + 16));
      protocol = byte_at bytes (start + 9);
      ttl = byte_at bytes (start + 8);
      tos = byte_at bytes (start + 1);
      id = be16 bytes (start + 4);
      reserved = fragmentation / 0x8000 % 2 == 1;
      dont = fragmentation / 0x4000 % 2 == 1;
      more = fragmentation / 0x2000 % 2 == 1;
      offset = fragmentation % 0x2000;
    }

-- the packet is a part of a datagram (RFC 791, section 3.2, Fragmentation)
abbrev pub is_fragment : IpHead → Bool
is_fragment ip = ip.more || nat_lt 0 ip.offset

-- the checksum over bytes that are covered with a pseudo header is right
unfoldable pub is_segment_right : IpHead → List ℕ → Bool
is_segment_right ip segment = is_all_ones (pseudo_sum ip.src ip.dst ip.protocol (length segment) + word_sum segment)

-- the fields of the TCP header at `start` (RFC 793, section 3.1)
unfoldable pub tcp_head_at : List ℕ → ℕ → TcpHead
tcp_head_at bytes start =
    record {
      sport = be16 bytes start;
      dport = be16 bytes (start + 2);
      seq = be32 bytes (start + 4);
      ack = be32 bytes (start + 8);
      flags = byte_at bytes (start + 13);
      window = be16 bytes (start + 14);
    }

-- The TCP segment from `start` to `stop`; its data offset counts units of 4 bytes, and the payload
-- follows the options.
unfoldable pub tcp_at : IpHead → List ℕ → ℕ → ℕ → Bool → Result Fields Skip
tcp_at ip bytes start stop check =
    if nat_lt stop (start + 20) then Err Malformed
    else (let header_len = byte_at bytes (start + 12) / 16 * 4 in
    if nat_lt header_len 20 || nat_lt stop (start + header_len) then Err Malformed
    else (if check && not (is_segment_right ip (slice bytes start stop)) then Err Checksum
    else Ok (record { ip = ip; body = Tcp (tcp_head_at bytes start); payload = slice bytes (start + header_len) stop })))

-- The UDP datagram that starts at `start` and ends by its own length field, at or before `stop`
-- (RFC 768). The checksum covers that length; a checksum field of 0 says that there is none.
unfoldable pub udp_at : IpHead → List ℕ → ℕ → ℕ → Bool → Result Fields Skip
udp_at ip bytes start stop check =
    if nat_lt stop (start + 8) then Err Malformed
    else (let len = be16 bytes (start + 4) in
    let has_checksum = not (be16 bytes (start + 6) == 0) in
    if nat_lt len 8 || nat_lt stop (start + len) then Err Malformed
    else (if check && has_checksum && not (is_segment_right ip (slice bytes start (start + len))) then Err Checksum
    else Ok (record {
      ip = ip;
      body = Udp (be16 bytes start) (be16 bytes (start + 2));
      payload = slice bytes (start + 8) (start + len);
    })))

-- The checksum over a control message is right: it has a pseudo header over version 6 (RFC 4443,
-- section 2.3), and none over version 4 (RFC 792).
unfoldable pub is_message_right : IpVersion → IpHead → List ℕ → Bool
is_message_right Four ip message = is_all_ones (word_sum message)
is_message_right Six ip message = is_segment_right ip message

-- The control message from `start` to `stop` (RFC 792, RFC 4443): type, code, and the identifier and
-- sequence number of an echo, which other types use otherwise.
unfoldable pub icmp_at : IpHead → List ℕ → ℕ → ℕ → Bool → Result Fields Skip
icmp_at ip bytes start stop check =
    if nat_lt stop (start + 8) then Err Malformed
    else (if check && not (is_message_right (version_of ip.src) ip (slice bytes start stop)) then Err Checksum
    else Ok (record {
      ip = ip;
      body = Icmp (byte_at bytes start) (byte_at bytes (start + 1)) (be16 bytes (start + 4)) (be16 bytes (start + 6));
      payload = slice bytes (start + 8) stop;
    }))

-- The data of a datagram from `start` to `stop`, by the protocol number (RFC 790). The source
-- address says which version's control messages are read.
unfoldable pub transport_at : IpHead → List ℕ → ℕ → ℕ → Checks → Result Fields Skip
transport_at ip bytes start stop checks =
    if ip.protocol == 6 then tcp_at ip bytes start stop checks.tcp
    else (if ip.protocol == 17 then udp_at ip bytes start stop checks.udp
    else (if ip.protocol == icmp_protocol (version_of ip.src) then icmp_at ip bytes start stop checks.icmp
    else Ok (record { ip = ip; body = Other; payload = slice bytes start stop })))

-- What the IPv4 datagram at `start` says, whose data have these bounds: the header's checksum is
-- looked at first, and a fragment has no transport header of its own.
unfoldable pub datagram_at : List ℕ → ℕ → DataBounds → Checks → Result Fields Skip
datagram_at bytes start bounds checks =
    let ip = ip_head_at bytes start in
    if checks.ip && not (is_all_ones (word_sum (slice bytes start bounds.start))) then Err Checksum
    else (if is_fragment ip then Ok (record { ip = ip; body = Fragment; payload = slice bytes bounds.start bounds.stop })
    else transport_at ip bytes bounds.start bounds.stop checks)

-- what a captured record says
unfoldable pub decoded : Link → List ℕ → Checks → Result Fields Skip
decoded link bytes checks = do
  start ← link_start Four link bytes
  bounds ← data_bounds bytes start
  datagram_at bytes start bounds checks

-- what the data of a datagram say that was put together from fragments: all of these bytes
unfoldable pub datagram_decoded : IpHead → List ℕ → Checks → Result Fields Skip
datagram_decoded ip bytes checks = transport_at ip bytes 0 (length bytes) checks
