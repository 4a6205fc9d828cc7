-- What a captured record with an IPv6 packet says, by the places of its bytes, or why it is
-- skipped.
--
-- The steps go in this order, and the first one that fails decides: link header, tags and type; the
-- header's length, version and payload length; the extension headers from the front on; the
-- transport header and its checksum. No byte is named before a test that it is captured.
-- The standards: RFC 8200 for the headers, and section 8.1 for the pseudo header of checksums, RFC
-- 2464 for the type field, RFC 9293 section 3.1 for TCP, RFC 768 for UDP, RFC 4443 section 2.1 for
-- ICMPv6.
-- To try it on: 02 00 00 00 00 02 02 00 00 00 00 01 86 dd, 60 00 00 00 00 0b 11 40, 20 01 0d b8 and
-- 12 bytes that end in 01, the same with 02, 03 e8 07 d0 00 0b 00 00, 61 62 63 over Ethernet is a
-- UDP packet from 2001:db8::1 port 1000 to 2001:db8::2 port 2000, whose payload is the last three
-- bytes.
use Rattle.std.specs.Prelude.{ℕ, ◌+◌, List, length, false, Result, Ok, Err, if◌then◌else◌}
use Rattle.edge_io.specs.Bytes.{slice}
use Rattle.edge_io.specs.OnResult.{◌>>=◌}
use Rattle.edge_io.specs.declared.link.Link.{Link}
use Rattle.packet_decode.specs.declared.checks.Checks.{Checks}
use Rattle.packet_decode.specs.declared.skip.Skip.{Skip}
use Rattle.packet_decode.specs.declared.skip.Skip.TheVariants.{Malformed}
use Rattle.packet_decode.specs.declared.version.IpVersion.TheVariants.{Six}
use Rattle.packet_decode.specs.declared.packet.IpHead.{IpHead}
use Rattle.packet_decode.specs.declared.packet.Body.TheVariants.{Fragment}
use Rattle.packet_decode.specs.Decoding.{Fields, link_start, transport_at}
use Rattle.ipv6_decode.specs.declared.walk.HeaderWalk.{HeaderWalk}
use Rattle.ipv6_decode.specs.Headers.{packet_stop, head_at, most_headers, walk_end}

-- what is at the end of a walk and is no part of a datagram: the transport header and its data,
-- up to the end of the packet
abbrev pub upper_at : HeaderWalk → List ℕ → Checks → Result Fields Skip
upper_at walk packet checks = transport_at walk.head packet walk.place (length packet) checks

-- where the walk over the extension headers of the packet at `start` begins
unfoldable pub walk_start : List ℕ → ℕ → HeaderWalk
walk_start packet start = record { head = head_at packet start; place = start + 40; is_part = false }

-- What a packet says, with which the bytes end, and whose walk ended so. A part of a datagram has
-- no transport header of its own: all bytes after the fragment header are the part.
unfoldable pub packet_after : HeaderWalk → List ℕ → Checks → Result Fields Skip
packet_after walk packet checks =
    if walk.is_part
    then Ok (record { ip = walk.head; body = Fragment; payload = slice packet walk.place (length packet) })
    else upper_at walk packet checks

-- what the packet at `start` says, with which the bytes end
unfoldable pub packet_at : List ℕ → ℕ → Checks → Result Fields Skip
packet_at packet start checks =
    walk_end most_headers (walk_start packet start) packet >>= (λ walk. packet_after walk packet checks)

-- what a captured record says: bytes after the payload are no part of the packet
unfoldable pub decoded6 : Link → List ℕ → Checks → Result Fields Skip
decoded6 link bytes checks = do
  start ← link_start Six link bytes
  stop ← packet_stop bytes start
  packet_at (slice bytes 0 stop) start checks

-- What a datagram says that was put together from fragments: extension headers, the first one that
-- of the head's protocol, and the transport header. Such a datagram is no fragment again.
unfoldable pub datagram_decoded6 : IpHead → List ℕ → Checks → Result Fields Skip
datagram_decoded6 ip bytes checks = do
  walk ← walk_end most_headers (record { head = ip; place = 0; is_part = false }) bytes
  if walk.is_part then Err Malformed else upper_at walk bytes checks
