-- The header of an IPv6 packet and its extension headers, by the places of their bytes.
--
-- The standard: RFC 8200, section 3 for the header, section 4 for the extension headers: 4.3
-- hop-by-hop options, 4.4 routing, 4.5 fragment, 4.6 destination options.
-- To try it on: 60 00 00 00 00 10 2c 40, two addresses of 16 bytes, 11 00 00 01 00 00 00 07 and
-- eight bytes more is a packet of 56 bytes whose one extension header, of next header 44, says that
-- a part of the UDP datagram 7 begins at place 48: its start, and more is to come.
use Rattle.std.specs.Prelude.{ℕ, zero, suc, ◌+◌, ◌*◌, ◌/◌, ◌%◌, List, length, Bool, false, not, ◌&&◌, ◌||◌, Result, Ok, Err, nat_lt, ◌==◌, if◌then◌else◌}
use Rattle.byteorder.specs.Endian.{big_from}
use Rattle.edge_io.specs.Bytes.{byte_at, be16, be32}
use Rattle.edge_io.specs.OnResult.{◌>>=◌}
use Rattle.edge_io.specs.declared.address.Addr.TheVariants.{V6}
use Rattle.packet_decode.specs.declared.skip.Skip.{Skip}
use Rattle.packet_decode.specs.declared.skip.Skip.TheVariants.{Short, Malformed}
use Rattle.packet_decode.specs.declared.packet.IpHead.{IpHead}
use Rattle.packet_decode.specs.Decoding.{is_fragment}
use Rattle.ipv6_decode.specs.declared.walk.HeaderWalk.{HeaderWalk}

-- the number in the sixteen bytes from a place
unfoldable pub be128 : List ℕ → ℕ → ℕ
be128 bytes place = big_from place 16 bytes

-- Where the packet at `start` stops: after the header, which has 40 bytes, and the payload, whose
-- length is at 4 (RFC 8200, section 3).
unfoldable pub packet_stop : List ℕ → ℕ → Result ℕ Skip
packet_stop bytes start =
    if nat_lt (length bytes) (start + 40) then Err Short
    else (if not (byte_at bytes start / 16 == 6) then Err Malformed
    else (let stop = start + 40 + be16 bytes (start + 4) in
    if nat_lt (length bytes) stop then Err Short else Ok stop))

-- The fields of the header at `start` (RFC 8200, section 3). The first word has 4 bits of version,
-- 8 of traffic class, and the flow label. Without a fragment header a packet is no part of a
-- datagram.
unfoldable pub head_at : List ℕ → ℕ → IpHead
head_at bytes start =
    record {
      src = V6 (be128 bytes (start + 8));
      dst = V6 (be128 bytes (start + 24));
      protocol = byte_at bytes (start + 6);
      ttl = byte_at bytes (start + 7);
      tos = be16 bytes start / 16 % 256;
      id = 0;
      reserved = false;
      dont = false;
      more = false;
      offset = 0;
    }

-- the next headers of extension headers that tell their length in a field of their own: hop-by-hop
-- options, routing, destination options
abbrev pub has_length_field : ℕ → Bool
has_length_field next = next == 0 || next == 43 || next == 60

-- an extension header is at the place: one of those, or a fragment header
abbrev pub is_at_header : HeaderWalk → Bool
is_at_header walk = not walk.is_part && (has_length_field walk.head.protocol || walk.head.protocol == 44)

-- The walk after a header with a length field: its first byte is the next header, and its second one counts
-- the units of 8 bytes after the first 8 (RFC 8200, sections 4.3, 4.4 and 4.6).
unfoldable pub after_length_field : HeaderWalk → List ℕ → Result HeaderWalk Skip
after_length_field walk bytes =
    if nat_lt (length bytes) (walk.place + 2) then Err Malformed
    else (let end = walk.place + 8 + 8 * byte_at bytes (walk.place + 1) in
    if nat_lt (length bytes) end then Err Malformed
    else (let head = record walk.head { protocol = byte_at bytes walk.place } in
    Ok (record { head = head; place = end; is_part = walk.is_part })))

-- The head with what the fragment header at a place says: its first byte is the next header, the
-- word at 2 has 13 bits of offset, 2 reserved bits and the bit for more fragments, and the
-- identification is at 4 (RFC 8200, section 4.5).
unfoldable pub fragment_head : IpHead → List ℕ → ℕ → IpHead
fragment_head head bytes place =
    record head {
      protocol = byte_at bytes place;
      id = be32 bytes (place + 4);
      more = be16 bytes (place + 2) % 2 == 1;
      offset = be16 bytes (place + 2) / 8;
    }

-- The walk after a fragment header, which has 8 bytes: a part of a datagram, unless it begins at 0 with no
-- more to come (RFC 6946, section 2).
unfoldable pub after_fragment_header : HeaderWalk → List ℕ → Result HeaderWalk Skip
after_fragment_header walk bytes =
    if nat_lt (length bytes) (walk.place + 8) then Err Malformed
    else (let head = fragment_head walk.head bytes walk.place in
    Ok (record { head = head; place = walk.place + 8; is_part = is_fragment head }))

-- the walk after the extension header at the place
unfoldable pub after_header : HeaderWalk → List ℕ → Result HeaderWalk Skip
after_header walk bytes =
    if walk.head.protocol == 44 then after_fragment_header walk bytes else after_length_field walk bytes

-- how many extension headers are walked
abbrev pub most_headers : ℕ
most_headers = 8

-- Where the walk ends that goes over at most `left` extension headers: at a part of a datagram, or
-- at what is no extension header. A header more than that is one too many. The laws
-- `walk_end-chain` and `walk_end-long_chain` of proofs/Chains say what that is for whole chains as
-- a sender writes them.
unfoldable pub walk_end : ℕ → HeaderWalk → List ℕ → Result HeaderWalk Skip
walk_end zero walk bytes = if is_at_header walk then Err Malformed else Ok walk
walk_end (suc left) walk bytes =
    if is_at_header walk then (after_header walk bytes >>= (λ next. walk_end left next bytes)) else Ok walk
