-- What names a flow: its community ID, and a number.
--
-- Community ID, version 1 (github.com/corelight/community-id-spec): SHA-1 over a seed of two bytes, the
-- two addresses, the protocol, a zero, and the two ports, the smaller end first, by its address and then
-- by its port; so both directions of a flow have the same. ICMP has a message's type in the place of one
-- port, and in that of the other the type of the message that answers it, or that it answers; a type
-- without such a partner has its code there, and is told one way only. Protocols without ports have
-- none in what is hashed. The ID is `1:` and the hash in base64.
-- Own: an ID is told only where all that it is made of is known, so not of a fragment of TCP or UDP, and not
-- of SCTP, whose ports aren't read. The number of a flow is the first 48 bits of such a hash with the seed 0,
-- which for ICMP has no message in it; 48 bits are exact also where numbers are floating.
-- To try it on: between 10.0.0.1:1000 and 10.0.0.2:2000 over UDP with the seed 0, 00 00 0a 00 00 01 0a 00 00 02
-- 11 00 03 e8 07 d0 is hashed, in either direction.
use Rattle.std.specs.Prelude.{ℕ, ◌&&◌, ◌||◌, ◌==◌, Bool, nat_lt, nat_le, if◌then◌else◌, List, [], ◌∷◌, ◌++◌, Option, None, Some, option_map, take, codes}
use Rattle.std.specs.Int.{w16, w32, w64, w128, to_be_bytes, from_be_bytes}
use Rattle.sha1.specs.Sha1.{sha1}
use Rattle.base64.specs.GeneralPurpose.{encode_of}
use Rattle.base64.specs.Engines.{standard}
use Rattle.edge_io.specs.declared.address.Addr.{Addr}
use Rattle.edge_io.specs.declared.address.Addr.TheVariants.{V4, V6}
use Rattle.alert_json.specs.declared.event.FiveTuple.{FiveTuple}
use Rattle.alert_json.specs.declared.event.Pair.{Pair}
use Rattle.alert_json.specs.declared.event.Pair.TheVariants.{Unknown, Ports, Message}
use Rattle.alert_json.specs.declared.flow_ids.Ends.{Ends}

-- an address as a number, and as bytes
abbrev pub address_number : Addr → ℕ
address_number (V4 address) = address
address_number (V6 address) = address

abbrev pub address_bytes : Addr → List ℕ
address_bytes (V4 address) = to_be_bytes w32 address
address_bytes (V6 address) = to_be_bytes w128 address

-- the first end isn't the larger one: by address, then by port
unfoldable pub is_in_order : Ends → Bool
is_in_order ends =
    nat_lt (address_number ends.first) (address_number ends.second)
    || ((address_number ends.first == address_number ends.second) && nat_le ends.here ends.there)

-- the ends of a flow, the other one first
unfoldable pub turned : Ends → Ends
turned ends = record { first = ends.second; second = ends.first; here = ends.there; there = ends.here }

-- the smaller end first
unfoldable pub in_order : Ends → Ends
in_order ends = if is_in_order ends then ends else turned ends

-- what is hashed of every flow
unfoldable pub addresses_text : ℕ → ℕ → Ends → List ℕ
addresses_text seed protocol ends =
    to_be_bytes w16 seed ++ address_bytes ends.first ++ address_bytes ends.second ++ (protocol ∷ 0 ∷ [])

-- the hash of a flow without ports, and of one with ports or what takes their place
unfoldable pub plain_hash : ℕ → ℕ → Ends → List ℕ
plain_hash seed protocol ends = sha1 (addresses_text seed protocol ends)

unfoldable pub port_hash : ℕ → ℕ → Ends → List ℕ
port_hash seed protocol ends =
    sha1 (addresses_text seed protocol ends ++ to_be_bytes w16 ends.here ++ to_be_bytes w16 ends.there)

-- the type of the ICMP message that answers one of this type, or that it answers: echo, router, time,
-- information and mask (RFC 792, 1256, 950)
unfoldable pub partner4 : ℕ → Option ℕ
partner4 kind =
    if kind == 8 then Some 0 else (if kind == 0 then Some 8
    else (if kind == 13 then Some 14 else (if kind == 14 then Some 13
    else (if kind == 15 then Some 16 else (if kind == 16 then Some 15
    else (if kind == 17 then Some 18 else (if kind == 18 then Some 17
    else (if kind == 10 then Some 9 else (if kind == 9 then Some 10 else None)))))))))

-- the type of the ICMPv6 message that answers one of this type, or that it answers: echo, router, neighbour, listener,
-- node information, home agent (RFC 4443, 4861, 2710, 4620, 6275)
unfoldable pub partner6 : ℕ → Option ℕ
partner6 kind =
    if kind == 128 then Some 129 else (if kind == 129 then Some 128
    else (if kind == 133 then Some 134 else (if kind == 134 then Some 133
    else (if kind == 135 then Some 136 else (if kind == 136 then Some 135
    else (if kind == 130 then Some 131 else (if kind == 131 then Some 130
    else (if kind == 139 then Some 140 else (if kind == 140 then Some 139
    else (if kind == 144 then Some 145 else (if kind == 145 then Some 144 else None)))))))))))

-- the type that answers one of this type, or that it answers, by the protocol: 1 is ICMP, 58 ICMPv6
unfoldable pub partner : ℕ → ℕ → Option ℕ
partner protocol kind = if protocol == 1 then partner4 kind else (if protocol == 58 then partner6 kind else None)

-- both addresses of a flow, with these numbers in the place of ports
abbrev pub ends_of : FiveTuple → ℕ → ℕ → Ends
ends_of flow here there = record { first = flow.src; second = flow.dst; here = here; there = there }

-- the ends of a message: with its partner in order, without one as they are
unfoldable pub message_ends : FiveTuple → ℕ → ℕ → Option ℕ → Ends
message_ends flow kind code (Some other) = in_order (ends_of flow kind other)
message_ends flow kind code None = ends_of flow kind code

-- a protocol whose flows aren't told apart by addresses alone: TCP, UDP, and so for an ID ICMP, ICMPv6, SCTP
unfoldable pub has_ports : ℕ → Bool
has_ports protocol = (protocol == 6) || (protocol == 17)

unfoldable pub wants_pair : ℕ → Bool
wants_pair protocol = has_ports protocol || ((protocol == 1) || ((protocol == 58) || (protocol == 132)))

-- the hash in a flow's community ID, where it has one
unfoldable pub community_hash : ℕ → FiveTuple → Pair → Option (List ℕ)
community_hash seed flow (Ports sport dport) = Some (port_hash seed flow.protocol (in_order (ends_of flow sport dport)))
community_hash seed flow (Message kind code) =
    Some (port_hash seed flow.protocol (message_ends flow kind code (partner flow.protocol kind)))
community_hash seed flow Unknown =
    if wants_pair flow.protocol then None else Some (plain_hash seed flow.protocol (in_order (ends_of flow 0 0)))

-- the hash in a flow's number, where it has one
unfoldable pub number_hash : FiveTuple → Pair → Option (List ℕ)
number_hash flow (Ports sport dport) = Some (port_hash 0 flow.protocol (in_order (ends_of flow sport dport)))
number_hash flow (Message kind code) = Some (plain_hash 0 flow.protocol (in_order (ends_of flow 0 0)))
number_hash flow Unknown =
    if has_ports flow.protocol then None else Some (plain_hash 0 flow.protocol (in_order (ends_of flow 0 0)))

-- the community ID that such a hash makes
unfoldable pub community_text : List ℕ → List ℕ
community_text hash = codes "1:" ++ encode_of standard hash

-- the number that the first 48 bits of a hash are
unfoldable pub first_bits : List ℕ → ℕ
first_bits hash = from_be_bytes w64 (0 ∷ 0 ∷ take 6 hash)

-- a flow's community ID
abbrev pub community_id : ℕ → FiveTuple → Option (List ℕ)
community_id seed flow = option_map community_text (community_hash seed flow flow.pair)

-- a flow's number
abbrev pub flow_number : FiveTuple → Option ℕ
flow_number flow = option_map first_bits (number_hash flow flow.pair)
