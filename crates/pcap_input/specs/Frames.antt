-- The bytes of the frames that a made capture holds.
--
-- Ethernet II, type 0800; IPv4 without options (RFC 791, section 3.1); TCP without options (RFC 9293,
-- section 3.1) and UDP without a checksum (RFC 768); checksums by RFC 1071, section 1. The addresses
-- are those of 10.0.0.0/8 (RFC 1918).
-- To try it on: the header of an IPv4 packet of 31 bytes for UDP from 10.0.0.1 to 10.0.0.2 with the
-- identification 1 and time to live 64 has the checksum 66cb.
use Rattle.std.specs.Prelude.{ℕ, ◌+◌, ◌-◌, ◌*◌, ◌%◌, List, [], ◌∷◌, ◌++◌, length}
use Rattle.byteorder.specs.Endian.{big_bytes}
use Rattle.edge_io.specs.Bytes.{word_sum}
use Rattle.pcap_input.specs.declared.frames.Endpoint.{Endpoint}
use Rattle.pcap_input.specs.declared.frames.Segment.{Segment}

-- The checksum of words with this plain sum: the complement of their one's complement sum, which is
-- the plain sum modulo 65535, where a multiple of 65535 that is not 0 is written ffff.
abbrev pub checksum : ℕ → ℕ
checksum sum = 65534 - (sum - 1) % 65535

-- the Ethernet header: destination, source and type
abbrev pub ethernet_header : List ℕ
ethernet_header = 2 ∷ 0 ∷ 0 ∷ 0 ∷ 0 ∷ 2 ∷ 2 ∷ 0 ∷ 0 ∷ 0 ∷ 0 ∷ 1 ∷ 8 ∷ 0 ∷ []

-- the address 10.net.0.host
abbrev pub address : Endpoint → List ℕ
address endpoint = 10 ∷ endpoint.net ∷ 0 ∷ endpoint.host ∷ []

-- The IPv4 header in front of `size` bytes: version 4 and five words, the whole length, identification
-- 1, no fragment, time to live 64, the protocol, the checksum, and the addresses.
unfoldable pub ip_fields : Endpoint → Endpoint → ℕ → ℕ → ℕ → List ℕ
ip_fields source destination protocol size check =
    69 ∷ 0 ∷ big_bytes 2 (20 + size) ++ 0 ∷ 1 ∷ 0 ∷ 0 ∷ 64 ∷ protocol ∷ big_bytes 2 check
    ++ address source ++ address destination

-- the IPv4 header in front of `size` bytes, with the checksum that is right
unfoldable pub ip_header : Endpoint → Endpoint → ℕ → ℕ → List ℕ
ip_header source destination protocol size =
    ip_fields source destination protocol size (checksum (word_sum (ip_fields source destination protocol size 0)))

-- the pseudo header of a segment of `size` bytes: the addresses, a zero byte, the protocol, the size
unfoldable pub pseudo_header : Endpoint → Endpoint → ℕ → ℕ → List ℕ
pseudo_header source destination protocol size =
    address source ++ address destination ++ 0 ∷ protocol ∷ big_bytes 2 size

-- The TCP header: ports, sequence and acknowledgement number, five words, the flags, the window 65535,
-- the checksum, no urgent data.
unfoldable pub tcp_fields : Segment → ℕ → List ℕ
tcp_fields segment check =
    big_bytes 2 segment.source.port ++ big_bytes 2 segment.destination.port
    ++ big_bytes 4 segment.seq ++ big_bytes 4 segment.ack
    ++ 80 ∷ segment.flags ∷ 255 ∷ 255 ∷ big_bytes 2 check ++ 0 ∷ 0 ∷ []

-- the plain sum of a segment's words and those of its pseudo header, while its checksum is 0
unfoldable pub tcp_sum : Segment → List ℕ → ℕ
tcp_sum segment payload =
    word_sum (pseudo_header segment.source segment.destination 6 (20 + length payload))
    + word_sum (tcp_fields segment 0) + word_sum payload

-- the TCP header with the checksum that is right
unfoldable pub tcp_header : Segment → List ℕ → List ℕ
tcp_header segment payload = tcp_fields segment (checksum (tcp_sum segment payload))

-- the UDP header in front of `size` bytes: ports, length, no checksum
unfoldable pub udp_header : Endpoint → Endpoint → ℕ → List ℕ
udp_header source destination size =
    big_bytes 2 source.port ++ big_bytes 2 destination.port ++ big_bytes 2 (8 + size) ++ 0 ∷ 0 ∷ []

-- the frame with this header of the protocol and this payload
unfoldable pub frame : Endpoint → Endpoint → ℕ → List ℕ → List ℕ → List ℕ
frame source destination protocol header payload =
    ethernet_header ++ ip_header source destination protocol (length header + length payload) ++ header ++ payload

-- the frame of a TCP segment
unfoldable pub tcp_frame : Segment → List ℕ → List ℕ
tcp_frame segment payload = frame segment.source segment.destination 6 (tcp_header segment payload) payload

-- the frame of a UDP datagram
unfoldable pub udp_frame : Endpoint → Endpoint → List ℕ → List ℕ
udp_frame source destination payload = frame source destination 17 (udp_header source destination (length payload)) payload
