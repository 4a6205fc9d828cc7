-- What a Unified2 record is, as bytes.
--
-- The format: Snort Users Manual 2.9, "Unified2 File Format", its parts "Serial Unified2 Header",
-- "Unified2 Packet", "Unified2 IDS Event" and "Unified2 IDS Event IP6"; the same layouts are in
-- barnyard2's unified2.h. All numbers have the most significant byte first. Own: these three kinds
-- alone are read as what they are, all others as a kind and a body; a body has at most 1,048,576
-- bytes, and the bytes of a packet are exactly what follows its numbers.
-- To try it on: the event 1 of rule 1:1:0, from 10.0.0.1 port 1000 to 10.0.0.2 port 2000 over UDP with
-- all else 0, is 00 00 00 07 00 00 00 34, nine numbers of which the second, the fifth and the sixth
-- are 00 00 00 01, 0a 00 00 01 0a 00 00 02 03 e8 07 d0 11 00 00 00: 60 bytes.
use Rattle.std.specs.Prelude.{◌≢◌, ℕ, ◌+◌, ◌^◌, ◌<◌, ◌≤◌, List, [], ◌∷◌, ◌++◌, length, ⊤}
use Rattle.std.specs.List.{All, flat_map}
use Rattle.byteorder.specs.Endian.{big_bytes}
use Rattle.edge_io.specs.declared.address.Addr.{Addr}
use Rattle.edge_io.specs.declared.address.Addr.TheVariants.{V4, V6}
use Rattle.unified2_out.specs.declared.record.U2Event.{U2Event}
use Rattle.unified2_out.specs.declared.record.U2Packet.{U2Packet}
use Rattle.unified2_out.specs.declared.record.LentPacket.{LentPacket}
use Rattle.unified2_out.specs.declared.record.U2.{U2}
use Rattle.unified2_out.specs.declared.record.U2.TheVariants.{Event, Packet, Other}

-- numbers of `width` bytes each, one after another
abbrev pub numbers : ℕ → List ℕ → List ℕ
numbers width values = flat_map (big_bytes width) values

-- an address: 4 bytes in version 4, 16 in version 6
abbrev pub address_bytes : Addr → List ℕ
address_bytes (V4 address) = big_bytes 4 address
address_bytes (V6 address) = big_bytes 16 address

-- the numbers of an event that have four bytes, two bytes, and one
abbrev pub event_words : U2Event → List ℕ
event_words event =
    event.sensor ∷ event.id ∷ event.second ∷ event.micro
    ∷ event.sid ∷ event.gid ∷ event.rev ∷ event.class ∷ event.priority ∷ []

abbrev pub event_ports : U2Event → List ℕ
event_ports event = event.sport ∷ event.dport ∷ []

abbrev pub event_octets : U2Event → List ℕ
event_octets event = event.protocol ∷ event.impact_flag ∷ event.impact ∷ event.blocked ∷ []

-- the numbers of a packet, all of four bytes, the last of which counts its bytes
abbrev pub packet_words : U2Packet → List ℕ
packet_words packet =
    packet.sensor ∷ packet.id ∷ packet.event_second ∷ packet.second
    ∷ packet.micro ∷ packet.link ∷ length packet.bytes ∷ []

-- the body of an event
unfoldable pub event_body : U2Event → List ℕ
event_body event =
    numbers 4 (event_words event) ++ address_bytes event.src ++ address_bytes event.dst
    ++ numbers 2 (event_ports event) ++ event_octets event

-- the body of a packet
unfoldable pub packet_body : U2Packet → List ℕ
packet_body packet = numbers 4 (packet_words packet) ++ packet.bytes

-- the kind of an event between such addresses
abbrev pub event_kind : Addr → ℕ
event_kind (V4 address) = 7
event_kind (V6 address) = 72

-- how many bytes its body has, as follows from `event_body`
abbrev pub event_size : Addr → ℕ
event_size (V4 address) = 52
event_size (V6 address) = 76

-- the kind and the body of a record
abbrev pub kind_of : U2 → ℕ
kind_of (Event event) = event_kind event.src
kind_of (Packet packet) = 2
kind_of (Other kind bytes) = kind

abbrev pub body_of : U2 → List ℕ
body_of (Event event) = event_body event
body_of (Packet packet) = packet_body packet
body_of (Other kind bytes) = bytes

-- a kind, the length of a body, and the body
unfoldable pub frame_text : ℕ → List ℕ → List ℕ
frame_text kind body = numbers 4 (kind ∷ length body ∷ []) ++ body

-- the bytes of a record
unfoldable pub unified2_text : U2 → List ℕ
unified2_text entry = frame_text (kind_of entry) (body_of entry)

-- the most bytes of a body
abbrev pub most_body_bytes : ℕ
most_body_bytes = 1048576

-- two addresses are of one version
abbrev pub AreOfOneVersion : Addr → Addr → Type 0
AreOfOneVersion (V4 first) (V4 second) = ⊤
AreOfOneVersion (V4 first) (V6 second) = ⊥
AreOfOneVersion (V6 first) (V4 second) = ⊥
AreOfOneVersion (V6 first) (V6 second) = ⊤

-- a kind that is no event's and no packet's
pub record IsOtherKind (kind : ℕ) : Type 0 where
  pub no_packet : kind ≢ 2
  pub no_event : kind ≢ 7
  pub no_event6 : kind ≢ 72

-- A record that is written so that it is read: an event between addresses of one version, and else a body
-- that is short enough. The numbers of a packet have 28 bytes.
abbrev pub IsWritable : U2 → Type 0
IsWritable (Event event) = AreOfOneVersion event.src event.dst
IsWritable (Packet packet) = 28 + length packet.bytes ≤ most_body_bytes
IsWritable (Other kind bytes) = IsOtherKind kind × (length bytes ≤ most_body_bytes)

-- the packet that a lent one stands for
abbrev pub packet_of : LentPacket → U2Packet
packet_of packet = record {
  sensor = packet.sensor;
  id = packet.id;
  event_second = packet.event_second;
  second = packet.second;
  micro = packet.micro;
  link = packet.link;
  bytes = packet.bytes.now;
}

-- each number fits `width` bytes
abbrev pub AllFit : ℕ → List ℕ → Type 0
AllFit width values = All (λ value. value < 256 ^ width) values

-- an address fits its bytes
abbrev pub IsInRange : Addr → Type 0
IsInRange (V4 address) = address < 256 ^ 4
IsInRange (V6 address) = address < 256 ^ 16

-- each number of an event fits its bytes
pub record FitsEvent (event : U2Event) : Type 0 where
  pub words : AllFit 4 (event_words event)
  pub src : IsInRange event.src
  pub dst : IsInRange event.dst
  pub ports : AllFit 2 (event_ports event)
  pub octets : AllFit 1 (event_octets event)

-- each number of a record fits its bytes, as those of a value of these types always do
abbrev pub NumbersFit : U2 → Type 0
NumbersFit (Event event) = FitsEvent event
NumbersFit (Packet packet) = AllFit 4 (packet_words packet) × AllFit 1 packet.bytes
NumbersFit (Other kind bytes) = (kind < 256 ^ 4) × AllFit 1 bytes
