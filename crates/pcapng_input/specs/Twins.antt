-- One capture, written as a savefile and as a pcapng file.
--
-- How these formats hold packets: a libpcap savefile (pcap-savefile(5)) and one section of a pcapng file
-- (draft-ietf-opsawg-pcapng, sections 4.1 to 4.3) with one interface, whose if_tsresol tells the unit, and an
-- enhanced packet for each. Nothing here is used but in the law that both are read as the same records.
-- To try it on: a packet of the one byte 41, of 60 on the wire, at 1000001 microseconds, is in a savefile with the
-- least significant byte first 01000000 01000000 01000000 3c000000 41, and in a pcapng file 06000000 24000000
-- 00000000 00000000 41420f00 01000000 3c000000 41000000 24000000.
use Rattle.std.specs.Prelude.{◌≡◌, ◌≤◌, ◌<◌, ℕ, ◌+◌, ◌-◌, ◌*◌, ◌/◌, ◌%◌, ◌^◌, Bool, if◌then◌else◌, List, [], ◌∷◌, ◌++◌, length, map, replicate, None, Result, Ok, Err}
use Rattle.std.specs.List.{flat_map}
use Rattle.byteorder.specs.Endian.{big_bytes, little_bytes}
use Rattle.edge_io.specs.declared.link.Link.{Link}
use Rattle.edge_io.specs.declared.link.Link.TheVariants.{Ethernet, RawIp, Cooked}
use Rattle.pcap_input.specs.declared.capture.CaptureFault.{CaptureFault}
use Rattle.pcap_input.specs.declared.capture.Record.{Record}
use Rattle.pcap_input.specs.Cut.{Clean, Cut, clean_with}
use Rattle.pcap_input.specs.Savefile as pcap
use Rattle.pcapng_input.specs.declared.capture.NgFault.{NgFault}
use Rattle.pcapng_input.specs.declared.capture.NgRecord.{NgRecord}
use Rattle.pcapng_input.specs.Blocks as ng

-- a packet: its time in the capture's unit since 1970, how long it was on the wire, and what was captured of it
pub record Caught : Type 0 where
  pub time : ℕ
  pub original : ℕ
  pub bytes : List ℕ

-- how many of the unit are a second, and how many nanoseconds one is: nanoseconds or microseconds
abbrev pub a_second : Bool → ℕ
a_second nanos = if nanos then 1000000000 else 1000000

abbrev pub nanos_each : Bool → ℕ
nanos_each nanos = if nanos then 1 else 1000

-- both formats can hold it: its second has four bytes, and so has its length; what was captured is no more than
-- a record may have
pub record IsWritable (nanos : Bool) (packet : Caught) : Type 0 where
  pub second : packet.time / a_second nanos < 2 ^ 32
  pub length_on_wire : packet.original < 2 ^ 32
  pub short : length packet.bytes ≤ pcap.longest

-- a number of `size` bytes, the most significant first or last
unfoldable pub word : Bool → ℕ → ℕ → List ℕ
word swapped size number = if swapped then big_bytes size number else little_bytes size number

abbrev pub number_of : Link → ℕ
number_of Ethernet = 1
number_of RawIp = 101
number_of Cooked = 113

-- ---- the savefile

-- seconds and fraction, captured and original length, and the bytes
unfoldable pub pcap_record : Bool → Bool → Caught → List ℕ
pcap_record swapped nanos packet =
    word swapped 4 (packet.time / a_second nanos) ++ word swapped 4 (packet.time % a_second nanos)
    ++ word swapped 4 (length packet.bytes) ++ word swapped 4 packet.original ++ packet.bytes

-- the magic number, version 2.4, two unused fields, the most captured bytes and the link type; then the packets
unfoldable pub pcap_text : Bool → Bool → Link → List Caught → List ℕ
pcap_text swapped nanos link packets =
    (word swapped 4 (if nanos then 0xa1b2_3c4d else 0xa1b2_c3d4) ++ word swapped 2 2 ++ word swapped 2 4
    ++ word swapped 4 0 ++ word swapped 4 0 ++ word swapped 4 pcap.longest ++ word swapped 4 (number_of link))
    ++ flat_map (pcap_record swapped nanos) packets

-- ---- the pcapng file

-- a block: its type, its total length, its body, its total length
unfoldable pub block_text : Bool → ℕ → List ℕ → List ℕ
block_text swapped kind body =
    word swapped 4 kind ++ word swapped 4 (12 + length body) ++ body ++ word swapped 4 (12 + length body)

-- the magic of the byte order, version 1.0, and a section of no told length
abbrev pub section_body : Bool → List ℕ
section_body swapped = word swapped 4 0x1a2b_3c4d ++ word swapped 2 1 ++ word swapped 2 0 ++ replicate 8 255

-- the link type, an unused field, the most captured bytes; if_tsresol, of one byte, filled up; the end of options
abbrev pub interface_body : Bool → Bool → Link → List ℕ
interface_body swapped nanos link =
    (word swapped 2 (number_of link) ++ word swapped 2 0 ++ word swapped 4 pcap.longest)
    ++ (word swapped 2 9 ++ word swapped 2 1 ++ (if nanos then 9 else 6) ∷ 0 ∷ 0 ∷ 0 ∷ word swapped 4 0)

-- the interface, the upper and the lower half of the time, captured and original length; the bytes, filled up to fours
abbrev pub packet_body : Bool → Caught → List ℕ
packet_body swapped packet =
    (word swapped 4 0 ++ word swapped 4 (packet.time / 2 ^ 32) ++ word swapped 4 (packet.time % 2 ^ 32)
    ++ word swapped 4 (length packet.bytes) ++ word swapped 4 packet.original)
    ++ (packet.bytes ++ replicate ((4 - length packet.bytes % 4) % 4) 0)

-- a section header, an interface description, and an enhanced packet for each
unfoldable pub ng_text : Bool → Bool → Link → List Caught → List ℕ
ng_text swapped nanos link packets =
    block_text swapped ng.section_type (section_body swapped)
    ++ (block_text swapped 1 (interface_body swapped nanos link)
    ++ flat_map (λ packet. block_text swapped 6 (packet_body swapped packet)) packets)

-- ---- what the two files hold

-- a packet as a record of this number, and the records of these packets, numbered from here on
abbrev pub held_as : ℕ → Bool → Caught → Record
held_as number nanos packet = record {
  number = number;
  moment = record { nanos = packet.time * nanos_each nanos };
  original = packet.original;
  bytes = packet.bytes;
}

unfoldable pub held_from : ℕ → Bool → List Caught → List Record
held_from number nanos [] = []
held_from number nanos (packet ∷ packets) = held_as number nanos packet ∷ held_from (number + 1) nanos packets

abbrev pub on_link : Link → Record → NgRecord
on_link link item = record { link = link; item = item }

-- each of the two files is read as exactly the packets that were written, and ends cleanly
abbrev pub IsSavefileOf : Bool → Bool → Link → List Caught → Type 0
IsSavefileOf swapped nanos link packets = pcap.savefile (pcap_text swapped nanos link packets) None ≡ Ok (record {
  head = record { link = link; swapped = swapped; nanos = nanos };
  cut = clean_with (held_from 0 nanos packets);
})

abbrev pub IsPcapngOf : Bool → Bool → Link → List Caught → Type 0
IsPcapngOf swapped nanos link packets =
    ng.ng_records (ng_text swapped nanos link packets) None ≡ Ok (clean_with (map (on_link link) (held_from 0 nanos packets)))

-- a savefile and a pcapng file were read as the same records, of the savefile's link, and both to a clean ending
abbrev pub AreTwins : Result pcap.Capture CaptureFault → Result (Cut NgRecord NgFault) NgFault → Type 0
AreTwins (Ok capture) (Ok cut) =
    (cut.records ≡ map (on_link capture.head.link) capture.cut.records)
    × (capture.cut.ending ≡ Clean) × (cut.ending ≡ Clean)
AreTwins (Err fault) cut = ⊥
AreTwins (Ok capture) (Err fault) = ⊥
