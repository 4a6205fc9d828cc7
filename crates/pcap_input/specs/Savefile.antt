-- What a capture holds: its head, its records and how it ends.
--
-- The libpcap savefile format, version 2.4, as the manual page pcap-savefile(5) states it. A file
-- header of 24 bytes (magic number at 0, major version at 4, link type at 20) is followed by
-- records, each a header of 16 bytes (seconds at 0, their fraction at 4, captured length at 8,
-- original length at 12) and the captured bytes. All numbers are in the byte order that the
-- magic number tells. The limits of 262144 captured bytes and 4294967295 records are this project's.
-- To try it on: the 24 bytes d4c3b2a1 0200 0400 00000000 00000000 ffff0000 01000000 alone have the
-- head Ethernet, least significant byte first, microseconds, no record and a clean ending; with one
-- byte after them the ending is Truncated at 24; without the last of them the head is refused as
-- Truncated at 0.
use Rattle.std.specs.Prelude.{◌≤◌, ℕ, zero, suc, ◌+◌, ◌*◌, ◌%◌, ◌==◌, nat_lt, nat_le, Bool, true, false, if◌then◌else◌, List, length, take, drop, Option, Result, Ok, Err}
use Rattle.byteorder.specs.Endian.{big_from, little_from}
use Rattle.edge_io.specs.declared.link.Link.TheVariants.{Ethernet, RawIp, Cooked}
use Rattle.pcap_input.specs.declared.capture.CaptureHead.{CaptureHead}
use Rattle.pcap_input.specs.declared.capture.Record.{Record}
use Rattle.pcap_input.specs.declared.capture.CaptureFault.{CaptureFault}
use Rattle.pcap_input.specs.declared.capture.CaptureFault.TheVariants.{NotPcap, LinkType, Truncated, TooLong, TooMany, Failed, NoMemory}
use Rattle.pcap_input.specs.Cut.{Ending, Clean, Refused, Cut, no_more, with_first, first_records}

-- the bytes of the file header
abbrev pub file_header : ℕ
file_header = 24

-- the bytes of a record header
abbrev pub record_header : ℕ
record_header = 16

-- the most captured bytes of a record
abbrev pub longest : ℕ
longest = 262144

-- the most records of a capture
abbrev pub most_records : ℕ
most_records = 4294967295

-- a place that `number` records can reach after the file header
abbrev pub IsReachable : ℕ → ℕ → Type 0
IsReachable number place = place ≤ file_header + number * (record_header + longest)

-- the number in the `count` bytes from a place on: most significant byte first where the file is
-- swapped, least significant byte first where not
unfoldable pub number_at : Bool → ℕ → ℕ → List ℕ → ℕ
number_at swapped place count bytes =
    if swapped then big_from place count bytes else little_from place count bytes

-- the head with this link type, where it is one of the three
unfoldable pub head_with : Bool → Bool → ℕ → Result CaptureHead CaptureFault
head_with swapped nanos link_type =
    if link_type == 1 then Ok (record { link = Ethernet; swapped = swapped; nanos = nanos }) else
    if link_type == 101 then Ok (record { link = RawIp; swapped = swapped; nanos = nanos }) else
    if link_type == 113 then Ok (record { link = Cooked; swapped = swapped; nanos = nanos }) else
    Err (LinkType link_type)

-- the head of a file header after its magic number: the major version is 2, and the low 16 bits of
-- the last field are the link type
unfoldable pub head_after : Bool → Bool → List ℕ → Result CaptureHead CaptureFault
head_after swapped nanos bytes =
    if number_at swapped 4 2 bytes == 2
    then head_with swapped nanos (number_at swapped 20 4 bytes % 65536)
    else Err NotPcap

-- the head of a file, or why it has none: the magic number is a1b2c3d4 where the fractions are
-- microseconds and a1b23c4d where they are nanoseconds, and tells the byte order
unfoldable pub head_of : List ℕ → Result CaptureHead CaptureFault
head_of bytes =
    if nat_lt (length bytes) file_header then Err (Truncated 0) else
    if number_at false 0 4 bytes == 0xa1b2_c3d4 then head_after false false bytes else
    if number_at false 0 4 bytes == 0xa1b2_3c4d then head_after false true bytes else
    if number_at true 0 4 bytes == 0xa1b2_c3d4 then head_after true false bytes else
    if number_at true 0 4 bytes == 0xa1b2_3c4d then head_after true true bytes else
    Err NotPcap

-- how many bytes a record header says were captured
unfoldable pub captured_length : CaptureHead → List ℕ → ℕ
captured_length head header = number_at head.swapped 8 4 header

-- a record header's moment in nanoseconds: its seconds, and their fraction, which may pass a second
unfoldable pub moment_of : CaptureHead → List ℕ → ℕ
moment_of head header =
    number_at head.swapped 0 4 header * 1000000000
    + number_at head.swapped 4 4 header * (if head.nanos then 1 else 1000)

-- the record of this header and these captured bytes
unfoldable pub record_of : CaptureHead → ℕ → List ℕ → List ℕ → Record
record_of head number header bytes = record {
  number = number;
  moment = record { nanos = moment_of head header };
  original = number_at head.swapped 12 4 header;
  bytes = bytes;
}

-- what is at a place: the ending, or a record and the bytes after it
pub data Next : Type 0 where
  Ends : Ending CaptureFault → Next
  Follows : Record → List ℕ → Next

-- what comes where these bytes of a record header are at `place`, before these bytes
unfoldable pub next_after : CaptureHead → ℕ → ℕ → List ℕ → List ℕ → Next
next_after head number place header bytes =
    if nat_lt longest (captured_length head header) then Ends (Refused (TooLong place (captured_length head header))) else
    if nat_lt (length bytes) (captured_length head header) then Ends (Refused (Truncated place)) else
    Follows (record_of head number header (take (captured_length head header) bytes)) (drop (captured_length head header) bytes)

-- what comes after `number` records, at `place`, where these bytes are left
unfoldable pub next_of : CaptureHead → ℕ → ℕ → List ℕ → Next
next_of head number place rest =
    if length rest == 0 then Ends Clean else
    if nat_le most_records number then Ends (Refused TooMany) else
    if nat_lt (length rest) record_header then Ends (Refused (Truncated place)) else
    next_after head number place (take record_header rest) (drop record_header rest)

-- the place after a record that begins at this place
abbrev pub place_after : ℕ → Record → ℕ
place_after place record_here = place + record_header + length record_here.bytes

-- at most `most` records, one after the other, and then the ending
unfoldable pub cut_up : ℕ → CaptureHead → ℕ → ℕ → List ℕ → Cut Record CaptureFault
cut_up zero head number place rest = no_more Clean
cut_up (suc most) head number place rest =
    elim (next_of head number place rest) [
      | Ends ending ↦ no_more ending
      | Follows first more ↦ with_first first (cut_up most head (number + 1) (place_after place first) more)
    ]

-- the records and the ending of these bytes, which come after `number` records at `place`: there
-- are fewer records than bytes, so all of them
unfoldable pub records_left : CaptureHead → ℕ → ℕ → List ℕ → Cut Record CaptureFault
records_left head number place rest = cut_up (length rest + 1) head number place rest

-- a whole capture
pub record Capture : Type 0 where
  pub head : CaptureHead
  pub cut : Cut Record CaptureFault

-- the capture that these bytes are, up to the limit where there is one, or why its head is refused
unfoldable pub savefile : List ℕ → Option ℕ → Result Capture CaptureFault
savefile bytes limit =
    elim (head_of bytes) [
      | Ok head ↦ Ok (record {
        head = head;
        cut = first_records limit
            (records_left head 0 file_header (drop file_header bytes));
      })
      | Err fault ↦ Err fault
    ]
