-- What a pcapng capture holds: its records and how it ends.
--
-- The pcapng format (draft-ietf-opsawg-pcapng) as this project reads it. Blocks follow one another,
-- each its type and its total length in four bytes each, its body, and the total length again (section
-- 3.1). A section header (4.1) tells the byte order of its section and begins a new list of interfaces; an
-- interface description (4.2) adds one to it; an enhanced packet (4.3) and a simple packet (4.4) are
-- records. All other blocks are skipped, and so are all options but an interface's resolution (`Options`);
-- if_tsoffset is one of them. Places of fields are counted from after the type and the total length,
-- those of a section header from after its byte-order magic too: the format's figures count 8, or 12, more.
-- The order in which refusals are found, and the limits (262144 captured bytes, 4096 interfaces, 1048576
-- bytes of a section header or an interface, 4294967295 records, 2 ^ 62 bytes), are this project's own.
-- To try it on: the section header 0a0d0d0a 1c000000 4d3c2b1a 01000000 ffffffff ffffffff 1c000000 alone
-- holds no record and ends cleanly; without its last byte it is truncated at 0, and with 1d in place of its
-- last 1c the block at 0 is bad.
use Rattle.std.specs.Prelude.{ℕ, zero, suc, ◌+◌, ◌-◌, ◌*◌, ◌%◌, ◌^◌, ◌==◌, ◌&&◌, ◌||◌, not, nat_lt, nat_le, min, Bool, true, false, if◌then◌else◌, List, [], ◌∷◌, ◌++◌, length, take, drop, slice_get, Option, Some, None, Result, Ok, Err}
use Rattle.edge_io.specs.declared.link.Link.{Link}
use Rattle.edge_io.specs.declared.link.Link.TheVariants.{Ethernet, RawIp, Cooked}
use Rattle.edge_io.specs.declared.moment.Moment.{Moment}
use Rattle.pcap_input.specs.Cut.{Ending, Clean, Refused, Cut, no_more, with_first, first_records}
use Rattle.pcap_input.specs.Savefile.{longest, most_records, number_at}
use Rattle.pcapng_input.specs.declared.capture.NgRecord.{NgRecord}
use Rattle.pcapng_input.specs.declared.capture.NgFault.{NgFault}
use Rattle.pcapng_input.specs.declared.capture.NgFault.TheVariants as fault
use Rattle.pcapng_input.specs.declared.block.BlockKind.{BlockKind}
use Rattle.pcapng_input.specs.declared.block.BlockKind.TheVariants as kind
use Rattle.pcapng_input.specs.declared.block.Block.{Block}
use Rattle.pcapng_input.specs.declared.content.PacketBlock.{PacketBlock}
use Rattle.pcapng_input.specs.declared.content.BlockContent.{BlockContent}
use Rattle.pcapng_input.specs.declared.content.BlockContent.TheVariants as content
use Rattle.pcapng_input.specs.declared.walk.Interface.{Interface}
use Rattle.pcapng_input.specs.declared.walk.Walk.{Walk}
use Rattle.pcapng_input.specs.Moments.{moment_of}
use Rattle.pcapng_input.specs.Options.{resolution_told}

-- the most interfaces of a section (own)
abbrev pub most_interfaces : ℕ
most_interfaces = 4096

-- the most bytes of a section header and of an interface description (own)
abbrev pub most_bytes : ℕ
most_bytes = 1048576

-- where no block is read any more (own)
abbrev pub last_place : ℕ
last_place = 2 ^ 62

-- the type of a section header: the same in both byte orders
abbrev pub section_type : ℕ
section_type = 0x0a0d_0d0a

-- what one block gives: the ending; or that it is skipped, or a record, and then how far the blocks were
-- read, and the bytes after it
pub data Step : Type 0 where
  Stops : Ending NgFault → Step
  Skips : Walk → List ℕ → Step
  Gives : NgRecord → Walk → List ℕ → Step

abbrev pub refused : NgFault → Step
refused why = Stops (Refused why)

-- the block that begins here is cut off, or is not as the format has it
abbrev pub truncated : Walk → Step
truncated walk = refused (fault.Truncated walk.at)

abbrev pub bad_block : Walk → NgFault
bad_block walk = fault.BadBlock walk.at

-- the kind of a block of this type that is no section header
abbrev pub kind_of : ℕ → BlockKind
kind_of number =
    if number == 1 then kind.Interface else
    if number == 3 then kind.Simple else
    if number == 6 then kind.Enhanced else
    kind.Other

-- how long a block is at least
abbrev pub least_total : BlockKind → ℕ
least_total kind.Section = 28
least_total kind.Interface = 20
least_total kind.Simple = 16
least_total kind.Enhanced = 32
least_total kind.Other = 12

-- how many bytes are before what differs in length
abbrev pub fixed_front : BlockKind → ℕ
fixed_front kind.Section = 24
fixed_front kind.Interface = 16
fixed_front kind.Simple = 12
fixed_front kind.Enhanced = 28
fixed_front kind.Other = 8

-- how many bytes of the fixed front are after what a block is known by: its type and total length, and of a
-- section header the byte-order magic
abbrev pub front_length : BlockKind → ℕ
front_length kind.Section = 12
front_length kind.Interface = 8
front_length kind.Simple = 4
front_length kind.Enhanced = 20
front_length kind.Other = 0

-- a block of this kind is held to a length (own)
abbrev pub is_short : BlockKind → Bool
is_short kind.Section = true
is_short kind.Interface = true
is_short kind.Simple = false
is_short kind.Enhanced = false
is_short kind.Other = false

-- the total length is one that a block of its kind may have: whole fours (section 3.1)
unfoldable pub is_sized : Block → Bool
is_sized block =
    (block.total % 4 == 0) && nat_le (least_total block.kind) block.total
    && (nat_le block.total most_bytes || not (is_short block.kind))

-- how many bytes are between the fixed front and the last four
abbrev pub inner_length : Block → ℕ
inner_length block = block.total - fixed_front block.kind - 4

-- the byte order that a byte-order magic tells: whether the most significant byte comes first
unfoldable pub order_of : List ℕ → Option Bool
order_of magic =
    if number_at false 0 4 magic == 0x1a2b_3c4d then Some false else
    if number_at true 0 4 magic == 0x1a2b_3c4d then Some true else
    None

-- the walk before anything was read
abbrev pub first_walk : Walk
first_walk = record {
  section = record { swapped = false; interfaces = [] };
  number = 0;
  last = record { nanos = 0 };
  at = 0;
}

-- another section begins: its interfaces are its own
abbrev pub new_section : Walk → Bool → Walk
new_section walk swapped = record walk { section = record { swapped = swapped; interfaces = [] } }

-- the walk after a block
abbrev pub after_block : Walk → Block → Walk
after_block walk block = record walk { at = walk.at + block.total }

-- the walk after an interface description
abbrev pub after_interface : Walk → Block → Interface → Walk
after_interface walk block interface = record walk {
  section = record { swapped = walk.section.swapped; interfaces = walk.section.interfaces ++ interface ∷ [] };
  at = walk.at + block.total;
}

-- the walk after a packet
abbrev pub after_packet : Walk → Block → PacketBlock → Walk
after_packet walk block packet = record walk { number = walk.number + 1; last = packet.moment; at = walk.at + block.total }

-- the link layer of a link type, where it is one of the three
abbrev pub link_of : ℕ → Option Link
link_of number =
    if number == 1 then Some Ethernet else
    if number == 101 then Some RawIp else
    if number == 113 then Some Cooked else
    None

-- the packet of an interface, or why it can't be read: its moment may not be told in 64 bits
unfoldable pub packet_of : Walk → Block → Interface → Option Moment → ℕ → ℕ → Result BlockContent NgFault
packet_of walk block interface moment original captured =
    elim (link_of interface.link) [
      | None ↦ Err (fault.LinkType walk.at interface.link)
      | Some link ↦
          if nat_lt longest captured then Err (fault.TooLong walk.at captured) else
          if nat_lt (inner_length block) captured then Err (bad_block walk) else
          elim moment [
            | None ↦ Err (bad_block walk)
            | Some moment ↦ Ok (content.Packet (record {
              link = link;
              moment = moment;
              original = original;
              captured = captured;
            }))
          ]
    ]

-- how many bytes of a simple packet were captured: all, or the interface's limit where there is one
abbrev pub simple_length : Interface → ℕ → ℕ
simple_length interface original =
    if interface.snaplen == 0 then original else min original interface.snaplen

-- the ticks of an enhanced packet: the upper and the lower half
abbrev pub ticks_of : Bool → List ℕ → ℕ
ticks_of swapped front = number_at swapped 4 4 front * 2 ^ 32 + number_at swapped 8 4 front

-- what an enhanced packet's front tells: interface at 0, ticks at 4, captured length at 12, original at 16
unfoldable pub enhanced_of : Walk → Block → List ℕ → Result BlockContent NgFault
enhanced_of walk block front =
    elim (slice_get walk.section.interfaces (number_at walk.section.swapped 0 4 front)) [
      | None ↦ Err (bad_block walk)
      | Some interface ↦
          packet_of walk block interface (moment_of interface.resolution (ticks_of walk.section.swapped front))
          (number_at walk.section.swapped 16 4 front) (number_at walk.section.swapped 12 4 front)
    ]

-- what a simple packet's front tells, its original length: it is the first interface's, and has the moment
-- of the record before, or 0 (own)
unfoldable pub simple_of : Walk → Block → List ℕ → Result BlockContent NgFault
simple_of walk block front =
    elim (slice_get walk.section.interfaces 0) [
      | None ↦ Err (bad_block walk)
      | Some interface ↦
          packet_of walk block interface (Some walk.last) (number_at walk.section.swapped 0 4 front)
          (simple_length interface (number_at walk.section.swapped 0 4 front))
    ]

-- what an interface's front tells: its link type at 0 and its snaplen at 4
unfoldable pub interface_of : Walk → List ℕ → Result BlockContent NgFault
interface_of walk front =
    if nat_le most_interfaces (length walk.section.interfaces) then Err (bad_block walk) else
    Ok (content.Interface (number_at walk.section.swapped 0 2 front) (number_at walk.section.swapped 4 4 front))

-- what a section header's front tells: its major version is 1
unfoldable pub section_of : Walk → List ℕ → Result BlockContent NgFault
section_of walk front =
    if number_at walk.section.swapped 0 2 front == 1 then Ok content.Skipped else Err (bad_block walk)

-- what the fixed front of a block tells
unfoldable pub content_of : Walk → Block → List ℕ → Result BlockContent NgFault
content_of walk block front =
    elim block.kind [
      | kind.Section ↦ section_of walk front
      | kind.Interface ↦ interface_of walk front
      | kind.Simple ↦ simple_of walk block front
      | kind.Enhanced ↦ enhanced_of walk block front
      | kind.Other ↦ Ok content.Skipped
    ]

-- the record of a packet whose captured bytes are these
abbrev pub record_of : Walk → PacketBlock → List ℕ → NgRecord
record_of walk packet bytes = record {
  link = packet.link;
  item = record { number = walk.number; moment = packet.moment; original = packet.original; bytes = bytes };
}

-- what a whole block gives: these bytes are between its fixed front and its last four, and these come after
unfoldable pub given_by : Walk → Block → BlockContent → List ℕ → List ℕ → Step
given_by walk block content.Skipped inner more = Skips (after_block walk block) more
given_by walk block (content.Interface link snaplen) inner more =
    elim (resolution_told walk.section.swapped inner) [
      | None ↦ refused (bad_block walk)
      | Some resolution ↦ Skips (after_interface walk block (record { link = link; snaplen = snaplen; resolution = resolution }))
          more
    ]
given_by walk block (content.Packet packet) inner more =
    Gives (record_of walk packet (take packet.captured inner)) (after_packet walk block packet) more

-- what comes after a fixed front that tells this: the block is whole, and its last four bytes are its
-- total length again
unfoldable pub closing : Walk → Block → BlockContent → List ℕ → Step
closing walk block told after =
    if nat_lt (length after) (inner_length block + 4) then truncated walk else
    if number_at walk.section.swapped 0 4 (drop (inner_length block) after) == block.total
    then given_by walk block told (take (inner_length block) after) (drop (inner_length block + 4) after)
    else refused (bad_block walk)

-- what comes where a block has this fixed front, before these bytes
unfoldable pub fronted : Walk → Block → List ℕ → List ℕ → Step
fronted walk block front after =
    elim (content_of walk block front) [
      | Err why ↦ refused why
      | Ok told ↦ closing walk block told after
    ]

-- what comes where a block is known, before its front
unfoldable pub known : Walk → Block → List ℕ → Step
known walk block body =
    if is_sized block then
    (if nat_lt (length body) (front_length block.kind) then truncated walk else
    fronted walk block (take (front_length block.kind) body) (drop (front_length block.kind) body))
    else refused (bad_block walk)

-- the block of a section header, and of another, by its first eight bytes
abbrev pub section_block : Bool → List ℕ → Block
section_block swapped first = record { kind = kind.Section; total = number_at swapped 4 4 first }

abbrev pub other_block : Bool → List ℕ → Block
other_block swapped first = record { kind = kind_of (number_at swapped 0 4 first); total = number_at swapped 4 4 first }

-- what comes where a section header begins with these eight bytes: its magic tells the order of its
-- numbers, its own total length among them
unfoldable pub section_begun : Walk → List ℕ → List ℕ → Step
section_begun walk first body =
    if nat_lt (length body) 4 then truncated walk else
    elim (order_of (take 4 body)) [
      | None ↦ refused (bad_block walk)
      | Some swapped ↦ known (new_section walk swapped) (section_block swapped first) (drop 4 body)
    ]

-- what comes where a block begins with these eight bytes
unfoldable pub begun : Walk → List ℕ → List ℕ → Step
begun walk first body =
    if number_at false 0 4 first == section_type
    then section_begun walk first body
    else known walk (other_block walk.section.swapped first) body

-- as many records were given as may be, or as many bytes were read
abbrev pub is_full : Walk → Bool
is_full walk = nat_le most_records walk.number || nat_le last_place walk.at

-- what the block that comes next gives
unfoldable pub step_of : Walk → List ℕ → Step
step_of walk rest =
    if length rest == 0 then Stops Clean else
    if is_full walk then refused fault.TooMany else
    if nat_lt (length rest) 8 then truncated walk else
    begun walk (take 8 rest) (drop 8 rest)

-- what the first block of a file gives: it is a section header, or the file is no pcapng file
unfoldable pub opening : List ℕ → Step
opening bytes =
    if nat_le 4 (length bytes) && (number_at false 0 4 bytes == section_type) then
    (if nat_lt (length bytes) 12 then truncated first_walk else
    elim (order_of (take 4 (drop 8 bytes))) [
      | None ↦ refused fault.NotPcapng
      | Some swapped ↦ step_of first_walk bytes
    ])
    else refused fault.NotPcapng

-- what comes next: the ending, or a record, how far the blocks were read, and the bytes after its block
pub data Next : Type 0 where
  Ends : Ending NgFault → Next
  Follows : NgRecord → Walk → List ℕ → Next

-- what comes next after at most `most` skipped blocks
unfoldable pub next_along : ℕ → Walk → List ℕ → Next
next_along zero walk rest = Ends Clean
next_along (suc most) walk rest =
    elim (step_of walk rest) [
      | Stops ending ↦ Ends ending
      | Skips after more ↦ next_along most after more
      | Gives given after more ↦ Follows given after more
    ]

-- what comes next: fewer blocks are skipped than bytes are left
unfoldable pub next_of : Walk → List ℕ → Next
next_of walk rest = next_along (length rest + 1) walk rest

-- at most `most` records, one after the other, and then the ending
unfoldable pub cut_up : ℕ → Walk → List ℕ → Cut NgRecord NgFault
cut_up zero walk rest = no_more Clean
cut_up (suc most) walk rest =
    elim (next_of walk rest) [
      | Ends ending ↦ no_more ending
      | Follows first after more ↦ with_first first (cut_up most after more)
    ]

-- the records and the ending of these bytes: there are fewer records than bytes, so all of them
unfoldable pub records_left : Walk → List ℕ → Cut NgRecord NgFault
records_left walk rest = cut_up (length rest + 1) walk rest

-- the capture that these bytes are: why its first block is refused, or the records and the ending of all its
-- blocks, up to the limit where there is one
unfoldable pub ng_records : List ℕ → Option ℕ → Result (Cut NgRecord NgFault) NgFault
ng_records bytes limit =
    elim (opening bytes) [
      | Stops (Refused why) ↦ Err why
      | _ ↦ Ok (first_records limit (records_left first_walk bytes))
    ]
