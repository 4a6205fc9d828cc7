-- The records that a plan reads of a capture's bytes, and how they end.
--
-- A capture whose first 24 bytes are there, the first four of them 0a0d0d0a, is blocks one after another
-- (pcapng_input specs/Blocks); every other one is a savefile (pcap_input specs/Savefile). Each record carries
-- the link layer that its own bytes begin with: that of the savefile, or that of the packet's interface. A
-- record is whole within the first bytes of a capture where it, or its block, ends in them. A capture whose
-- head is refused has no record, and ends with that refusal; blocks without a byte-order magic are refused
-- as NotPcap. (The libpcap savefile format, pcap-savefile(5); draft-ietf-opsawg-pcapng. Which of the two is
-- read is this project's own.)
-- To try it on: the 24 bytes of a savefile's header alone have no record and a clean ending; without the
-- last of them the ending is Truncated at 0, and so it is of the first 23 bytes of a section header; of its 28
-- bytes the ending is clean again. The capture that is made of any seed with 5 packets has 5 records, under a
-- limit of 3 the first 3, and a clean ending.
use Rattle.std.specs.Prelude.{◌≡◌, ℕ, ◌≤◌, ◌==◌, ◌&&◌, nat_le, Bool, false, List, length, Option, Some, None, Result, Ok, Err, if◌then◌else◌}
use Rattle.std.specs.FinMap.{get}
use Rattle.edge_io.specs.Files.{Files}
use Rattle.edge_io.specs.declared.link.Link.{Link}
use Rattle.pcap_input.specs.declared.capture.CaptureFault.{CaptureFault}
use Rattle.pcap_input.specs.declared.capture.CaptureFault.TheVariants as savefile_fault
use Rattle.pcap_input.specs.declared.capture.Record.{Record}
use Rattle.pcap_input.specs.Cut.{Cut, Refused, no_more, cut_by, limited, IsWhole}
use Rattle.pcap_input.specs.Savefile.{Capture, file_header, head_of, most_records, number_at, savefile}
use Rattle.pcap_input.specs.Generated.{generated}
use Rattle.pcapng_input.specs.declared.capture.NgRecord.{NgRecord}
use Rattle.pcapng_input.specs.declared.capture.NgFault.{NgFault}
use Rattle.pcapng_input.specs.Blocks.{section_type, ng_records}
use Rattle.record_jobs.specs.Way.{LinkedRecord, linked}
use Rattle.pcapng_input.specs.declared.fault.ReadFault.{ReadFault}
use Rattle.pcapng_input.specs.Faults.{of_savefile, of_blocks}
use Rattle.snort_engine.specs.Course.{Plan, Way, Goes}

-- the records of a capture, with their link layers, and their ending
abbrev pub Recording : Type 0
Recording = Cut LinkedRecord ReadFault

-- ---- a savefile

-- records of one link layer, and their ending
abbrev pub recording_of : Link → Cut Record CaptureFault → Recording
recording_of link cut = cut_by (linked link) of_savefile cut

-- what a savefile holds, or the refusal of its head
abbrev pub recording_in : Result Capture CaptureFault → Recording
recording_in (Ok capture) = recording_of capture.head.link capture.cut
recording_in (Err why) = no_more (Refused (of_savefile why))

-- ---- blocks

-- a record and the link layer of its own interface
abbrev pub with_link : NgRecord → LinkedRecord
with_link given = linked given.link given.item

-- records each of the link layer of its own interface, and their ending
abbrev pub recording_of_blocks : Cut NgRecord NgFault → Recording
recording_of_blocks cut = cut_by with_link of_blocks cut

-- what blocks hold, or the refusal of the first of them
abbrev pub recording_in_blocks : Result (Cut NgRecord NgFault) NgFault → Recording
recording_in_blocks (Ok cut) = recording_of_blocks cut
recording_in_blocks (Err why) = no_more (Refused (of_blocks why))

-- ---- either

-- as many bytes as a savefile's header has are there, and the first four are the type of a section header
abbrev pub is_of_blocks : List ℕ → Bool
is_of_blocks bytes = nat_le file_header (length bytes) && (number_at false 0 4 bytes == section_type)

-- what these bytes hold, up to the limit where there is one
unfoldable pub records_in : Option ℕ → List ℕ → Recording
records_in limit bytes =
    if is_of_blocks bytes
    then recording_in_blocks (ng_records bytes limit)
    else recording_in (savefile bytes limit)

-- what a plan reads of these bytes
abbrev pub records_of : Plan → List ℕ → Recording
records_of plan bytes = records_in plan.limit bytes

-- the law of captures that are made: a plan reads as many records as were asked for, up to its limit, and
-- they end cleanly
abbrev pub MadeIsWhole : Type 0
MadeIsWhole =
    (plan : Plan) (seed count : ℕ) → count ≤ most_records
    → IsWhole (limited plan.limit count) (records_of plan (generated seed count))

-- ---- which of the two it begins as

-- these bytes are told, and begin as no savefile does
pub record IsOther (held : Option (List ℕ)) : Type 0 where
  pub bytes : List ℕ
  pub told : held ≡ Some bytes
  pub head : head_of bytes ≡ Err savefile_fault.NotPcap

-- the file of this name is told to begin so
abbrev pub IsToldOther : Option Files → List ℕ → Type 0
IsToldOther None name = ⊥
IsToldOther (Some files) name = IsOther (get files name)

-- the capture of this way is told to begin as no savefile does
abbrev pub BeginsOtherwise : Option Files → Way → Type 0
BeginsOtherwise told (Goes plan) = IsToldOther told plan.source
BeginsOtherwise told way = ⊥
