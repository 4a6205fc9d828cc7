-- The first record of a capture, when it was captured, and the year that follows from it.
--
-- A file is a savefile (pcap_input specs/Savefile), or, where it begins as none does, blocks (pcapng_input specs/Blocks); it is
-- read up to a limit of one record. It is refused before that, or has a record, or ends without one.
-- The first of alert lines then comes after the date of that moment, as a line comes after the one before it (alert_json
-- specs/LineYears).
-- To try it on: the capture of a packet at the second 86,400 has the moment 86,400,000,000,000, after 1970-01-02; the 24 bytes
-- of a savefile's header alone have none, since there is no record, and the first 23 of them none, since they are truncated at 0.
use Rattle.std.specs.Prelude.{◌≡◌, ⊤, ℕ, ◌/◌, List, [], ◌∷◌, map, Option, Some, None, Result, Ok, Err}
use Rattle.std.specs.FinMap.{get}
use Rattle.edge_io.specs.Files.{Files}
use Rattle.edge_io.specs.declared.moment.Moment.{Moment}
use Rattle.alert_fast.specs.Calendar.{CivilDate, date_of}
use Rattle.alert_json.specs.declared.line_year.YearFrom.{YearFrom}
use Rattle.alert_json.specs.declared.line_year.YearFrom.TheVariants.{After}
use Rattle.pcap_input.specs.Cut.{Cut, Ending, Clean, Refused, cut_by, ending_by}
use Rattle.pcap_input.specs.declared.capture.Record.{Record}
use Rattle.pcap_input.specs.Savefile.{Capture, Next, Ends, Follows, savefile}
use Rattle.pcap_input.specs.declared.capture.CaptureFault.{CaptureFault}
use Rattle.pcap_input.specs.declared.capture.CaptureFault.TheVariants as savefile_fault
use Rattle.pcapng_input.specs.Blocks.{ng_records}
use Rattle.pcapng_input.specs.declared.capture.NgRecord.{NgRecord}
use Rattle.pcapng_input.specs.declared.capture.NgFault.{NgFault}
use Rattle.pcapng_input.specs.declared.fault.ReadFault.TheVariants.{Failed, NoMemory}
use Rattle.pcapng_input.specs.declared.whole.Found.{Found}
use Rattle.pcapng_input.specs.Faults.{of_savefile, of_blocks}
use Rattle.snort_eve.specs.declared.capture.CaptureStop.{CaptureStop}
use Rattle.snort_eve.specs.declared.capture.CaptureStop.TheVariants as stop

-- ---- why there is none

abbrev pub stop_of_savefile : CaptureFault → CaptureStop
stop_of_savefile why = stop.Fault (of_savefile why)

abbrev pub stop_of_blocks : NgFault → CaptureStop
stop_of_blocks why = stop.Fault (of_blocks why)

-- ---- the first record

-- what reading up to a limit of one record gives: a refusal, the moment of a record, or that there is none
abbrev pub first_ended : List Moment → Ending CaptureStop → Result Moment CaptureStop
first_ended moments (Refused why) = Err why
first_ended (moment ∷ moments) Clean = Ok moment
first_ended [] Clean = Err stop.Empty

abbrev pub first_in : Cut Moment CaptureStop → Result Moment CaptureStop
first_in cut = first_ended cut.records cut.ending

abbrev pub moment_of : Record → Moment
moment_of given = given.moment

abbrev pub moment_in : NgRecord → Moment
moment_in given = given.item.moment

abbrev pub first_of_savefile : Cut Record CaptureFault → Result Moment CaptureStop
first_of_savefile cut = first_in (cut_by moment_of stop_of_savefile cut)

abbrev pub first_of_blocks : Result (Cut NgRecord NgFault) NgFault → Result Moment CaptureStop
first_of_blocks (Ok cut) = first_in (cut_by moment_in stop_of_blocks cut)
first_of_blocks (Err why) = Err (stop_of_blocks why)

-- of what begins as no savefile does the blocks count
abbrev pub first_by : Result Capture CaptureFault → Result (Cut NgRecord NgFault) NgFault → Result Moment CaptureStop
first_by (Ok capture) blocks = first_of_savefile capture.cut
first_by (Err savefile_fault.NotPcap) blocks = first_of_blocks blocks
first_by (Err why) blocks = Err (stop_of_savefile why)

-- when the first record of these bytes was captured
unfoldable pub first_moment : List ℕ → Result Moment CaptureStop
first_moment bytes = first_by (savefile bytes (Some 1)) (ng_records bytes (Some 1))

-- ---- of a file

-- there is a file of this name, and this is what its bytes give
pub record IsFirst (files : Files) (name : List ℕ) (answer : Result Moment CaptureStop) : Type 0 where
  pub bytes : List ℕ
  pub has : get files name ≡ Some bytes
  pub is : first_moment bytes ≡ answer

-- it is, unless a read failed or memory lacked
abbrev pub GivesFirst : Files → List ℕ → Result Moment CaptureStop → Type 0
GivesFirst files name (Err (stop.Fault Failed)) = ⊤
GivesFirst files name (Err (stop.Fault NoMemory)) = ⊤
GivesFirst files name answer = IsFirst files name answer

-- ---- the year after it

-- what the year of a line follows from that comes after this date
abbrev pub after_date : CivilDate → YearFrom
after_date date = After date.year date.month date.day

-- what it follows from after a moment, in nanoseconds since 1970-01-01 00:00:00 UTC: the moment's date in UTC
unfoldable pub after_moment : ℕ → YearFrom
after_moment nanos = after_date (date_of (nanos / 86_400_000_000_000))

-- ---- on the way

-- an answer is what is meant, unless a read failed or memory lacked
abbrev pub Meets : Result Moment CaptureStop → Result Moment CaptureStop → Type 0
Meets (Err (stop.Fault Failed)) meant = ⊤
Meets (Err (stop.Fault NoMemory)) meant = ⊤
Meets answer meant = meant ≡ answer

-- the moment of the record that stands next in a savefile, or why there is none
abbrev pub first_next : Next → Result Moment CaptureStop
first_next (Ends ending) = first_ended [] (ending_by stop_of_savefile ending)
first_next (Follows given rest) = Ok given.moment

-- what is found of blocks, read so
abbrev pub found_ending : Option NgFault → Ending CaptureStop
found_ending None = Clean
found_ending (Some why) = Refused (stop_of_blocks why)

abbrev pub first_found : Found → Result Moment CaptureStop
first_found found = first_ended (map moment_in found.records) (found_ending found.refused)
