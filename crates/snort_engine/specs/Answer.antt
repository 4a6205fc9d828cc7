-- What a run answers: the alert bytes, the error bytes and the status, as one thread gives them that
-- tries every rule on each packet and stream.
--
-- The cases go in the order of the work: the course of the words and files, the capture's name where it
-- has one, its records. To try it on: where the configuration has one rule and the capture is the 24 bytes of its
-- head alone, the answer is no line, no error and Done; without the last of these bytes it is
-- `ERROR: capture is truncated at byte 0` and BadCapture.
use Rattle.std.specs.Prelude.{ℕ, List, [], ◌++◌, Option, Some, None}
use Rattle.std.specs.FinMap.{get}
use Rattle.std.specs.List.{concat}
use Rattle.edge_io.specs.Files.{Files}
use Rattle.pcap_input.specs.Generated.{generated}
use Rattle.pcapng_input.specs.declared.fault.ReadFault.{ReadFault}
use Rattle.pcapng_input.specs.declared.fault.ReadFault.TheVariants as fault
use Rattle.pcapng_input.specs.Faults.{bad_capture_text}
use Rattle.snort_engine.specs.declared.status.Status.{Status}
use Rattle.snort_engine.specs.declared.status.Status.TheVariants as status
use Rattle.snort_engine.specs.Course.{Plan, Way, Stops, Goes, Makes, Lists, Course}
use Rattle.pcap_input.specs.Cut.{Ending, Clean, Refused}
use Rattle.snort_engine.specs.Records.{Recording, records_of}
use Rattle.snort_engine.specs.Trace.{Closed}
use Rattle.snort_engine.specs.Lines.{lines}
use Rattle.snort_engine.specs.Counts.{counts_of, told_counts, with_counts}
use Rattle.snort_engine.specs.Messages.{cannot_read_text, no_memory_text}

-- the bytes of the alerts and of the errors, and the status
pub record Answer : Type 0 where
  pub alerts : List ℕ
  pub errors : List ℕ
  pub status : Status

-- the message of a capture of this name that is refused, or that can't be read
abbrev pub fault_text : List ℕ → ReadFault → List ℕ
fault_text name (fault.Bad why) = bad_capture_text why
fault_text name fault.Failed = cannot_read_text name
fault_text name fault.NoMemory = no_memory_text

-- the status that goes with it
abbrev pub fault_status : ReadFault → Status
fault_status (fault.Bad why) = status.BadCapture
fault_status fault.Failed = status.HostFault
fault_status fault.NoMemory = status.NoMemory

-- the message of an ending
abbrev pub ending_text : List ℕ → Ending ReadFault → List ℕ
ending_text name Clean = []
ending_text name (Refused why) = fault_text name why

-- the status of an ending
abbrev pub ending_status : Ending ReadFault → Status
ending_status Clean = status.Done
ending_status (Refused why) = fault_status why

-- what a recording says in the errors: its ending, and the counts where they are asked for
abbrev pub recording_text : Plan → Recording → List ℕ
recording_text plan recording =
    with_counts (ending_text plan.source recording.ending) (told_counts plan.counted (counts_of plan recording.records))

-- the answer for the records of a capture
abbrev pub recording_answer : Plan → List ℕ → Recording → Answer
recording_answer plan warnings recording = record {
  alerts = lines plan [] recording.records Closed;
  errors = warnings ++ recording_text plan recording;
  status = ending_status recording.ending;
}

-- the answer for the bytes that the capture's name has, if it has any
unfoldable pub capture_answer : Plan → List ℕ → Option (List ℕ) → Answer
capture_answer plan warnings None =
    record { alerts = []; errors = warnings ++ cannot_read_text plan.source; status = status.HostFault }
capture_answer plan warnings (Some bytes) = recording_answer plan warnings (records_of plan bytes)

-- the answer for a way, after these warnings: a capture that is made has its bytes without a file
abbrev pub way_answer : Files → List ℕ → Way → Answer
way_answer files warnings (Stops message ended) = record { alerts = []; errors = warnings ++ message; status = ended }
way_answer files warnings (Goes plan) = capture_answer plan warnings (get files plan.source)
way_answer files warnings (Makes plan seed count) = capture_answer plan warnings (Some (generated seed count))
way_answer files warnings (Lists lines) = record { alerts = lines; errors = warnings; status = status.Done }

-- the answer for a course over these files
abbrev pub answer_of : Files → Course → Answer
answer_of files course = way_answer files (concat course.warnings) course.way
