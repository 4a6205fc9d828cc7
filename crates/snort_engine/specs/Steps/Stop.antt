-- What ends a run before a capture is read to its end: the status and the message of each stop.
--
-- To try it on: a capture that is neither a savefile nor blocks ends a run as BadCapture, with
-- `ERROR: capture is not a pcap file`.
use Rattle.std.specs.Prelude.{◌≡◌, ℕ, Bool, true, false, List, [], Result, Ok, Err, ⊤}
use Rattle.snort_setup.specs.declared.stop.SetupStop.{SetupStop}
use Rattle.snort_setup.specs.declared.stop.SetupStop.TheVariants as setup
use Rattle.alert_lines.specs.declared.fault.WriteFault.{WriteFault}
use Rattle.alert_lines.specs.declared.fault.WriteFault.TheVariants as write
use Rattle.pcapng_input.specs.declared.fault.ReadFault.TheVariants as fault
use Rattle.snort_engine.specs.declared.status.Status.{Status}
use Rattle.snort_engine.specs.declared.status.Status.TheVariants as status
use Rattle.snort_engine.specs.declared.stop.RunStop.{RunStop}
use Rattle.snort_engine.specs.declared.stop.RunStop.TheVariants as stop
use Rattle.snort_engine.specs.Answer.{fault_status, fault_text}
use Rattle.snort_engine.specs.Messages.{usage_text, version_text, accepted_text, command_line_text, cannot_read_text}
use Rattle.snort_engine.specs.Messages.{cannot_write_text, no_memory_text, bad_unified2_text}

-- the status of a stop
abbrev pub stop_status : RunStop → Status
stop_status stop.Usage = status.Done
stop_status stop.Version = status.Done
stop_status (stop.Accepted rules) = status.Done
stop_status stop.CommandLine = status.Refused
stop_status (stop.Refused message) = status.Refused
stop_status (stop.CannotReadFile name) = status.HostFault
stop_status (stop.Capture why) = fault_status why
stop_status stop.CannotWrite = status.WriteFault
stop_status stop.NoMemory = status.NoMemory
stop_status (stop.BadUnified2 at) = status.BadCapture

-- the message of a stop, where the capture has this name
unfoldable pub stop_text : List ℕ → RunStop → List ℕ
stop_text source stop.Usage = usage_text
stop_text source stop.Version = version_text
stop_text source (stop.Accepted rules) = accepted_text rules
stop_text source stop.CommandLine = command_line_text
stop_text source (stop.Refused message) = message
stop_text source (stop.CannotReadFile name) = cannot_read_text name
stop_text source (stop.Capture why) = fault_text source why
stop_text source stop.CannotWrite = cannot_write_text
stop_text source stop.NoMemory = no_memory_text
stop_text source (stop.BadUnified2 at) = bad_unified2_text at

-- how a setup without a detector stops a run
abbrev pub setup_stop : SetupStop → RunStop
setup_stop (setup.Refused message) = stop.Refused message
setup_stop (setup.CannotRead name) = stop.CannotReadFile name
setup_stop setup.NoMemory = stop.NoMemory

-- how alerts that were not all written stop a run
abbrev pub write_stop : WriteFault → RunStop
write_stop write.Unwritten = stop.CannotWrite
write_stop write.NoMemory = stop.NoMemory

-- what may stop the writing of lines, which takes no memory
abbrev pub IsWriteStop : RunStop → Type 0
IsWriteStop stop.CannotWrite = ⊤
IsWriteStop why = ⊥

-- work on a capture came to its end, or to where the capture is refused: neither the host nor the alert
-- sink failed, and memory was there
abbrev pub is_whole : {A : Type 0} → Result A RunStop → Bool
is_whole (Ok done) = true
is_whole (Err (stop.Capture fault.Failed)) = false
is_whole (Err (stop.Capture fault.NoMemory)) = false
is_whole (Err stop.CannotWrite) = false
is_whole (Err stop.NoMemory) = false
is_whole (Err why) = true

-- the status of a run that is stopped or done
abbrev pub outcome_status : {A : Type 0} → Result A RunStop → Status
outcome_status (Ok done) = status.Done
outcome_status (Err why) = stop_status why

-- the status of a run that nothing outside cut short, nor want of memory
abbrev pub is_uncut : Status → Bool
is_uncut status.Done = true
is_uncut status.Refused = true
is_uncut status.BadCapture = true
is_uncut ended = false

-- the status of a run that wrote all that it had to write: neither the alert sink failed nor memory was lacking
abbrev pub is_written : Status → Bool
is_written status.WriteFault = false
is_written status.NoMemory = false
is_written ended = true

-- the host's count of faults stays where the work was not cut short
abbrev pub ReadsQuietly : {A : Type 0} → Result A RunStop → ℕ → ℕ → Type 0
ReadsQuietly outcome old new = is_uncut (outcome_status outcome) ≡ true → new ≡ old

-- the alert sink's count stays where all was written
abbrev pub WritesQuietly : {A : Type 0} → Result A RunStop → ℕ → ℕ → Type 0
WritesQuietly outcome old new = is_written (outcome_status outcome) ≡ true → new ≡ old

-- the message of an outcome, if it has one
abbrev pub outcome_text : {A : Type 0} → List ℕ → Result A RunStop → List ℕ
outcome_text source (Ok done) = []
outcome_text source (Err why) = stop_text source why
