-- What was read of a whole pcapng capture, and whether it is what the capture's bytes hold.
--
-- To try it on: of a section header and one byte more, no record was read, and the refusal Truncated at 28 came
-- after none; so it is under every limit but 0, under which no refusal came.
use Rattle.std.specs.Prelude.{◌≡◌, ℕ, List, Option, Some, None, Result, Ok, Err}
use Rattle.pcapng_input.specs.declared.capture.NgFault.{NgFault}
use Rattle.pcapng_input.specs.declared.capture.NgFault.TheVariants as fault
use Rattle.pcap_input.specs.Cut.{Ending, Clean, Refused}
use Rattle.pcapng_input.specs.Blocks.{ng_records}
use Rattle.pcapng_input.specs.Calls.{IsOfBytes}
use Rattle.pcapng_input.specs.declared.whole.Found.{Found}

-- the refusal after the records is this ending
abbrev pub IsEndingOf : Option NgFault → Ending NgFault → Type 0
IsEndingOf None ending = ending ≡ Clean
IsEndingOf (Some why) ending = IsOfBytes why × (ending ≡ Refused why)

-- what was read up to a limit is what these bytes hold, unless memory lacked or the host failed
abbrev pub IsHeld : Result Found NgFault → ℕ → List ℕ → Type 0
IsHeld (Ok found) limit bytes =
    (ending : Ending NgFault) → IsEndingOf found.refused ending
    → ng_records bytes (Some limit) ≡ Ok (record { records = found.records; ending = ending })
IsHeld (Err why) limit bytes = IsOfBytes why → ng_records bytes (Some limit) ≡ Err why

-- the host failed: the capture wasn't opened, or the reading of it was broken off
abbrev pub HasFailed : Result Found NgFault → Type 0
HasFailed (Ok found) = found.refused ≡ Some fault.Failed
HasFailed (Err why) = why ≡ fault.Failed
