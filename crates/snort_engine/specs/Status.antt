-- The exit statuses of a process.
--
-- To try it on: a capture that is refused ends with 2.
use Rattle.std.specs.Prelude.{ℕ}
use Rattle.snort_engine.specs.declared.status.Status.{Status}
use Rattle.snort_engine.specs.declared.status.Status.TheVariants.{Done, Refused, BadCapture, HostFault, WriteFault, NoMemory}

-- 0 where the work is done, and a number for each other ending
abbrev pub status_code : Status → ℕ
status_code Done = 0
status_code Refused = 1
status_code BadCapture = 2
status_code HostFault = 3
status_code WriteFault = 4
status_code NoMemory = 5
