-- Patterns of regular expressions cross threads.
use denote.Param.Send.{sendable}
use Rattle.regex_maker.proofs.Crosses.{RegexPattern-send, RegexPattern-sync}
use Rattle.snort_main.proofs.main.Goals as goal

pub run_on_system-status-requires-send-M-Made : goal.run_on_system-status-requires-send-M-Made
run_on_system-status-requires-send-M-Made c κs = search (sendable, RegexPattern-send)

pub run_on_system-status-requires-sync-M-Made : goal.run_on_system-status-requires-sync-M-Made
run_on_system-status-requires-sync-M-Made c κs = search (sendable, RegexPattern-sync)
