-- The fault of a line as its reader gives it: its kind, and the place of what an unknown variable shows.
--
-- To try it on: in a line of 20 bytes a name of 1 byte that begins 10 bytes before the end goes from 10 to 11.
use Rattle.std.specs.Prelude.{ℕ, ◌-◌}
use Rattle.net_lists.specs.declared.stop.Stop.{Stop}
use Rattle.net_lists.specs.declared.stop.Stop.TheVariants.{NoMemory, Wrong}
use Rattle.rule_parser.specs.declared.fault.Fault.{Fault}
use Rattle.rule_parser.specs.declared.fault.Fault.TheVariants as fault
use Rattle.rule_parser.specs.declared.fault.RuleFault.{RuleFault}
use Rattle.rule_parser.specs.declared.fault.RuleKind.{RuleKind}
use Rattle.rule_parser.specs.declared.fault.RuleKind.TheVariants as kind

-- the fault of this kind, at no place
abbrev pub plain : RuleKind → RuleFault
plain kind = record { kind = kind; from = 0; to = 0 }

-- the fault in a line of `len` bytes
unfoldable pub rule_fault : ℕ → Fault → RuleFault
rule_fault len fault.Action = plain kind.Action
rule_fault len fault.Protocol = plain kind.Protocol
rule_fault len fault.Address = plain kind.Address
rule_fault len fault.Port = plain kind.Port
rule_fault len fault.Direction = plain kind.Direction
rule_fault len fault.OptionSyntax = plain kind.OptionSyntax
rule_fault len fault.UnknownOption = plain kind.UnknownOption
rule_fault len fault.OptionValue = plain kind.OptionValue
rule_fault len fault.Misplaced = plain kind.MisplacedModifier
rule_fault len fault.MissingSid = plain kind.MissingSid
rule_fault len fault.UnknownClass = plain kind.UnknownClass
rule_fault len (fault.Unknown left size) = record { kind = kind.UnknownVariable; from = len - left; to = len - (left - size) }
rule_fault len fault.Limit = plain kind.Limit
rule_fault len fault.OutsideProfile = plain kind.OutsideProfile

-- the fault of what stopped a reader, in a line of `len` bytes
abbrev pub stop_fault : ℕ → Stop Fault → RuleFault
stop_fault len NoMemory = plain kind.NoMemory
stop_fault len (Wrong why) = rule_fault len why
