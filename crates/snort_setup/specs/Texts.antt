-- The texts of a setup: a table from each kind of refusal to its text, and the lines that show them.
--
-- A line is `ERROR: FILE(LINE) TEXT` or `WARNING: FILE(LINE) TEXT` with a line feed, as Snort writes `ERROR:
-- FILE(LINE) ..` for a fault of its configuration; the texts are our own. A line of the configuration that was
-- skipped shows its first word and the name after it, a rule that was skipped the text of its refusal.
-- To try it on: an unknown word on line 3 of `r` is `ERROR: r(3) unknown directive`.
use Rattle.std.specs.Prelude.{ℕ, List, [], ◌++◌, codes, decimal, slice_index_or}
use Rattle.edge_io.specs.Bytes.{slice}
use Rattle.conf_parser.specs.declared.line.ConfKind.{ConfKind}
use Rattle.conf_parser.specs.declared.line.ConfKind.TheVariants as conf
use Rattle.conf_parser.specs.declared.line.ConfFault.{ConfFault}
use Rattle.conf_parser.specs.declared.line.Warning.{Warning}
use Rattle.rule_parser.specs.declared.fault.RuleKind.{RuleKind}
use Rattle.rule_parser.specs.declared.fault.RuleKind.TheVariants as rule
use Rattle.rule_parser.specs.declared.fault.RuleFault.{RuleFault}
use Rattle.host_table.specs.declared.fault.HostFault.{HostFault}
use Rattle.host_table.specs.declared.fault.HostFault.TheVariants as host

-- ---- kinds

-- why a line of the configuration is refused
abbrev pub conf_text : ConfKind → List ℕ
conf_text conf.UnknownDirective = codes "unknown directive"
conf_text conf.BadValue = codes "bad value"
conf_text (conf.UnknownVariable shown) = codes "undefined variable " ++ shown
conf_text conf.BadAddress = codes "bad address list"
conf_text conf.BadPort = codes "bad port list"
conf_text conf.Duplicate = codes "given twice"
conf_text conf.TooDeep = codes "includes nest too deep"
conf_text conf.TooLarge = codes "file is too large"
conf_text conf.OutsideProfile = codes "outside this profile"
conf_text conf.Limit = codes "too many entries"

-- why a rule line is refused; what the line has where a variable is unknown is shown
abbrev pub rule_text : List ℕ → RuleKind → List ℕ
rule_text shown rule.Action = codes "unknown action"
rule_text shown rule.Protocol = codes "unknown protocol"
rule_text shown rule.Address = codes "bad address list"
rule_text shown rule.Port = codes "bad port list"
rule_text shown rule.Direction = codes "bad direction"
rule_text shown rule.OptionSyntax = codes "bad option syntax"
rule_text shown rule.UnknownOption = codes "unknown option"
rule_text shown rule.OptionValue = codes "bad option value"
rule_text shown rule.MisplacedModifier = codes "misplaced modifier"
rule_text shown rule.DuplicateSid = codes "duplicate sid"
rule_text shown rule.MissingSid = codes "missing sid"
rule_text shown rule.UnknownClass = codes "unknown class"
rule_text shown rule.UnknownVariable = codes "undefined variable " ++ shown
rule_text shown rule.Limit = codes "limit exceeded"
rule_text shown rule.OutsideProfile = codes "outside this profile"
rule_text shown rule.PatternRefused = codes "pattern is refused"
rule_text shown rule.NoMemory = codes "no memory"

-- why a line of a host table is refused
abbrev pub host_text : HostFault → List ℕ
host_text (host.BadLine line) = codes "bad host line"
host_text (host.Twice line) = codes "host given twice"
host_text host.NoMemory = codes "no memory"

-- the number of that line
abbrev pub host_line_of : HostFault → ℕ
host_line_of (host.BadLine line) = line
host_line_of (host.Twice line) = line
host_line_of host.NoMemory = 0

-- a line that was skipped
abbrev pub skipped_text : List ℕ → List ℕ → List ℕ
skipped_text directive name = codes "skipped: " ++ (directive ++ (codes " " ++ name))

-- ---- lines

-- a line that tells of a line of a file
unfoldable pub told_line : List ℕ → List ℕ → ℕ → List ℕ → List ℕ
told_line word file line text = word ++ (file ++ (codes "(" ++ (decimal line ++ (codes ") " ++ (text ++ codes "\n")))))

abbrev pub error_line : List ℕ → ℕ → List ℕ → List ℕ
error_line file line text = told_line (codes "ERROR: ") file line text

abbrev pub warning_line : List ℕ → ℕ → List ℕ → List ℕ
warning_line file line text = told_line (codes "WARNING: ") file line text

-- the name of the file at this place among those read
abbrev pub file_at : List (List ℕ) → ℕ → List ℕ
file_at files place = slice_index_or files place []

-- what the line has where a variable is unknown
abbrev pub shown_by : List ℕ → RuleFault → List ℕ
shown_by line fault = slice line fault.from fault.to

-- the refusal of a line of the configuration
abbrev pub conf_error : List (List ℕ) → ConfFault → List ℕ
conf_error files fault = error_line (file_at files fault.file) fault.line (conf_text fault.kind)

-- a line of the configuration that was skipped
abbrev pub conf_warning : List (List ℕ) → Warning → List ℕ
conf_warning files warning = warning_line (file_at files warning.file) warning.line (skipped_text warning.directive warning.name)

-- the refusal of a line of the host table
abbrev pub host_error : List ℕ → HostFault → List ℕ
host_error name fault = error_line name (host_line_of fault) (host_text fault)
