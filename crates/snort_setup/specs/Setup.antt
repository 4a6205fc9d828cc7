-- The setup of a run: from its words and files to a detector that is ready, or to the first refusal.
--
-- The configuration is read first, from the variables that the words define, its lines and those of the files
-- that it includes in reading order; then its rule lines in that order; then the host table, if the words name
-- one. The first line that is refused ends the setup with its error, and so does the first file whose name the
-- contents lack. Warnings come first, those of the configuration before those of rules, each a line.
-- A reading is a file that is asked for in this order: it is named with the warnings that come before it.
-- (The configuration and its rules as in Snort Users Manual 2.9, chapters 2 and 3; the host table is our own.)
-- To try it on: where `r` has the line `output x: y` and a rule, the setup is ready with that rule and the warning
-- `WARNING: r(1) skipped: output x`; where `r` lacks, it asks for `r`, without a warning.
use Rattle.std.specs.Prelude.{◌≡◌, ◌⊎◌, ℕ, Bool, List, [], Option, Some, None, Result, Ok, Err, codes, length, map, nat_le, if◌then◌else◌}
use Rattle.std.specs.FinMap.{get}
use Rattle.edge_io.specs.Files.{Files}
use Rattle.edge_io.specs.OnResult.{◌>>=◌}
use Rattle.net_lists.specs.Variables.{Variables}
use Rattle.conf_types.specs.declared.config.Config.{Config}
use Rattle.conf_parser.specs.declared.loaded.Loaded.{Loaded}
use Rattle.conf_parser.specs.declared.line.Warning.{Warning}
use Rattle.conf_parser.specs.Loaded.{loaded_of}
use Rattle.conf_parser.specs.Loading.{first_files}
use Rattle.conf_parser.specs.Reading.{Ended, Whole, Refused as RefusedAt, Asks, Contents, told, read_files}
use Rattle.rule_types.specs.declared.rule.Rule.{Rule}
use Rattle.host_table.specs.declared.fault.HostFault.{HostFault}
use Rattle.host_table.specs.declared.host_line.HostLine.{HostLine}
use Rattle.host_table.specs.Hosts.{hosts_of}
use Rattle.snort_setup.specs.Words.{Words, first_variables}
use Rattle.snort_setup.specs.Texts.{conf_warning, conf_error, host_error, error_line}
use Rattle.snort_setup.specs.Rules.{Frame, RulesEnd, RulesGive, nothing_read}

-- why no detector is ready: a line is refused, or a file whose line it would be, with this error; or the
-- contents lack this name
pub data Halt : Type 0 where
  Refused : (message : List ℕ) → Halt
  Lacks : (name : List ℕ) → Halt

-- what the lines of a configuration give: its settings and its rules
pub record Ruled : Type 0 where
  pub config : Config
  pub rules : List Rule

-- what the setup of a run gives: its settings, its rules and the host table
pub record Ready : Type 0 where
  pub config : Config
  pub rules : List Rule
  pub hosts : List HostLine

-- all warnings, each a line, and what they come before
pub record Warned (A : Type 0) : Type 0 where
  pub warnings : List (List ℕ)
  pub outcome : Result A Halt

abbrev pub warned : {A : Type 0} → List (List ℕ) → Result A Halt → Warned A
warned warnings outcome = record { warnings = warnings; outcome = outcome }

-- ---- the configuration and its rules

-- the reading of the configuration over these contents
abbrev pub conf_read : Words → Contents → Ended
conf_read words contents = read_files contents words.conf (first_variables words.definition)

-- the warnings of a configuration
abbrev pub conf_warnings : List (List ℕ) → List Warning → List (List ℕ)
conf_warnings files warnings = map (conf_warning files) warnings

-- what the rule lines of a configuration are read in, with the variables after all its lines
abbrev pub frame_of : Bool → Variables → Loaded → Frame
frame_of skips variables loaded = record {
  variables = variables;
  classes = loaded.config.classes;
  files = loaded.files;
  skips = skips;
}

-- what the end of the rule lines gives, with these settings
abbrev pub ruled : Config → RulesEnd → Result Ruled Halt
ruled config end = elim end.refusal [
  | None ↦ Ok (record { config = config; rules = end.rules })
  | Some message ↦ Err
      (Refused message)
]

-- what the end of the rule lines gives, with all warnings
abbrev pub ruled_by : Loaded → RulesEnd → Warned Ruled
ruled_by loaded end = warned end.warnings (ruled loaded.config end)

-- what the lines of a configuration give whose reading ends so, where these rule lines' patterns are refused
unfoldable pub IsRuledBy : Words → List ℕ → Ended → Warned Ruled → Type 0
IsRuledBy words refused (Whole read) given =
    (end : RulesEnd) × RulesGive (frame_of words.skips read.settings.vars (loaded_of read)) refused 0
    (nothing_read (conf_warnings (loaded_of read).files (loaded_of read).warnings)) (loaded_of read).rules end
    × (given ≡ ruled_by (loaded_of read) end)
IsRuledBy words refused (RefusedAt fault output) given =
    given ≡ warned (conf_warnings output.files output.warnings) (Err (Refused (conf_error output.files fault)))
IsRuledBy words refused (Asks name output) given = given ≡ warned (conf_warnings output.files output.warnings) (Err (Lacks name))

-- what the lines of a configuration give over files that are told
abbrev pub IsRuled : Words → Files → List ℕ → Warned Ruled → Type 0
IsRuled words files refused given = IsRuledBy words refused (conf_read words (told files)) given

-- ---- the host table

-- the most bytes of a host table
abbrev pub most_bytes : ℕ
most_bytes = 16777216

-- a table that is read, or the error of its first line that is refused
abbrev pub table_read : List ℕ → Result (List HostLine) HostFault → Result (List HostLine) Halt
table_read name (Ok hosts) = Ok hosts
table_read name (Err fault) = Err (Refused (host_error name fault))

-- the host table of this name with these contents, which is refused at line 0 where it is too long
abbrev pub table_in : List ℕ → Option (List ℕ) → Result (List HostLine) Halt
table_in name None = Err (Lacks name)
table_in name (Some bytes) = if nat_le (length bytes) most_bytes then table_read name (hosts_of bytes)
    else Err (Refused (error_line name 0 (codes "file is too large")))

-- the host table of the words: no hosts where none is named
unfoldable pub table_of : Option (List ℕ) → Files → Result (List HostLine) Halt
table_of None files = Ok []
table_of (Some name) files = table_in name (get files name)

-- ---- the setup

-- what a setup gives after the configuration and its rules
abbrev pub ready : Ruled → List HostLine → Ready
ready ruled hosts = record { config = ruled.config; rules = ruled.rules; hosts = hosts }

unfoldable pub with_table : Words → Files → Warned Ruled → Warned Ready
with_table words files given =
    warned given.warnings (given.outcome >>= λ ruled. table_of words.host_table files >>= λ hosts. Ok (ready ruled hosts))

-- The setup of these words over these files, where the patterns of the rule lines at these places are refused.
abbrev pub IsSetup : Words → Files → List ℕ → Warned Ready → Type 0
IsSetup words files refused setup =
    (given : Warned Ruled) × IsRuled words files refused given × (setup ≡ with_table words files given)

-- ---- its readings

-- a reading that ends so asks for this name, after these warnings
abbrev pub AsksFor : List ℕ → List (List ℕ) → Ended → Type 0
AsksFor name warnings (Asks asked output) = (asked ≡ name) × (conf_warnings output.files output.warnings ≡ warnings)
AsksFor name warnings ended = ⊥

-- the configuration would ask for this name, if only this many files could be read before it
abbrev pub IsConfReading : Words → Files → List ℕ → List (List ℕ) → Type 0
IsConfReading words files name warnings = (count : ℕ) × AsksFor name warnings (conf_read words (first_files count (told files)))

-- the host table has this name, and the configuration and its rules are accepted with these warnings
abbrev pub IsTableReading : Words → Files → List ℕ → List ℕ → List (List ℕ) → Type 0
IsTableReading words files refused name warnings =
    (words.host_table ≡ Some name) × ((given : Ruled) × IsRuled words files refused (warned warnings (Ok given)))

-- one of the files that the setup reads, and the warnings that come before it
abbrev pub IsReading : Words → Files → List ℕ → List ℕ → List (List ℕ) → Type 0
IsReading words files refused name warnings =
    IsConfReading words files name warnings ⊎ IsTableReading words files refused name warnings
