-- What each part of a setup answers: the configuration, the rule lines and the host table.
use Rattle.std.specs.Prelude.{◌≡◌, ◌⊎◌, ℕ, ⊤, List, Option, Some, Result, Ok, Err, codes}
use Rattle.edge_io.specs.Files.{Files}
use Rattle.edge_io.specs.declared.fault.NoMemory.{NoMemory}
use Rattle.edge_io.specs.declared.host.LoadFault.{LoadFault}
use Rattle.edge_io.specs.declared.host.LoadFault.TheVariants as load
use Rattle.conf_parser.specs.declared.line.LoadStop.{LoadStop}
use Rattle.conf_parser.specs.declared.line.LoadStop.TheVariants as conf
use Rattle.conf_parser.specs.Loaded.{loaded_of}
use Rattle.conf_parser.specs.Reading.{Ended, Whole, Refused as RefusedAt, Asks}
use Rattle.host_table.specs.declared.host_line.HostLine.{HostLine}
use Rattle.snort_setup.specs.declared.conf.Configured.{Configured}
use Rattle.snort_setup.specs.declared.stop.SetupStop.{SetupStop}
use Rattle.snort_setup.specs.declared.stop.SetupStop.TheVariants as stop
use Rattle.snort_setup.specs.Words.{Words}
use Rattle.snort_setup.specs.Texts.{conf_error, error_line}
use Rattle.snort_setup.specs.Setup.{Halt, Refused, Lacks as LacksName, conf_warnings, table_of, AsksFor, IsConfReading}

-- ---- the configuration

-- how a loading that stopped ends the setup, with these files; want of memory is for any
abbrev pub StopsAs : List (List ℕ) → LoadStop → SetupStop → Type 0
StopsAs files (conf.Conf fault) (stop.Refused message) = message ≡ conf_error files fault
StopsAs files (conf.Conf fault) (stop.CannotRead name) = ⊥
StopsAs files (conf.Conf fault) stop.NoMemory = ⊤
StopsAs files (conf.HostFailed name) answer = answer ≡ stop.CannotRead name
StopsAs files conf.NoMemory answer = answer ≡ stop.NoMemory

-- the configuration was read whole
abbrev pub IsConfigured : Configured → List (List ℕ) → Ended → Type 0
IsConfigured configured warnings (Whole read) =
    (configured.vars ≡ read.settings.vars) × (configured.loaded ≡ loaded_of read)
    × (warnings ≡ conf_warnings configured.loaded.files configured.loaded.warnings)
IsConfigured configured warnings (RefusedAt fault output) = ⊥
IsConfigured configured warnings (Asks name output) = ⊥

-- a line of it is refused with this message
abbrev pub IsConfError : List ℕ → List (List ℕ) → Ended → Type 0
IsConfError message warnings (Whole read) = ⊥
IsConfError message warnings (RefusedAt fault output) =
    (message ≡ conf_error output.files fault) × (warnings ≡ conf_warnings output.files output.warnings)
IsConfError message warnings (Asks name output) = ⊥

-- what is answered where the reading of the configuration ends so
abbrev pub ConfEnds : Words → Files → Type 0 → Result Configured SetupStop → List (List ℕ) → Ended → Type 0
ConfEnds words files rose (Ok configured) warnings ended = IsConfigured configured warnings ended
ConfEnds words files rose (Err (stop.Refused message)) warnings ended = IsConfError message warnings ended
ConfEnds words files rose (Err (stop.CannotRead name)) warnings ended =
    AsksFor name warnings ended ⊎ (rose × IsConfReading words files name warnings)
ConfEnds words files rose (Err stop.NoMemory) warnings ended = ⊤

-- ---- the host table

-- a message that was written, or want of memory
abbrev pub refusal_of : Result (List ℕ) NoMemory → SetupStop
refusal_of (Ok message) = stop.Refused message
refusal_of (Err none) = stop.NoMemory

-- hosts, or the message of a refusal, as meant; want of memory is for any
abbrev pub GivesHosts : Result (List HostLine) SetupStop → Result (List HostLine) Halt → Type 0
GivesHosts (Ok hosts) meant = meant ≡ Ok hosts
GivesHosts (Err (stop.Refused message)) meant = meant ≡ Err (Refused message)
GivesHosts (Err (stop.CannotRead name)) meant = ⊥
GivesHosts (Err stop.NoMemory) meant = ⊤

-- how a table that was not loaded ends the setup
abbrev pub StopsAtTable : List ℕ → LoadFault → SetupStop → Type 0
StopsAtTable name load.Failed (stop.Refused message) = ⊥
StopsAtTable name load.Failed (stop.CannotRead asked) = asked ≡ name
StopsAtTable name load.Failed stop.NoMemory = ⊤
StopsAtTable name load.TooLarge (stop.Refused message) = message ≡ error_line name 0 (codes "file is too large")
StopsAtTable name load.TooLarge (stop.CannotRead asked) = ⊥
StopsAtTable name load.TooLarge stop.NoMemory = ⊤
StopsAtTable name load.NoMemory answer = answer ≡ stop.NoMemory

-- what is answered for the table of this name, if one is named
abbrev pub TableGives : Option (List ℕ) → Files → Type 0 → Result (List HostLine) SetupStop → Type 0
TableGives name files rose (Ok hosts) = table_of name files ≡ Ok hosts
TableGives name files rose (Err (stop.Refused message)) = table_of name files ≡ Err (Refused message)
TableGives name files rose (Err (stop.CannotRead asked)) =
    (table_of name files ≡ Err (LacksName asked)) ⊎ (rose × (name ≡ Some asked))
TableGives name files rose (Err stop.NoMemory) = ⊤
