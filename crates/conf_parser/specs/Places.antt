-- Where the lines lie that are handed out: each in a file that was read.
--
-- To try it on: after a reading of one file each rule line has the file 0.
use Rattle.std.specs.Prelude.{ℕ, ◌<◌, List, Result, Ok, Err, ⊤, length, All}
use Rattle.conf_parser.specs.declared.line.Line.{Line}
use Rattle.conf_parser.specs.declared.line.Warning.{Warning}
use Rattle.conf_parser.specs.declared.line.LoadStop.{LoadStop}
use Rattle.conf_parser.specs.declared.line.LoadStop.TheVariants as stop
use Rattle.conf_parser.specs.declared.loaded.Loaded.{Loaded}

-- each warning is in one of `count` files
abbrev pub WarningsAreIn : ℕ → List Warning → Type 0
WarningsAreIn count warnings = All (λ (warning : Warning). warning.file < count) warnings

-- each rule line is in one of `count` files
abbrev pub RulesAreIn : ℕ → List Line → Type 0
RulesAreIn count rules = All (λ (rule : Line). rule.file < count) rules

-- what is handed out after an answer is in the files there, a fault among it
abbrev pub LieInFiles : {A : Type 0} → Result A LoadStop → Loaded → Type 0
LieInFiles (Ok x) out = RulesAreIn (length out.files) out.rules × WarningsAreIn (length out.files) out.warnings
LieInFiles (Err (stop.Conf fault)) out = (fault.file < length out.files) × WarningsAreIn (length out.files) out.warnings
LieInFiles (Err (stop.HostFailed name)) out = WarningsAreIn (length out.files) out.warnings
LieInFiles (Err stop.NoMemory) out = ⊤
