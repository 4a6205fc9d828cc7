-- A configuration that was loaded, or not, is the reading of it over the files that the host tells.
use Rattle.std.proofs.Common.{◌≡◌, ℕ, Option, Some, Err, List, length, sym, ap, subst, ◌∙◌, inl, inr}
use Rattle.edge_io.specs.Files.{Files}
use Rattle.net_lists.specs.Variables.{Variables}
use Rattle.conf_parser.specs.declared.line.ConfFault.{ConfFault}
use Rattle.conf_parser.specs.declared.line.LoadStop.{LoadStop}
use Rattle.conf_parser.specs.declared.line.LoadStop.TheVariants as conf
use Rattle.conf_parser.specs.declared.line.Warning.{Warning}
use Rattle.conf_parser.specs.declared.loaded.Loaded.{Loaded}
use Rattle.conf_parser.specs.declared.reading.Output.{Output}
use Rattle.conf_parser.specs.Loading.{Tells, IsLoading, IsWhole, EndsUnlessFailed, AreHandedOut, first_files}
use Rattle.conf_parser.specs.Reading.{Contents, Ended, Refused as RefusedAt, Asks, told, read_files}
use Rattle.snort_setup.specs.declared.conf.Configured.{Configured}
use Rattle.snort_setup.specs.declared.stop.SetupStop.{SetupStop}
use Rattle.snort_setup.specs.declared.stop.SetupStop.TheVariants as stop
use Rattle.snort_setup.specs.Words.{Words, first_variables}
use Rattle.snort_setup.specs.Texts.{conf_error}
use Rattle.snort_setup.specs.Setup.{conf_read, conf_warnings, AsksFor, IsConfReading}
use Rattle.snort_setup.specs.Stages.{StopsAs, IsConfigured, IsConfError, ConfEnds}

-- the contents that are a host's own are those that it tells
tells-told : (files : Files) (seen : Contents) → Tells (Some files) seen → seen ≡ told files
tells-told files seen tells = λ i number name. tells number name i

-- a whole reading
pub conf-whole : (configured : Configured) (warnings : List (List ℕ)) (ended : Ended) → warnings ≡ conf_warnings configured.loaded.files configured.loaded.warnings
    → IsWhole ended configured.vars configured.loaded → IsConfigured configured warnings ended
conf-whole configured warnings ended told_are whole =
    subst (λ (e : Ended). IsConfigured configured warnings e) (sym whole.whole) (whole.vars_are, whole.out_is, told_are)

-- the warnings that are handed out
warnings-out : (output : Output) (out : Loaded) (warnings : List (List ℕ))
    → AreHandedOut output out
    → warnings ≡ conf_warnings out.files out.warnings
    → warnings ≡ conf_warnings output.files output.warnings
warnings-out output out warnings handed told_are =
    told_are ∙ ap (λ (fs : List (List ℕ)). conf_warnings fs out.warnings) handed.files ∙ ap (λ (ws : List Warning). conf_warnings output.files ws) handed.warnings

-- a line that is refused
conf-refused : (fault : ConfFault) (out : Loaded) (message : List ℕ) (warnings : List (List ℕ)) (ended : Ended) → message ≡ conf_error out.files fault → warnings ≡ conf_warnings out.files out.warnings
    → (output : Output) × (ended ≡ RefusedAt fault output) × AreHandedOut output out → IsConfError message warnings ended
conf-refused fault out message warnings ended same told_are (output, is, handed) =
    subst (λ (e : Ended). IsConfError message warnings e) (sym is) (same ∙ ap (λ (fs : List (List ℕ)). conf_error fs fault) handed.files, warnings-out output out warnings handed told_are)

-- a file that is asked for
conf-asks : (name asked : List ℕ) (out : Loaded) (warnings : List (List ℕ)) (ended : Ended) → asked ≡ name → warnings ≡ conf_warnings out.files out.warnings
    → (output : Output) × (ended ≡ Asks name output) × AreHandedOut output out → AsksFor asked warnings ended
conf-asks name asked out warnings ended same told_are (output, is, handed) =
    subst (λ (e : Ended). AsksFor asked warnings e) (sym is) (sym same, sym (warnings-out output out warnings handed told_are))

module _ {A : Type 0} (words : Words) (files : Files) (rose : Type 0) (vars : Variables) (out : Loaded) (warnings : List (List ℕ)) (told_are : warnings ≡ conf_warnings out.files out.warnings) where
  -- the reading that a host failed at
  conf-read : (name asked : List ℕ)
      → asked ≡ name
      → IsLoading {A = A} (Some files) words.conf (first_variables words.definition) (Err (conf.HostFailed name)) vars out
      → IsConfReading words files asked warnings
  conf-read name asked same loading = (
    length out.files,
    conf-asks name asked out warnings (conf_read words (first_files (length out.files) (told files))) same told_are
        (output, over_told, handed),
  ) where
    output : Output
    output = loading.ends.0

    handed : AreHandedOut output out
    handed = loading.ends.2

    over_told : conf_read words (first_files (length out.files) (told files)) ≡ Asks name output
    over_told = ap (λ (contents : Contents). conf_read words (first_files (length out.files) contents)) (sym (tells-told files loading.seen loading.tells)) ∙ loading.ends.1

  pub conf-stopped : (why : LoadStop) (answer : SetupStop) → StopsAs out.files why answer → IsLoading {A = A} (Some files) words.conf (first_variables words.definition) (Err why) vars out
      → EndsUnlessFailed {A = A} rose (conf_read words (told files)) (Err why) vars out → ConfEnds words files rose (Err answer) warnings (conf_read words (told files))
  conf-stopped (conf.Conf fault) (stop.Refused message) stops loading ends = conf-refused fault out message warnings (conf_read words (told files)) stops told_are ends
  conf-stopped (conf.Conf fault) (stop.CannotRead name) stops loading ends = absurd stops
  conf-stopped (conf.Conf fault) stop.NoMemory stops loading ends = tt
  conf-stopped (conf.HostFailed name) (stop.Refused message) stops loading ends = let never : stop.Refused message ≡ stop.CannotRead name = stops in cc
  conf-stopped (conf.HostFailed name) (stop.CannotRead asked) stops loading (inl fault) =
      let same : asked ≡ name = cc in inr (fault, conf-read name asked same loading)
  conf-stopped (conf.HostFailed name) (stop.CannotRead asked) stops loading (inr ends) =
      let same : asked ≡ name = cc in inl (conf-asks name asked out warnings (conf_read words (told files)) same told_are ends)
  conf-stopped (conf.HostFailed name) stop.NoMemory stops loading ends = tt
  conf-stopped conf.NoMemory (stop.Refused message) stops loading ends = let never : stop.Refused message ≡ stop.NoMemory = stops in cc
  conf-stopped conf.NoMemory (stop.CannotRead name) stops loading ends = let never : stop.CannotRead name ≡ stop.NoMemory = stops in cc
  conf-stopped conf.NoMemory stop.NoMemory stops loading ends = tt

-- a configuration that is stopped, from what a loading says of a host and of the variables that were first
pub conf-stopped-from : {A : Type 0} (words : Words) (files : Files) (host : Option Files) (before : Variables)
    → host ≡ Some files
    → before ≡ first_variables words.definition
    → (rose : Type 0) (vars : Variables) (out : Loaded) (warnings : List (List ℕ))
    → warnings ≡ conf_warnings out.files out.warnings
    → (why : LoadStop) (answer : SetupStop)
    → StopsAs out.files why answer
    → IsLoading {A = A} host words.conf before (Err why) vars out
    → EndsUnlessFailed {A = A} rose (read_files (told files) words.conf before) (Err why) vars out
    → ConfEnds words files rose (Err answer) warnings (conf_read words (told files))
conf-stopped-from {A} words files host before is first rose vars out warnings told_are why answer stops loading ends =
    conf-stopped {A = A} words files rose vars out warnings told_are why answer stops
    (subst (λ (h : Option Files). IsLoading {A = A} h words.conf (first_variables words.definition) (Err why) vars out) is
    (subst (λ (b : Variables). IsLoading {A = A} host words.conf b (Err why) vars out) first loading))
    (subst (λ (b : Variables). EndsUnlessFailed {A = A} rose (read_files (told files) words.conf b) (Err why) vars out) first
    ends)
