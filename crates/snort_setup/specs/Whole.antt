-- What the code gives of a setup: the configuration with its rules, and the whole.
use Rattle.std.specs.Prelude.{ℕ, ◌≤◌, ⊤, List, Option, Result, Ok, Err, All, length}
use Rattle.edge_io.specs.declared.pattern.Refusal.{Refusal as Asked}
use Rattle.edge_io.specs.declared.pattern.Span.{Span}
use Rattle.conf_types.specs.declared.config.Config.{Config}
use Rattle.conf_types.specs.Sound as conf
use Rattle.conf_parser.specs.Reading.{Ended}
use Rattle.rule_types.specs.Sound.{IsSound}
use Rattle.option_eval.specs.Places.{Means}
use Rattle.option_eval.specs.RuleSet.{Rules, FindWhatIsMeant}
use Rattle.snort_setup.specs.declared.setup.Ruled as ruled
use Rattle.snort_setup.specs.declared.setup.Setup as setup
use Rattle.snort_setup.specs.declared.stop.SetupStop.{SetupStop}
use Rattle.snort_setup.specs.declared.stop.SetupStop.TheVariants as stop
use Rattle.snort_setup.specs.Words.{Words}
use Rattle.snort_setup.specs.Rules.{most_rules}
use Rattle.snort_setup.specs.Setup.{Refused, Ruled, Ready, warned, IsRuledBy}
use Rattle.snort_setup.specs.Answers.{AreRefusedBy}

abbrev pub ruled_of : {P : Type 0} → ruled.Ruled P → Ruled
ruled_of ruled = record { config = ruled.config; rules = ruled.set.rules }

abbrev pub ready_of : {P : Type 0} → setup.Setup P → Ready
ready_of setup = record { config = setup.config; rules = setup.set.rules; hosts = setup.hosts }

-- a configuration and rules are sound, the rules no more than there may be, and their patterns find what the maker
-- means
pub record AreReady {P : Type 0} (finds : P → List ℕ → Option Span) (means : Means) (settings : Config) (set : Rules P)
    : Type 0 where
  pub config : conf.IsSound settings
  pub rules : All (IsSound settings.classes) set.rules
  pub few : length set.rules ≤ most_rules
  pub meant : FindWhatIsMeant finds means set

-- a setup's configuration and rules are sound, no more than there may be, and their patterns find what is meant
abbrev pub IsReadySetup : {P : Type 0} → (P → List ℕ → Option Span) → Means → setup.Setup P → Type 0
IsReadySetup finds means setup = AreReady finds means setup.config setup.set

-- what may stop rule lines
abbrev pub IsRulesStop : SetupStop → Type 0
IsRulesStop (stop.Refused message) = ⊤
IsRulesStop (stop.CannotRead name) = ⊥
IsRulesStop stop.NoMemory = ⊤

-- an answer is what the lines give; want of memory is for any
abbrev pub RuledAs : {A : Type 0} → (A → Ruled) → Words → List ℕ → Ended → Result A SetupStop → List (List ℕ) → Type 0
RuledAs view words refused ended (Ok x) warnings = IsRuledBy words refused ended (warned warnings (Ok (view x)))
RuledAs view words refused ended (Err (stop.Refused message)) warnings =
    IsRuledBy words refused ended (warned warnings (Err (Refused message)))
RuledAs view words refused ended (Err (stop.CannotRead name)) warnings = ⊥
RuledAs view words refused ended (Err stop.NoMemory) warnings = ⊤

-- an answer is what the lines give, with the lines whose patterns are refused
pub record RuledGives {A : Type 0} (view : A → Ruled) (words : Words) (ended : Ended) (grown : List Asked)
    (answer : Result A SetupStop) (warnings : List (List ℕ)) : Type 0 where
  pub refused : List ℕ
  pub are_refused : AreRefusedBy words ended refused grown
  pub gives : RuledAs view words refused ended answer warnings
