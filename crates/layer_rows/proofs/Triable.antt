-- The configuration of a setup that is ready is sound, and each of its rules can be tried on items.
use Rattle.std.proofs.Common.{ℕ, List, Option, Result, Ok, Err, All, IfOk}
use Rattle.std.proofs.lemmas.List.Elements.{All-weaker}
use Rattle.edge_io.specs.declared.pattern.Span.{Span}
use Rattle.conf_types.specs.declared.classes.Class.{Class}
use Rattle.conf_types.specs.Sound as conf
use Rattle.rule_types.specs.declared.rule.Rule.{Rule}
use Rattle.rule_types.specs.Sound.{IsSound, IsTriable}
use Rattle.option_eval.specs.Places.{Means}
use Rattle.snort_setup.specs.declared.setup.Setup.{Setup}
use Rattle.snort_setup.specs.declared.stop.SetupStop.{SetupStop}
use Rattle.snort_setup.specs.Whole.{IsReadySetup}

all_triable : (classes : List Class) (rules : List Rule) → All (IsSound classes) rules → All IsTriable rules
all_triable classes rules = All-weaker (IsSound classes) IsTriable (λ rule sound. sound.triable) rules

module _ {P : Type 0} (finds : P → List ℕ → Option Span) (means : Means) where
  pub setup_sound : (answer : Result (Setup P) SetupStop) → IfOk answer (IsReadySetup finds means) → IfOk answer (λ setup. conf.IsSound setup.config)
  setup_sound (Ok setup) ready = ready.config
  setup_sound (Err stop) ready = tt

  pub setup_triable : (answer : Result (Setup P) SetupStop) → IfOk answer (IsReadySetup finds means) → IfOk answer (λ setup. All IsTriable setup.set.rules)
  setup_triable (Ok setup) ready = all_triable setup.config.classes setup.set.rules ready.rules
  setup_triable (Err stop) ready = tt
