-- What reading a configuration gives to a run, where no pattern of a rule is made, so that none is refused.
--
-- To try it on: of a configuration with the rule 1:10 whose message is `a` a run has the message `a` for 1:10; one that is
-- refused ends the run with the message of that line.
use Rattle.std.specs.Prelude.{◌⊎◌, ⊤, List, ℕ, [], Result, Ok, Err}
use Rattle.edge_io.specs.Files.{Files}
use Rattle.snort_setup.specs.declared.stop.SetupStop.{SetupStop}
use Rattle.snort_setup.specs.declared.stop.SetupStop.TheVariants as stop
use Rattle.snort_setup.specs.Setup.{Ready, IsReading, IsSetup, warned, Lacks, Refused}
use Rattle.snort_setup.specs.Words.{Words}
use Rattle.snort_eve.specs.declared.outcome.Outcome.{Outcome}
use Rattle.snort_eve.specs.declared.outcome.Outcome.TheVariants as outcome
use Rattle.snort_eve.specs.declared.texts.Texts.{Texts as Kept}
use Rattle.snort_eve.specs.Texts.{AreTexts, texts_of}

-- the configuration is ready
pub record IsReady (words : Words) (files : Files) (ready : Ready) : Type 0 where
  pub warnings : List (List ℕ)
  pub setup : IsSetup words files [] (warned warnings (Ok ready))

-- a line of the configuration is refused
pub record IsRefusedBy (words : Words) (files : Files) (message : List ℕ) : Type 0 where
  pub warnings : List (List ℕ)
  pub setup : IsSetup words files [] (warned warnings (Err (Refused message)))

-- the configuration lacks a file of this name, or may have asked for it
pub record IsUnreadBy (words : Words) (files : Files) (name : List ℕ) : Type 0 where
  pub warnings : List (List ℕ)
  pub asks : IsSetup words files [] (warned warnings (Err (Lacks name))) ⊎ IsReading words files [] name warnings

-- an answer is that of the configuration; want of memory is for any
abbrev pub Given : {A : Type 0} → (A → Ready) → Words → Files → Result A SetupStop → Type 0
Given view words files (Ok setup) = IsReady words files (view setup)
Given view words files (Err (stop.Refused message)) = IsRefusedBy words files message
Given view words files (Err (stop.CannotRead name)) = IsUnreadBy words files name
Given view words files (Err stop.NoMemory) = ⊤

-- texts are those of this setup
abbrev pub AreTextsOf : Kept → Ready → Type 0
AreTextsOf kept ready = AreTexts (texts_of kept) ready.rules ready.config.classes

-- these, or want of memory
abbrev pub GiveTexts : Ready → Result Kept SetupStop → Type 0
GiveTexts ready (Ok texts) = AreTextsOf texts ready
GiveTexts ready (Err (stop.Refused message)) = ⊥
GiveTexts ready (Err (stop.CannotRead name)) = ⊥
GiveTexts ready (Err stop.NoMemory) = ⊤

-- texts are those of a configuration that is ready
pub record AreReadyTexts (words : Words) (files : Files) (kept : Kept) : Type 0 where
  pub ready : Ready
  pub is : IsReady words files ready
  pub are : AreTextsOf kept ready

abbrev pub GivenTexts : Words → Files → Result Kept SetupStop → Type 0
GivenTexts words files (Ok texts) = AreReadyTexts words files texts
GivenTexts words files (Err (stop.Refused message)) = IsRefusedBy words files message
GivenTexts words files (Err (stop.CannotRead name)) = IsUnreadBy words files name
GivenTexts words files (Err stop.NoMemory) = ⊤

-- how a run ends whose configuration isn't ready
abbrev pub halted : SetupStop → Outcome
halted (stop.Refused message) = outcome.Refused message
halted (stop.CannotRead name) = outcome.NoConf name
halted stop.NoMemory = outcome.NoMemory
