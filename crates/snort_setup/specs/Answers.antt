-- What a setup answers over files that are told, and which rule lines' patterns were refused.
--
-- The refused lines are those at whose turn the maker refused one of their patterns. One list of them serves the
-- answer and the warnings. An answer is that of the setup over it; a file that is not read is a reading of it,
-- where the host's count of faults rose, and else the first name that the contents lack.
-- To try it on: where the maker refuses the pattern of the one rule on line 1 of `r`, and rules are skipped, the
-- setup is ready without a rule, with the warning `WARNING: r(1) pattern is refused`.
use Rattle.std.specs.Prelude.{◌≡◌, ◌⊎◌, ℕ, ⊤, ◌≤◌, List, [], Option, Some, Result, Ok, Err, All, Contains, length, slice_get}
use Rattle.edge_io.specs.Files.{Files, Lacks}
use Rattle.edge_io.specs.declared.pattern.Refusal.{Refusal}
use Rattle.conf_parser.specs.declared.line.Line.{Line}
use Rattle.conf_parser.specs.Loaded.{loaded_of}
use Rattle.conf_parser.specs.Reading.{Ended, Whole, Refused as RefusedAt, Asks, told}
use Rattle.rule_types.specs.declared.option.Opt.{Opt}
use Rattle.rule_types.specs.declared.option.Opt.TheVariants as opt
use Rattle.rule_types.specs.declared.rule.Rule.{Rule}
use Rattle.snort_setup.specs.declared.stop.SetupStop.{SetupStop}
use Rattle.snort_setup.specs.declared.stop.SetupStop.TheVariants as stop
use Rattle.snort_setup.specs.Words.{Words}
use Rattle.snort_setup.specs.Rules.{Frame, IsRule}
use Rattle.snort_setup.specs.Setup.{Refused, Lacks as LacksName, Ready, Warned, warned, frame_of, conf_read, IsSetup, IsReading}

-- ---- refused patterns

-- the option asks the maker for this text with these flags
abbrev pub IsPattern : Refusal → Opt → Type 0
IsPattern refusal (opt.Pcre text flags relative negated) = refusal ≡ record { text = text; flags = flags }
IsPattern refusal _ = ⊥

-- a pattern of the rule is among these
abbrev pub HasPatternOf : List Refusal → Rule → Type 0
HasPatternOf grown rule =
    (refusal : Refusal) × (option : Opt) × Contains grown refusal × Contains rule.opts option × IsPattern refusal option

-- the rule line at this place, after some names of flowbits, is a rule with a pattern among these
abbrev pub IsRefusedLine : Frame → List Line → List Refusal → ℕ → Type 0
IsRefusedLine frame lines grown place =
    (line : Line) × (names : List (List ℕ)) × (rule : Rule) × (later : List (List ℕ))
    × (slice_get lines place ≡ Some line) × IsRule frame names line.text rule later × HasPatternOf grown rule

-- refused patterns: each of these lines has a pattern that the maker refused, and there are at most as many lines
-- as it refused patterns
pub record AreRefused (frame : Frame) (lines : List Line) (refused : List ℕ) (grown : List Refusal) : Type 0 where
  pub asked : All (IsRefusedLine frame lines grown) refused
  pub few : length refused ≤ length grown

-- refused patterns of a configuration whose reading ends so: one that is refused has no refused lines
abbrev pub AreRefusedBy : Words → Ended → List ℕ → List Refusal → Type 0
AreRefusedBy words (Whole read) refused grown =
    AreRefused (frame_of words.skips read.settings.vars (loaded_of read)) (loaded_of read).rules refused grown
AreRefusedBy words (RefusedAt fault output) refused grown = refused ≡ []
AreRefusedBy words (Asks name output) refused grown = refused ≡ []

-- ---- the answer

-- an answer, with the warnings told, is that of the setup; want of memory is for any
abbrev pub Gives : {A : Type 0} → (A → Ready) → Words → Files → List ℕ → Type 0 → Result A SetupStop → List (List ℕ) → Type 0
Gives view words files refused rose (Ok x) warnings = IsSetup words files refused (warned warnings (Ok (view x)))
Gives view words files refused rose (Err (stop.Refused message)) warnings =
    IsSetup words files refused (warned warnings (Err (Refused message)))
Gives view words files refused rose (Err (stop.CannotRead name)) warnings =
    IsSetup words files refused (warned warnings (Err (LacksName name))) ⊎ (rose × IsReading words files refused name warnings)
Gives view words files refused rose (Err stop.NoMemory) warnings = ⊤

-- the answer of a setup over these files, which tells these warnings, where the maker's refusals grew by these and
-- the host's count rose or did not
pub record SetsUp {A : Type 0} (view : A → Ready) (words : Words) (files : Files) (rose : Type 0) (grown : List Refusal)
    (answer : Result A SetupStop) (warnings : List (List ℕ)) : Type 0 where
  pub refused : List ℕ
  pub are_refused : AreRefusedBy words (conf_read words (told files)) refused grown
  pub gives : Gives view words files refused rose answer warnings

-- a file that is not read has its cause: a fault was counted, or told files lack the name
abbrev pub HasCause : Type 0 → Option Files → SetupStop → Type 0
HasCause rose host (stop.CannotRead name) = rose ⊎ Lacks host name
HasCause rose host stop = ⊤

-- where a setup is ready or refused, this holds; want of memory may come after a failure of the host
abbrev pub OnReadyOrRefused : {A : Type 0} → Type 0 → Result A SetupStop → Type 0
OnReadyOrRefused holds (Ok x) = holds
OnReadyOrRefused holds (Err (stop.Refused message)) = holds
OnReadyOrRefused holds (Err (stop.CannotRead name)) = ⊤
OnReadyOrRefused holds (Err stop.NoMemory) = ⊤

-- words, files and refused lines have one setup
abbrev pub HasOneSetup : Type 0
HasOneSetup = (words : Words) (files : Files) (refused : List ℕ) (a b : Warned Ready) → IsSetup words files refused a
    → IsSetup words files refused b → a ≡ b
