-- The command as clap has it, and what clap makes of its words.
--
-- An option takes a value, and is used once at most; a word that no option takes is the name of a file. What clap makes of
-- words is its own function of a command and words (clap specs/Simple, specs/Faults), with clap's help and version off.
-- To try it on: of `--host a f --community-id-seed=7 g` the rows have the host `a`, the seed `7` and the files `f` and `g`.
use Rattle.std.specs.Prelude.{ℕ, List, [], ◌∷◌, Option, Some, None, codes, fold, true}
use Rattle.clap.specs.Walk.{Rule, Row, Text}
use Rattle.clap.specs.Simple.{App, Shape, matches_of, new_app, new_rule, on_top, with_rule}
use Rattle.clap.specs.Faults.{fault_of}
use Rattle.clap.specs.Kinds.{Kinds}
use Rattle.clap.specs.declared.builder.action.ArgAction.TheVariants.{Append, Set, SetTrue}
use Rattle.snort_eve.specs.declared.syntax.EveArg.{EveArg}
use Rattle.snort_eve.specs.declared.syntax.EveArg.TheVariants as choice

-- an option with a letter, one with a name, a flag with a name, and the names of files
abbrev pub letter_rule : Text → ℕ → Rule
letter_rule id letter = record (new_rule id) { short = Some letter; action = Some Set }

abbrev pub option_rule : Text → Rule
option_rule name = record (new_rule name) { long = Some name; action = Some Set }

abbrev pub flag_rule : Text → Rule
flag_rule name = record (new_rule name) { long = Some name; action = Some SetTrue }

abbrev pub names_rule : Text → Rule
names_rule id = record (new_rule id) { action = Some Append }

-- one of these as the code has it
abbrev pub rule_as : EveArg → Rule
rule_as (choice.LetterOption id letter) = letter_rule id.now letter
rule_as (choice.NameOption name) = option_rule name.now
rule_as (choice.NameFlag name) = flag_rule name.now
rule_as (choice.Names id) = names_rule id.now

-- the command with more of them
abbrev pub app_with : App → List EveArg → App
app_with app choices = fold (λ so_far choice. with_rule so_far (rule_as choice)) app choices

abbrev pub plain_shape : Shape → Shape
plain_shape s = record s { disable_help_flag = true; disable_version_flag = true }

-- what words may use
abbrev pub known : List Rule
known =
    letter_rule (codes "c") 99
    ∷ letter_rule (codes "S") 83
    ∷ option_rule (codes "year")
    ∷ option_rule (codes "capture")
    ∷ flag_rule (codes "lines")
    ∷ flag_rule (codes "unified2")
    ∷ option_rule (codes "host")
    ∷ option_rule (codes "pcap-filename")
    ∷ option_rule (codes "community-id-seed")
    ∷ flag_rule (codes "help")
    ∷ names_rule (codes "FILE")
    ∷ []

unfoldable pub eve_command : App
eve_command = fold (λ app rule. with_rule app rule) (on_top plain_shape (new_app (codes "snort_eve"))) known

-- a value, where no kind of error comes before it
abbrev pub where_none : {X : Type 0} → Kinds → X → Option X
where_none [] value = Some value
where_none (kind ∷ kinds) value = None

-- the matches of the words
unfoldable pub clap_rows : List Text → Option (List Row)
clap_rows words = where_none (fault_of eve_command words) (matches_of eve_command words)
