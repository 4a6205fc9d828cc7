-- The command as clap has it, and what clap makes of words.
--
-- Each option has the action `Set` and each flag `SetTrue`; clap's own help and version are off. The matches are
-- clap's own function of a command and words; the plain reading of `specs/Uses.antt` equals it. Each flag has a
-- row, even one that no word uses: clap says of each row whether the words gave it.
use Rattle.std.specs.Prelude.{ℕ, ◌&&◌, Bool, true, false, not, List, [], ◌∷◌, map, Option, Some, None, codes, find, fold, is_some, option_and_then, slice_get}
use Rattle.std.specs.List.{list_any}
use Rattle.std.specs.Str.{bytes_eq}
use Rattle.clap.specs.Walk.{Rule, Row, Text}
use Rattle.clap.specs.Simple.{App, Shape, matches_of, new_app, new_rule, on_top, with_rule}
use Rattle.clap.specs.Faults.{fault_of}
use Rattle.clap.specs.Kinds.{Kinds}
use Rattle.clap.specs.declared.builder.action.ArgAction.{ArgAction}
use Rattle.clap.specs.declared.builder.action.ArgAction.TheVariants.{Set, SetTrue}
use Rattle.clap.specs.declared.parser.matches.ValueSource.{ValueSource}
use Rattle.clap.specs.declared.parser.matches.ValueSource.TheVariants.{CommandLine, DefaultValue}
use Rattle.command_words.specs.declared.syntax.CommandArg.{CommandArg}
use Rattle.command_words.specs.declared.syntax.CommandArg.TheVariants as kept
use Rattle.command_words.specs.CommandLine.{Asked, asked_by, may_be_beside}
use Rattle.command_words.specs.Table.{Choice, Label, letter, name, table, text_of}

abbrev pub name_of : Label → Option Text
name_of (letter x) = None
name_of (name text) = Some text

abbrev pub letter_of : Label → Option ℕ
letter_of (letter x) = Some x
letter_of (name text) = None

abbrev pub action_for : Bool → ArgAction
action_for true = Set
action_for false = SetTrue

-- an option or flag of the table, as an argument of the command
abbrev pub rule_for : Choice → Rule
rule_for choice = record (new_rule (text_of choice.label)) {
  long = name_of choice.label;
  short = letter_of choice.label;
  action = Some (action_for choice.takes_value);
}

-- an option or flag as the code has it
abbrev pub rule_as : CommandArg → Rule
rule_as (kept.LetterOption id x) = record (new_rule id.now) { short = Some x; action = Some Set }
rule_as (kept.NameOption id) = record (new_rule id.now) { long = Some id.now; action = Some Set }
rule_as (kept.LetterFlag id x) = record (new_rule id.now) { short = Some x; action = Some SetTrue }
rule_as (kept.NameFlag id) = record (new_rule id.now) { long = Some id.now; action = Some SetTrue }

-- the command with more of them
abbrev pub app_with : App → List CommandArg → App
app_with app choices = fold (λ so_far choice. with_rule so_far (rule_as choice)) app choices

abbrev pub plain_shape : Shape → Shape
plain_shape s = record s { disable_help_flag = true; disable_version_flag = true }

abbrev pub snort_with : List Choice → App
snort_with choices = fold (λ app choice. with_rule app (rule_for choice)) (on_top plain_shape (new_app (codes "snort"))) choices

unfoldable pub snort : App
snort = snort_with table

-- a value, where no kind of error comes before it
abbrev pub where_none : {X : Type 0} → Kinds → X → Option X
where_none [] value = Some value
where_none (kind ∷ kinds) value = None

-- the matches of the words
unfoldable pub clap_rows : List Text → Option (List Row)
clap_rows words = where_none (fault_of snort words) (matches_of snort words)

-- ---- what the rows say of the words

-- a text that the words gave
abbrev pub if_given : Option ValueSource → Option Text → Option Text
if_given None text = None
if_given (Some DefaultValue) text = None
if_given (Some CommandLine) text = text

abbrev pub given_text : Row → Option Text
given_text row = if_given row.source (slice_get row.values 0)

-- the text that the words gave under this letter or name
abbrev pub given_in : List Row → Text → Option Text
given_in rows label = option_and_then given_text (find (λ row. bytes_eq row.id label) rows)

-- the words gave one of these, and it may not be given beside `--read-unified2`
abbrev pub others_among : List Row → List Text → Bool
others_among rows labels = list_any (λ label. not (may_be_beside label) && is_some (given_in rows label)) labels

abbrev pub others_in : List Row → Bool
others_in rows = others_among rows (map (λ row. row.id) rows)

-- what the rows ask for
abbrev pub asked_in : List Row → Option Asked
asked_in rows = asked_by (given_in rows) (others_in rows)
