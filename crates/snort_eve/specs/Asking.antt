-- What the words of the command ask for.
--
-- Words are read as clap reads them (specs/Command). Without a name of a file, and where it is `-`, standard input is read,
-- by the name that the system has for it.
-- A configuration is read with the variable that `-S` defines, and what `--skip-refused` would skip is skipped.
-- To try it on: `--host a --community-id-seed 7 f -` asks for the files `f` and `/dev/stdin`, the host `a` and the seed 7;
-- `--community-id-seed 65536`, `-S A`, `--lines` without a year or a capture, and with both, ask for nothing, and are refused.
use Rattle.std.specs.Prelude.{ℕ, ⊤, Bool, true, not, if◌then◌else◌, List, [], ◌∷◌, map, Option, Some, None, bytes_eq, codes, find, is_some, option_map, option_and_then, slice_get}
use Rattle.std.specs.List.{list_any}
use Rattle.std.specs.Borrow.{Bor}
use Rattle.clap.specs.Walk.{Row, Text, all_of}
use Rattle.clap.specs.declared.parser.matches.ValueSource.{ValueSource}
use Rattle.clap.specs.declared.parser.matches.ValueSource.TheVariants.{CommandLine, DefaultValue}
use Rattle.net_lists.specs.Numbers.{number_in}
use Rattle.alert_json.specs.Facts.{RunFacts, run_facts}
use Rattle.command_words.specs.CommandLine.{Defined, definition, maybe}
use Rattle.snort_setup.specs.Words.{Definition, HasName, Words}
use Rattle.snort_eve.specs.Command.{clap_rows}
use Rattle.snort_eve.specs.declared.words.Conf.{Conf as KeptConf}
use Rattle.snort_eve.specs.declared.words.Variable.{Variable as KeptVariable}
use Rattle.snort_eve.specs.declared.words.Request.{Request}
use Rattle.snort_eve.specs.declared.words.Request.TheVariants as kept
use Rattle.snort_eve.specs.declared.words.Since.{Since as KeptSince}
use Rattle.snort_eve.specs.declared.words.Since.TheVariants as kept_since
use Rattle.snort_eve.specs.declared.words.Conversion.{Conversion}

-- what the year of a file's first line follows from: it is given, or a capture of this name has it
pub data Since : Type 0 where
  in_year : ℕ → Since
  of_capture : List ℕ → Since

-- what all records have alike; the configuration that has the texts, if there is one; what the year of a file's first line
-- follows from, where files are alert lines and not records; and the names of the files, in their order
pub record Wanted : Type 0 where
  pub run : RunFacts
  pub conf : Option Words
  pub since : Option Since
  pub files : List (List ℕ)

-- the usage, or lines
pub data Asked : Type 0 where
  help : Asked
  lines : Wanted → Asked

-- ---- what the rows say of the words

-- a text that the words gave
abbrev pub if_given : Option ValueSource → Option Text → Option Text
if_given None text = None
if_given (Some DefaultValue) text = None
if_given (Some CommandLine) text = text

abbrev pub given_text : Row → Option Text
given_text row = if_given row.source (slice_get row.values 0)

-- the text that the words gave an option or a flag; a flag's is `true`
abbrev pub given_in : List Row → Text → Option Text
given_in rows id = option_and_then given_text (find (λ row. bytes_eq row.id id) rows)

-- ---- what is asked for

-- the name of standard input
abbrev pub input_name : List ℕ
input_name = codes "/dev/stdin"

abbrev pub file_of : List ℕ → List ℕ
file_of name = if bytes_eq name (codes "-") then input_name else name

abbrev pub files_of : Option (List (List ℕ)) → List (List ℕ)
files_of None = input_name ∷ []
files_of (Some names) = map file_of names

-- the seed that a value spells; 0 without one
abbrev pub seed_of : Option (List ℕ) → Option ℕ
seed_of None = Some 0
seed_of (Some value) = number_in 0 65535 value

-- what is defined, as a configuration takes it
abbrev pub definition_of : Defined → Definition
definition_of defined = record { name = defined.name; value = defined.value }

-- the configuration of this name, with this variable
abbrev pub conf_with : Option Defined → List ℕ → Words
conf_with defined name = record { conf = name; definition = option_map definition_of defined; host_table = None; skips = true }

-- a year or a capture, and not both
abbrev pub since_by : Option ℕ → Option (List ℕ) → Option (Option Since)
since_by None None = Some None
since_by (Some year) None = Some (Some (in_year year))
since_by None (Some name) = Some (Some (of_capture (file_of name)))
since_by (Some year) (Some name) = None

-- alert lines need a year or a capture, and aren't records; without alert lines neither is asked for
abbrev pub needed_by : Bool → Bool → Option Since → Option (Option Since)
needed_by is_lines is_records since = if is_lines then (if is_records then None else option_map Some since) else Some None

-- in 2554 and later moments don't have 64 bits
abbrev pub since_in : List Row → Option (Option Since)
since_in rows =
    option_and_then (needed_by (is_some (given_in rows (codes "lines"))) (is_some (given_in rows (codes "unified2"))))
    (option_and_then (λ year. since_by year (given_in rows (codes "capture")))
    (maybe (number_in 1970 2553) (given_in rows (codes "year"))))

-- a capture is none of the files
abbrev pub is_apart : Option Since → List (List ℕ) → Bool
is_apart None files = true
is_apart (Some (in_year year)) files = true
is_apart (Some (of_capture name)) files = not (list_any (λ file. bytes_eq file name) files)

abbrev pub wanted_in : List Row → ℕ → Option Defined → Option Since → Wanted
wanted_in rows seed defined since = record {
  conf = option_map (conf_with defined) (given_in rows (codes "c"));
  since = since;
  run = record { seed = seed; host = given_in rows (codes "host"); pcap_filename = given_in rows (codes "pcap-filename") };
  files = files_of (all_of (codes "FILE") rows);
}

abbrev pub if_apart : Wanted → Option Asked
if_apart wanted = if is_apart wanted.since wanted.files then Some (lines wanted) else None

-- what the rows ask for
abbrev pub asked_in : List Row → Option Asked
asked_in rows =
    if is_some (given_in rows (codes "help")) then Some help
    else option_and_then (λ seed. option_and_then (λ defined.
    option_and_then (λ since. if_apart (wanted_in rows seed defined since)) (since_in rows))
    (maybe definition (given_in rows (codes "S")))) (seed_of (given_in rows (codes "community-id-seed")))

-- what the words ask for, the program's name among them; None where they are no command line
abbrev pub asked_of : List (List ℕ) → Option Asked
asked_of words = option_and_then asked_in (clap_rows words)

-- ---- the same of words that are lent

abbrev pub defined_facts : KeptVariable → Defined
defined_facts defined = record { name = defined.name.now; value = defined.value.now }

abbrev pub conf_facts : KeptConf → Words
conf_facts conf = conf_with (option_map defined_facts conf.defined) conf.name.now

abbrev pub since_facts : KeptSince → Since
since_facts (kept_since.Year year) = in_year year
since_facts (kept_since.Capture name) = of_capture name.now

abbrev pub wanted_facts : Conversion → Wanted
wanted_facts wanted = record {
  run = run_facts wanted.run;
  conf = option_map conf_facts wanted.conf;
  since = option_map since_facts wanted.since;
  files = map (λ (name : Bor (List ℕ)). name.now) wanted.files.items;
}

abbrev pub asked_facts : Request → Asked
asked_facts kept.Help = help
asked_facts (kept.Lines wanted) = lines (wanted_facts wanted)

-- the variable of a configuration that is asked for, if it defines one, has a name
abbrev pub IsNamed : Option Words → Type 0
IsNamed None = ⊤
IsNamed (Some words) = HasName words.definition

abbrev pub AskNamed : Option Asked → Type 0
AskNamed None = ⊤
AskNamed (Some help) = ⊤
AskNamed (Some (lines wanted)) = IsNamed wanted.conf
