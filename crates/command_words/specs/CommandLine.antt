-- What a command asks for, by its words.
--
-- The first word is the program's name. The values of the options are read in their forms and ranges, and
-- then the first of these that holds decides: `--help`; `-V`; `--read-unified2`, which is refused beside any
-- other option or flag; no `-c`; an `-S` that is not a name, `=` and at least one byte; `-r` beside
-- `--generate`; neither of them, without `-T`.
-- (Snort Users Manual 2.9, section 1.6, for `-c -r -A -k -n -S -q -U -T -V`; the rest is our own.)
-- To try it on: `snort -c a.conf -r b.pcap -n 5` is a run with the limit 5; `snort -c a.conf` is refused;
-- `snort --lanes 65 --help` is refused; `snort -V --help` asks for help; `snort --read-unified2 u` asks for the
-- records of `u`, and `snort -q --read-unified2 u` is refused.
use Rattle.std.specs.Prelude.{ℕ, ◌==◌, ◌&&◌, ◌||◌, Bool, true, not, List, Option, Some, None, drop, length, is_some, codes, if◌then◌else◌, option_map}
use Rattle.std.specs.List.{list_any}
use Rattle.std.specs.Str.{bytes_eq}
use Rattle.edge_io.specs.OnOption.{◌>>=◌}
use Rattle.net_lists.specs.Addresses.{cut}
use Rattle.net_lists.specs.Numbers.{number_in}
use Rattle.net_lists.specs.Variables.{is_name}
use Rattle.command_words.specs.Table.{table}
use Rattle.command_words.specs.Uses.{Use, uses_of, value_in}
use Rattle.command_words.specs.declared.asked.ChecksumMode.{ChecksumMode}
use Rattle.command_words.specs.declared.asked.ChecksumMode.TheVariants as mode
use Rattle.command_words.specs.declared.asked.AlertForm.{AlertForm}
use Rattle.command_words.specs.declared.asked.AlertForm.TheVariants as form
use Rattle.command_words.specs.declared.values.CheckedValues.{CheckedValues}

-- a variable's name and its value
pub record Defined : Type 0 where
  pub name : List ℕ
  pub value : List ℕ

-- a run that the words ask for
pub record Run : Type 0 where
  pub conf : List ℕ
  pub capture : Option (List ℕ)
  pub checks : Option ChecksumMode
  pub limit : Option ℕ
  pub defined : Option Defined
  pub host_table : Option (List ℕ)
  pub lanes : ℕ
  pub flush_point : ℕ
  pub generate : Option ℕ
  pub seed : ℕ
  pub quiet : Bool
  pub test : Bool
  pub skip_refused : Bool
  pub stats : Bool
  pub form : AlertForm

-- what the words ask for
pub data Asked : Type 0 where
  help : Asked
  version : Asked
  -- the records of the Unified2 file of this name
  records_of : List ℕ → Asked
  run : Run → Asked

-- ---- the values

-- a value that may be missing, read by `read`
abbrev pub maybe : {X : Type 0} → (List ℕ → Option X) → Option (List ℕ) → Option (Option X)
maybe read None = Some None
maybe read (Some text) = option_map Some (read text)

-- a number in a range that may be missing, and what stands for it then
abbrev pub number_or : ℕ → ℕ → ℕ → Option (List ℕ) → Option ℕ
number_or missing least most None = Some missing
number_or missing least most (Some text) = number_in least most text

-- the values of `-k`
abbrev pub mode_named : List ℕ → Option ChecksumMode
mode_named text =
    if bytes_eq text (codes "all") then Some mode.All
    else if bytes_eq text (codes "none") then Some mode.Nothing
    else if bytes_eq text (codes "noip") then Some mode.NoIp
    else if bytes_eq text (codes "notcp") then Some mode.NoTcp
    else if bytes_eq text (codes "noudp") then Some mode.NoUdp
    else if bytes_eq text (codes "noicmp") then Some mode.NoIcmp
    else None

-- `-A` is missing, or `console`
abbrev pub is_console : Option (List ℕ) → Bool
is_console None = true
is_console (Some text) = bytes_eq text (codes "console")

-- the values after `-A`, by the text that each option has
abbrev pub values_after : (List ℕ → Option (List ℕ)) → Option CheckedValues
values_after text_of =
    maybe mode_named (text_of (codes "k")) >>= λ checks.
    maybe (number_in 1 4294967295) (text_of (codes "n")) >>= λ limit.
    number_or 1 1 64 (text_of (codes "lanes")) >>= λ lanes.
    number_or 1024 1 65536 (text_of (codes "flush-point")) >>= λ flush_point.
    maybe (number_in 1 100000) (text_of (codes "generate")) >>= λ generate.
    option_map (λ seed. record {
      checks = checks;
      limit = limit;
      lanes = lanes;
      flush_point = flush_point;
      generate = generate;
      seed = seed;
    }) (number_or 1 0 2147483647 (text_of (codes "seed")))

-- the values that have a form of their own, by the text that each option has
unfoldable pub values_by : (List ℕ → Option (List ℕ)) → Option CheckedValues
values_by text_of = if is_console (text_of (codes "A")) then values_after text_of else None

-- ---- the steps after the reading

-- a variable's name, and a value of at least one byte
abbrev pub named : List ℕ → List ℕ → Option Defined
named name value = if is_name name && not (length value == 0) then Some (record { name = name; value = value }) else None

-- a name, `=` (61) and a value; the first `=` ends the name
abbrev pub definition : List ℕ → Option Defined
definition text = cut 61 text >>= λ parts. named parts.0 parts.1

-- the form of alerts: lines, or Unified2 records under `--unified2`
abbrev pub form_of : Bool → AlertForm
form_of unified2 = if unified2 then form.Unified2 else form.Lines

-- the run with this configuration and this variable
abbrev pub run_with : (List ℕ → Option (List ℕ)) → CheckedValues → Option Defined → List ℕ → Run
run_with text_of values defined conf = record {
  conf = conf;
  capture = text_of (codes "r");
  checks = values.checks;
  limit = values.limit;
  defined = defined;
  host_table = text_of (codes "host-table");
  lanes = values.lanes;
  flush_point = values.flush_point;
  generate = values.generate;
  seed = values.seed;
  quiet = is_some (text_of (codes "q"));
  test = is_some (text_of (codes "T"));
  skip_refused = is_some (text_of (codes "skip-refused"));
  stats = is_some (text_of (codes "stats")) || is_some values.generate;
  form = form_of (is_some (text_of (codes "unified2")));
}

-- the capture comes from one place, or there is none and the configuration is tested
abbrev pub has_its_capture : Run → Bool
has_its_capture wanted =
    if is_some wanted.capture then not (is_some wanted.generate) else is_some wanted.generate || wanted.test

abbrev pub with_its_capture : Run → Option Asked
with_its_capture wanted = if has_its_capture wanted then Some (run wanted) else None

-- a run: `-S` defines a variable, if it is there; `-c` is there, and the capture
abbrev pub run_by : (List ℕ → Option (List ℕ)) → CheckedValues → Option Asked
run_by text_of values =
    maybe definition (text_of (codes "S")) >>= λ defined.
    text_of (codes "c") >>= λ conf.
    with_its_capture (run_with text_of values defined conf)

-- the records of a Unified2 file, if nothing else is there
abbrev pub if_alone : Bool → List ℕ → Option Asked
if_alone others file = if others then None else Some (records_of file)

-- the records of a Unified2 file, or a run
abbrev pub asked_of : (List ℕ → Option (List ℕ)) → Bool → CheckedValues → Option (List ℕ) → Option Asked
asked_of text_of others values None = run_by text_of values
asked_of text_of others values (Some file) = if_alone others file

-- the first step that holds
abbrev pub first_asked : (List ℕ → Option (List ℕ)) → Bool → CheckedValues → Option Asked
first_asked text_of others values =
    if is_some (text_of (codes "help")) then Some help
    else if is_some (text_of (codes "V")) then Some version
    else asked_of text_of others values (text_of (codes "read-unified2"))

-- what is asked for, by the text that each option and flag has, and whether any use is one that may not be given
-- beside `--read-unified2`
unfoldable pub asked_by : (List ℕ → Option (List ℕ)) → Bool → Option Asked
asked_by text_of others = values_by text_of >>= first_asked text_of others

-- ---- the command

-- what may be given beside `--read-unified2`
abbrev pub may_be_beside : List ℕ → Bool
may_be_beside label =
    bytes_eq label (codes "read-unified2") || (bytes_eq label (codes "help") || bytes_eq label (codes "V"))

-- anything else is used
abbrev pub has_others : List Use → Bool
has_others uses = list_any (λ use_here. not (may_be_beside use_here.label)) uses

-- what the words of a command ask for, the program's name among them
unfoldable pub command_line : List (List ℕ) → Option Asked
command_line words = uses_of table (drop 1 words) >>= λ uses. asked_by (value_in uses) (has_others uses)
