-- The course of a run: what its words and files say is to be done.
--
-- A run reads its words, and the configuration, the rules and the host table that they name, and then
-- either stops with a message and a status, or goes on with a plan: which capture is read, how, and by
-- which rules. The capture is that of a file, or it is made of a seed (pcap_input specs/Generated), and
-- then no file is read for it. Warnings come before either. What a run does with a capture is said by `Records`,
-- `Trace` and `Lines`. A rule line's meaning is a relation, and so a course is one, too: the words,
-- the files and the refused patterns have one course.
-- (Snort Users Manual 2.9, section 1.6, for the options; the messages are our own.)
-- To try it on: `snort -c r -r p` where `r` has one rule goes on with the capture `p` and that rule;
-- where `r` is lacking it stops with `ERROR: cannot read r` and HostFault; `snort -c r -T` stops with
-- `configuration accepted: 1 rules` and Done; `snort -c r --generate 5` goes on with the five packets of
-- the seed 1; `snort --read-unified2 u` writes a line for each record of `u`, and stops where it is lacking.
use Rattle.std.specs.Prelude.{◌≡◌, ◌<◌, ◌≤◌, ◌⊎◌, ℕ, Bool, true, false, List, [], Option, Some, None, Result, Ok, Err, ⊤}
use Rattle.std.specs.Prelude.{IsSome, length, if◌then◌else◌}
use Rattle.std.specs.Option.{option_map, option_map_or}
use Rattle.std.specs.FinMap.{get}
use Rattle.edge_io.specs.Files.{Files}
use Rattle.packet_decode.specs.declared.checks.Checks.{Checks}
use Rattle.host_table.specs.declared.host_line.HostLine.{HostLine}
use Rattle.conf_types.specs.declared.config.Config.{Config}
use Rattle.rule_types.specs.declared.rule.Rule.{Rule}
use Rattle.command_words.specs.declared.asked.ChecksumMode.{ChecksumMode}
use Rattle.command_words.specs.declared.asked.ChecksumMode.TheVariants as mode
use Rattle.command_words.specs.CommandLine.{Asked, help, version, records_of, run, Run, Defined}
use Rattle.rule_eval.specs.Hits.{Test}
use Rattle.snort_setup.specs.Words.{Words, Definition}
use Rattle.conf_parser.specs.Reading.{told}
use Rattle.edge_io.specs.declared.pattern.Refusal.{Refusal}
use Rattle.snort_setup.specs.Answers.{AreRefusedBy}
use Rattle.snort_setup.specs.Setup.{Halt, Refused, Lacks, Ready, Warned, IsSetup, IsReading, conf_read}
use Rattle.unified2_out.specs.declared.record.U2.{U2}
use Rattle.unified2_out.specs.Reading.{AreRecordsOf, IsBadAt}
use Rattle.command_words.specs.declared.asked.AlertForm.{AlertForm}
use Rattle.alert_lines.specs.RecordLines.{entry_lines}
use Rattle.snort_engine.specs.declared.status.Status.{Status}
use Rattle.snort_engine.specs.declared.status.Status.TheVariants as status
use Rattle.snort_engine.specs.Messages.{usage_text, version_text, accepted_text, command_line_text, cannot_read_text}
use Rattle.snort_engine.specs.Messages.{bad_unified2_text, too_large_text}

-- what is done with a capture: the name of its file, empty where it has none; how many records are read at
-- most; which checksums are verified; the configuration of fragments, streams and events; the table of hosts;
-- how many bytes of a stream are acknowledged at least before they are an item; the rules that are tried, and
-- the test that says which of them match; the form in which alerts are written; and whether counts are told.
-- How many lanes do the work is no part of it.
pub record Plan : Type 0 where
  pub source : List ℕ
  pub limit : Option ℕ
  pub checks : Checks
  pub config : Config
  pub hosts : List HostLine
  pub flush : ℕ
  pub rules : List Rule
  pub matches : Test
  pub form : AlertForm
  pub counted : Bool

-- a run stops with a message and a status, or goes on with a plan: for the capture in the plan's file, or
-- for the one that is made of a seed, with this many packets; or it writes the lines of a Unified2 file
pub data Way : Type 0 where
  Stops : (message : List ℕ) (ended : Status) → Way
  Goes : (plan : Plan) → Way
  Makes : (plan : Plan) (seed count : ℕ) → Way
  Lists : (lines : List ℕ) → Way

-- all warnings, each a line; and then
pub record Course : Type 0 where
  pub warnings : List (List ℕ)
  pub way : Way

-- ---- what the words say of the setup and of the capture

-- a variable that the words define
abbrev pub definition_of : Defined → Definition
definition_of defined = record { name = defined.name; value = defined.value }

-- what is read before the capture
abbrev pub setup_words : Run → Words
setup_words wanted = record {
  conf = wanted.conf;
  definition = option_map definition_of wanted.defined;
  host_table = wanted.host_table;
  skips = wanted.skip_refused;
}

-- the checksums of a mode: all of them, none, or all but one kind (Snort Users Manual 2.9, section 1.6, `-k`)
abbrev pub checks_of : ChecksumMode → Checks
checks_of mode.All = record { ip = true; tcp = true; udp = true; icmp = true }
checks_of mode.Nothing = record { ip = false; tcp = false; udp = false; icmp = false }
checks_of mode.NoIp = record { ip = false; tcp = true; udp = true; icmp = true }
checks_of mode.NoTcp = record { ip = true; tcp = false; udp = true; icmp = true }
checks_of mode.NoUdp = record { ip = true; tcp = true; udp = false; icmp = true }
checks_of mode.NoIcmp = record { ip = true; tcp = true; udp = true; icmp = false }

-- the plan for a capture of this name: `-k` takes the place of the configuration's mode
abbrev pub plan_for : Test → Run → Ready → List ℕ → Plan
plan_for matches wanted ready source = record {
  source = source;
  limit = wanted.limit;
  checks = option_map_or checks_of wanted.checks ready.config.checks;
  config = ready.config;
  hosts = ready.hosts;
  flush = wanted.flush_point;
  rules = ready.rules;
  matches = matches;
  form = wanted.form;
  counted = wanted.stats;
}

-- ---- the course

-- no file is read
abbrev pub stopping : List ℕ → Status → Course
stopping message ended = record { warnings = []; way = Stops message ended }

-- the way of a detector that is ready, by `--generate` and `-r`: a seed says something only of a capture
-- that is made
abbrev pub way_ready : Test → Run → Ready → Option ℕ → Option (List ℕ) → Way
way_ready matches wanted ready (Some count) capture = Makes (plan_for matches wanted ready []) wanted.seed count
way_ready matches wanted ready None (Some source) = Goes (plan_for matches wanted ready source)
way_ready matches wanted ready None None = Stops command_line_text status.Refused

-- the way that a setup gives: under `-T` nothing is left to do
abbrev pub way_of : Test → Run → Result Ready Halt → Way
way_of matches wanted (Ok ready) =
    if wanted.test
    then Stops (accepted_text (length ready.rules)) status.Done
    else way_ready matches wanted ready wanted.generate wanted.capture
way_of matches wanted (Err (Refused message)) = Stops message status.Refused
way_of matches wanted (Err (Lacks name)) = Stops (cannot_read_text name) status.HostFault

-- the warnings that are told: under `-q` none
abbrev pub told_warnings : Run → List (List ℕ) → List (List ℕ)
told_warnings wanted warnings = if wanted.quiet then [] else warnings

-- the course that a setup gives
abbrev pub course_by : Test → Run → Warned Ready → Course
course_by matches wanted setup =
    record { warnings = told_warnings wanted setup.warnings; way = way_of matches wanted setup.outcome }

-- what a course goes by beside the words: the files; the test that says which rules match an item; and
-- the places of the rule lines whose patterns the maker refused, among all rule lines in reading order
pub record Given : Type 0 where
  pub files : Files
  pub matches : Test
  pub refused : List ℕ

abbrev pub given : Files → Test → List ℕ → Given
given files matches refused = record { files = files; matches = matches; refused = refused }

-- the course of a run that the words ask for
abbrev pub IsRunCourse : Run → Given → Course → Type 0
IsRunCourse wanted given course =
    (setup : Warned Ready) × IsSetup (setup_words wanted) given.files given.refused setup
    × (course ≡ course_by given.matches wanted setup)

-- bytes of a Unified2 file that are records give a line for each
pub record AreListed (bytes : List ℕ) (way : Way) : Type 0 where
  pub entries : List U2
  pub are : AreRecordsOf bytes entries
  pub is : way ≡ Lists (entry_lines entries)

-- bytes of a Unified2 file that are no records are bad after the longest list of records that they begin with
pub record AreBad (bytes : List ℕ) (way : Way) : Type 0 where
  pub place : ℕ
  pub bad : IsBadAt bytes place
  pub is : way ≡ Stops (bad_unified2_text place) status.BadCapture

-- the most bytes of a Unified2 file
abbrev pub most_file_bytes : ℕ
most_file_bytes = 16777216

-- the way of a Unified2 file of this name with these contents, if it has any
abbrev pub IsFileWay : List ℕ → Option (List ℕ) → Way → Type 0
IsFileWay name None way = way ≡ Stops (cannot_read_text name) status.HostFault
IsFileWay name (Some bytes) way =
    ((most_file_bytes < length bytes) × (way ≡ Stops (too_large_text name) status.Refused))
    ⊎ ((length bytes ≤ most_file_bytes) × (AreListed bytes way ⊎ AreBad bytes way))

-- the course of a Unified2 file
pub record IsFileCourse (name : List ℕ) (given : Given) (course : Course) : Type 0 where
  pub unwarned : course.warnings ≡ []
  pub way : IsFileWay name (get given.files name) course.way

-- the course of words that may be a command
unfoldable pub IsCourse : Option Asked → Given → Course → Type 0
IsCourse None given course = course ≡ stopping command_line_text status.Refused
IsCourse (Some help) given course = course ≡ stopping usage_text status.Done
IsCourse (Some version) given course = course ≡ stopping version_text status.Done
IsCourse (Some (records_of file)) given course = IsFileCourse file given course
IsCourse (Some (run wanted)) given course = IsRunCourse wanted given course

-- words that read no file: those that ask for the usage or the version, and those that are no command
abbrev pub IsFileless : Option Asked → Type 0
IsFileless None = ⊤
IsFileless (Some help) = ⊤
IsFileless (Some version) = ⊤
IsFileless (Some (records_of file)) = ⊥
IsFileless (Some (run wanted)) = ⊥

-- the words ask for a capture that is made
abbrev pub IsForMade : Option Asked → Type 0
IsForMade (Some (run wanted)) = IsSome wanted.generate
IsForMade asked = ⊥

-- the law of courses: words, files, a test and refused lines have at most one
abbrev pub HasOneCourse : Type 0
HasOneCourse = (asked : Option Asked) (here : Given) (a b : Course) → IsCourse asked here a → IsCourse asked here b → a ≡ b

-- ---- its readings

-- one of the files that are read before the capture, or in place of one, and the warnings that come before it
unfoldable pub Reads : Option Asked → Given → List ℕ → List (List ℕ) → Type 0
Reads (Some (run wanted)) given name warnings =
    (earlier : List (List ℕ)) × IsReading (setup_words wanted) given.files given.refused name earlier
    × (warnings ≡ told_warnings wanted earlier)
Reads (Some (records_of file)) given name warnings = (name ≡ file) × (warnings ≡ [])
Reads asked given name warnings = ⊥

-- ---- refused patterns

-- refused patterns: each of these rule lines has a pattern that the maker refused, and there are at most as many
-- lines as it refused patterns; words that read no rules have none
unfoldable pub AreRefused : Option Asked → Files → List ℕ → List Refusal → Type 0
AreRefused (Some (run wanted)) files refused grown =
    AreRefusedBy (setup_words wanted) (conf_read (setup_words wanted) (told files)) refused grown
AreRefused asked files refused grown = refused ≡ []
