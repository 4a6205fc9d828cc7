-- The names of directives, as tables. (Snort Users Manual 2.9, chapter 2; which ones lie outside this profile,
-- and which are skipped, is our own.)
--
-- To try it on: `alert` begins a rule line, `output` a line that is skipped, `threshold` one that is refused,
-- and `fetch` is no directive.
use Rattle.std.specs.Prelude.{ℕ, ◌||◌, Bool, Option, Some, None, List, codes, if◌then◌else◌}
use Rattle.conf_parser.specs.declared.name.Directive.{Directive}
use Rattle.conf_parser.specs.declared.name.Directive.TheVariants as directive
use Rattle.conf_parser.specs.declared.name.ConfigName.{ConfigName}
use Rattle.conf_parser.specs.declared.name.ConfigName.TheVariants as config
use Rattle.conf_parser.specs.declared.name.PreprocessorName.{PreprocessorName}
use Rattle.conf_parser.specs.declared.name.PreprocessorName.TheVariants as preprocessor
use Rattle.conf_parser.specs.Values.{is_word}

-- the actions of rules
unfoldable pub is_action : List ℕ → Bool
is_action word =
    is_word word (codes "alert") || is_word word (codes "pass") || is_word word (codes "log") || is_word word (codes "activate")
    || is_word word (codes "dynamic") || is_word word (codes "drop") || is_word word (codes "reject")
    || is_word word (codes "sdrop")

-- directives that are skipped with a warning
unfoldable pub is_skipped : List ℕ → Bool
is_skipped word =
    is_word word (codes "output") || is_word word (codes "dynamicpreprocessor")
    || is_word word (codes "dynamicengine") || is_word word (codes "dynamicdetection")

-- directives outside this profile
unfoldable pub is_outside : List ℕ → Bool
is_outside word =
    is_word word (codes "attribute_table") || is_word word (codes "rate_filter") || is_word word (codes "threshold")
    || is_word word (codes "ruletype") || is_word word (codes "rule_state")

-- the directive that a first word names
unfoldable pub directive_named : List ℕ → Option Directive
directive_named word =
    if is_action word then Some directive.Rule
    else if is_word word (codes "var") then Some directive.Var
    else if is_word word (codes "ipvar") then Some directive.IpVar
    else if is_word word (codes "portvar") then Some directive.PortVar
    else if is_word word (codes "include") then Some directive.Include
    else if is_word word (codes "config") then Some directive.Config
    else if is_word word (codes "preprocessor") then Some directive.Preprocessor
    else if is_word word (codes "event_filter") then Some directive.EventFilter
    else if is_word word (codes "suppress") then Some directive.Suppress
    else if is_skipped word then Some directive.Skipped
    else if is_outside word then Some directive.Outside
    else None

-- `config` lines that are read and change nothing
unfoldable pub is_unread_config : List ℕ → Bool
is_unread_config name =
    is_word name (codes "reference") || is_word name (codes "pcre_match_limit")
    || is_word name (codes "pcre_match_limit_recursion")

-- the `config` lines; any other name is skipped with a warning
unfoldable pub config_name : List ℕ → Option ConfigName
config_name name =
    if is_word name (codes "classification") then Some config.Classification
    else if is_word name (codes "checksum_mode") then Some config.ChecksumMode
    else if is_word name (codes "event_queue") then Some config.EventQueue
    else if is_word name (codes "detection") then Some config.Detection
    else if is_unread_config name then Some config.Unread
    else None

-- the `preprocessor` lines; any other name is skipped with a warning
unfoldable pub preprocessor_name : List ℕ → Option PreprocessorName
preprocessor_name name =
    if is_word name (codes "frag3_global") then Some preprocessor.FragGlobal
    else if is_word name (codes "frag3_engine") then Some preprocessor.FragEngine
    else if is_word name (codes "stream5_global") then Some preprocessor.StreamGlobal
    else if is_word name (codes "stream5_tcp") then Some preprocessor.StreamTcp
    else if is_word name (codes "stream5_udp") then Some preprocessor.StreamUdp
    else if is_word name (codes "stream5_icmp") then Some preprocessor.Outside
    else None
