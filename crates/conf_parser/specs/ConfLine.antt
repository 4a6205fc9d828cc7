-- What one line of a configuration means: from what comes before it to what comes after it, with a rule
-- line, an include or a warning where the line is one; or the kind of its fault.
--
-- The line is one joined line without the blanks at its ends, and neither empty nor a comment. Its first word
-- is the directive, and each directive has a definition of its own in the module of its family.
-- (Snort Users Manual 2.9, chapter 2.)
-- To try it on: `config checksum_mode: none` after nothing checks no checksum any more; `output x: y` is
-- skipped with a warning of `output` and `x`; `fetch me` is no directive.
use Rattle.std.specs.Prelude.{ℕ, Bool, false, Option, Some, None, Result, Ok, Err, List, [], ◌∷◌}
use Rattle.net_lists.specs.Cutting.{first_word, after_word}
use Rattle.net_lists.specs.Variables.{Variables}
use Rattle.conf_parser.specs.declared.draft.Draft.{Draft}
use Rattle.conf_parser.specs.declared.draft.Settings.{Settings}
use Rattle.conf_parser.specs.declared.given.LineResult.{LineResult}
use Rattle.conf_parser.specs.declared.given.LineResult.TheVariants.{Nothing, Rule, Skipped, Include}
use Rattle.conf_parser.specs.declared.given.Onward.{Onward}
use Rattle.conf_parser.specs.declared.name.Directive.{Directive}
use Rattle.conf_parser.specs.declared.name.Directive.TheVariants as directive
use Rattle.conf_parser.specs.declared.name.ConfigName.{ConfigName}
use Rattle.conf_parser.specs.declared.name.ConfigName.TheVariants as config
use Rattle.conf_parser.specs.declared.name.PreprocessorName.{PreprocessorName}
use Rattle.conf_parser.specs.declared.name.PreprocessorName.TheVariants as preprocessor
use Rattle.conf_parser.specs.declared.variables.ValueForm.{ValueForm}
use Rattle.conf_parser.specs.declared.variables.ValueForm.TheVariants as form
use Rattle.conf_parser.specs.declared.line.ConfKind.{ConfKind}
use Rattle.conf_parser.specs.declared.line.ConfKind.TheVariants.{UnknownDirective, BadValue, OutsideProfile}
use Rattle.conf_parser.specs.Values.{◌>>=◌, or_kind, mapped, name_of, after_name, after_colon}
use Rattle.conf_parser.specs.Spots.{Spot}
use Rattle.conf_parser.specs.Names.{directive_named, config_name, preprocessor_name}
use Rattle.conf_parser.specs.Variables.{definition, include}
use Rattle.conf_parser.specs.Config.{classification, checksum_mode, event_queue, detection}
use Rattle.conf_parser.specs.Frag3.{frag3_global, frag3_engine}
use Rattle.conf_parser.specs.Stream5.{stream5_global, stream5_tcp, stream5_udp}
use Rattle.conf_parser.specs.Events.{event_filter, suppress}

-- these settings, and nothing handed on
abbrev pub silent : Settings → Onward
silent settings = record { settings = settings; given = Nothing }

-- the settings with this draft
abbrev pub drafted : Settings → Draft → Settings
drafted settings draft = record settings { draft = draft }

-- the settings with these variables
abbrev pub with_variables : Settings → Variables → Settings
with_variables settings variables = record settings { vars = variables }

-- the answer of a step that changes the settings in their place, with the settings after it
abbrev pub given_after : {E : Type 0} → Result LineResult E → Settings → Result Onward E
given_after (Ok given) new = Ok (record { settings = new; given = given })
given_after (Err why) new = Err why

-- what comes after a line that defines a variable
unfoldable pub definition_line : Settings → ValueForm → List ℕ → Result Onward ConfKind
definition_line settings form rest =
    mapped (λ variables. silent (with_variables settings variables)) (definition settings.vars form rest)

-- what comes after an include, before its file is read
unfoldable pub include_line : Settings → Spot → List ℕ → Result Onward ConfKind
include_line settings spot rest = mapped (λ name. record { settings = settings; given = Include name })
    (include settings.vars spot rest)

-- what comes after a line that is skipped with a warning
abbrev pub skipped : Settings → List ℕ → List ℕ → Onward
skipped settings word name = record { settings = settings; given = Skipped word name }

-- the draft after a `config` line, by what comes after its colon
unfoldable pub config_draft : Draft → ConfigName → List ℕ → Result Draft ConfKind
config_draft draft config.Classification value =
    mapped (λ classes. record draft { classes = classes }) (classification draft.classes value)
config_draft draft config.ChecksumMode value =
    mapped (λ checks. record draft { checks = checks }) (checksum_mode draft.checks value)
config_draft draft config.EventQueue value = mapped (λ queue. record draft { queue = queue }) (event_queue draft.queue value)
config_draft draft config.Detection value = Ok (record draft { inserts = detection draft.inserts value })
config_draft draft config.Unread value = Ok draft

-- the draft after a `config` line, by what comes after its name
unfoldable pub config_value : Draft → ConfigName → List ℕ → Result Draft ConfKind
config_value draft config.Unread rest = Ok draft
config_value draft name rest = or_kind BadValue (after_colon rest) >>= config_draft draft name

-- the settings after a line with this draft
abbrev pub after_draft : Settings → Result Draft ConfKind → Result Onward ConfKind
after_draft settings read = mapped (λ draft. silent (drafted settings draft)) read

-- what comes after a line whose name is one of those that are read; a line of another name is skipped
abbrev pub named_or_skipped : {N : Type 0} → Settings → List ℕ → List ℕ → Option N → (N → Result Draft ConfKind)
    → Result Onward ConfKind
named_or_skipped settings word name None read = Ok (skipped settings word name)
named_or_skipped settings word name (Some known) read = after_draft settings (read known)

-- what comes after a `config` line, by what comes after the word
unfoldable pub config_line : Settings → List ℕ → List ℕ → Result Onward ConfKind
config_line settings word rest =
    named_or_skipped settings word (name_of rest) (config_name (name_of rest))
    (λ name. config_value settings.draft name (after_name rest))

-- the draft after a `preprocessor` line, by what comes after its name
unfoldable pub preprocessor_draft : Variables → Draft → PreprocessorName → List ℕ → Result Draft ConfKind
preprocessor_draft variables draft preprocessor.FragGlobal rest =
    mapped (λ frag. record draft { frag = frag }) (frag3_global draft.frag rest)
preprocessor_draft variables draft preprocessor.FragEngine rest =
    mapped (λ frag. record draft { frag = frag }) (frag3_engine variables draft.frag rest)
preprocessor_draft variables draft preprocessor.StreamGlobal rest =
    mapped (λ stream. record draft { stream = stream }) (stream5_global draft.stream rest)
preprocessor_draft variables draft preprocessor.StreamTcp rest =
    mapped (λ stream. record draft { stream = stream }) (stream5_tcp variables draft.stream rest)
preprocessor_draft variables draft preprocessor.StreamUdp rest =
    mapped (λ stream. record draft { stream = stream }) (stream5_udp draft.stream rest)
preprocessor_draft variables draft preprocessor.Outside rest = Err OutsideProfile

-- what comes after a `preprocessor` line, by what comes after the word
unfoldable pub preprocessor_line : Settings → List ℕ → List ℕ → Result Onward ConfKind
preprocessor_line settings word rest =
    named_or_skipped settings word (name_of rest) (preprocessor_name (name_of rest))
    (λ name. preprocessor_draft settings.vars settings.draft name (after_name rest))

-- what comes after an `event_filter` line
unfoldable pub filter_line : Settings → List ℕ → Result Onward ConfKind
filter_line settings rest = after_draft settings (mapped (λ filters. record (settings.draft) { filters = filters })
    (event_filter settings.draft.filters rest))

-- what comes after a `suppress` line
unfoldable pub suppress_line : Settings → List ℕ → Result Onward ConfKind
suppress_line settings rest = after_draft settings (mapped (λ lines. record (settings.draft) { suppress = lines })
    (suppress settings.vars settings.draft.suppress rest))

-- the table of directives, by the first word and what comes after it
unfoldable pub directive_line : Spot → Settings → Directive → List ℕ → List ℕ → Result Onward ConfKind
directive_line spot settings directive.Rule word rest = Ok (record { settings = settings; given = Rule })
directive_line spot settings directive.Var word rest = definition_line settings form.Any rest
directive_line spot settings directive.IpVar word rest = definition_line settings form.Addresses rest
directive_line spot settings directive.PortVar word rest = definition_line settings form.Ports rest
directive_line spot settings directive.Include word rest = include_line settings spot rest
directive_line spot settings directive.Config word rest = config_line settings word rest
directive_line spot settings directive.Preprocessor word rest = preprocessor_line settings word rest
directive_line spot settings directive.EventFilter word rest = filter_line settings rest
directive_line spot settings directive.Suppress word rest = suppress_line settings rest
directive_line spot settings directive.Skipped word rest = Ok (skipped settings word (name_of rest))
directive_line spot settings directive.Outside word rest = Err OutsideProfile

-- what a line means
unfoldable pub conf_line : Spot → Settings → List ℕ → Result Onward ConfKind
conf_line spot settings line = or_kind UnknownDirective (directive_named (first_word line)) >>= λ known.
    directive_line spot settings known (first_word line) (after_word line)
