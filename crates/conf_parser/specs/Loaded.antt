-- What a reading hands out, and the value before it.
use Rattle.std.specs.Prelude.{[]}
use Rattle.conf_parser.specs.declared.loaded.Loaded.{Loaded}
use Rattle.conf_parser.specs.Settings.{first_draft, config_of}
use Rattle.conf_parser.specs.declared.reading.ReadSoFar.{ReadSoFar}

-- the defaults, and no lines
abbrev pub nothing_loaded : Loaded
nothing_loaded = record { config = config_of first_draft; files = []; rules = []; warnings = [] }

-- what a whole reading hands out
abbrev pub loaded_of : ReadSoFar → Loaded
loaded_of read = record {
  config = config_of read.settings.draft;
  files = read.output.files;
  rules = read.output.rules;
  warnings = read.output.warnings;
}
