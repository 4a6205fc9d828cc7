-- The texts that end a run.
--
-- Each is a line of its own with a line feed at its end, on the stream for errors. The wording is this
-- project's own. The messages of captures that are refused are those of pcapng_input (specs/Faults).
-- To try it on: a Unified2 file of the one byte 0 ends a run with `ERROR: unified2 file is bad at byte 0`.
use Rattle.std.specs.Prelude.{ℕ, List, ◌++◌, codes, decimal}

-- how the command is used
unfoldable pub usage_text : List ℕ
usage_text = codes "usage: snort -c CONF -r FILE [options]\n"

-- which program it is
unfoldable pub version_text : List ℕ
version_text = codes "snort offline profile 2.9\n"

-- the configuration is accepted, with this many rules
unfoldable pub accepted_text : ℕ → List ℕ
accepted_text rules = codes "configuration accepted: " ++ decimal rules ++ codes " rules\n"

-- the command line is faulty
unfoldable pub command_line_text : List ℕ
command_line_text = codes "ERROR: command line\n"

-- a file cannot be read
unfoldable pub cannot_read_text : List ℕ → List ℕ
cannot_read_text name = codes "ERROR: cannot read " ++ name ++ codes "\n"

-- the alert lines cannot be written
unfoldable pub cannot_write_text : List ℕ
cannot_write_text = codes "ERROR: cannot write\n"

-- memory ran out
unfoldable pub no_memory_text : List ℕ
no_memory_text = codes "ERROR: no memory\n"

-- the Unified2 file has bytes from this one on that begin no record
unfoldable pub bad_unified2_text : ℕ → List ℕ
bad_unified2_text at = codes "ERROR: unified2 file is bad at byte " ++ decimal at ++ codes "\n"

-- the file has more bytes than are read
unfoldable pub too_large_text : List ℕ → List ℕ
too_large_text name = codes "ERROR: " ++ (name ++ codes "(0) file is too large\n")
