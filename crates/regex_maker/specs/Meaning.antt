-- What a text with flags finds in bytes, as a regular expression.
--
-- Public source: the syntax and the matches are those of Rust's `regex` crate, version 1, in its bytes
-- form; the definitions `read` and `find` of the library `regex` say what they are. The flags are those
-- of the option `pcre` (Snort Users Manual 2.9, section 3.5): i, s, m and x.
-- To try it on: `a.c` finds in the bytes of `xabc` the span from 1 to 4; with the flag i also in `xABC`;
-- in `a`, line feed, `c` it finds a span with the flag s alone; `a(?=b)` is read as no pattern.
use Rattle.std.specs.Prelude.{ℕ, Bool, false, List, ◌++◌, Option, None, IsSome, codes, nat_lt, if◌then◌else◌, chars}
use Rattle.std.specs.List.{list_all}
use Rattle.std.specs.Option.{option_map, option_and_then}
use Rattle.edge_io.specs.declared.pattern.PatternFlags.{PatternFlags}
use Rattle.edge_io.specs.declared.pattern.Span.{Span}
use Rattle.regex.specs.Patterns.{Re, Match, Config, find, span, default_config}
use Rattle.regex_syntax.specs.Grammar.{read}

-- the text of the expression: after `(?-u)` a character is a byte
abbrev pub pattern_text : List ℕ → List ℕ
pattern_text text = codes "(?-u)" ++ text

-- how the expression is read
abbrev pub options_of : PatternFlags → Config
options_of flags = record default_config {
  flags = record default_config.flags {
    case_insensitive = flags.nocase;
    multi_line = flags.multi_line;
    dot_matches_new_line = flags.dot_all;
    ignore_whitespace = flags.extended;
  };
  utf8 = false;
}

-- the grammar reads the text
unfoldable pub IsPattern : List ℕ → PatternFlags → Type 0
IsPattern text flags = IsSome (read (options_of flags) (chars (pattern_text text)))

-- all of the numbers are bytes
abbrev pub are_bytes : List ℕ → Bool
are_bytes numbers = list_all (λ number. nat_lt number 256) numbers

abbrev pub span_of : Match → Span
span_of found = record { start = (span found).0; end = (span found).1 }

-- the leftmost match of an expression in bytes; numbers that are no bytes have none
unfoldable pub span_in : Re → List ℕ → Option Span
span_in re bytes = if are_bytes bytes then option_map span_of (find re bytes 0) else None

-- what a text with flags finds; a text that is no pattern finds nothing
unfoldable pub regex_span : List ℕ → PatternFlags → List ℕ → Option Span
regex_span text flags bytes =
    option_and_then (λ (re, names). span_in re.value bytes) (read (options_of flags) (chars (pattern_text text)))
