-- What a pattern that was made finds.
use Rattle.std.specs.Prelude.{ℕ, List, Option}
use Rattle.edge_io.specs.declared.pattern.Span.{Span}
use Rattle.regex_meta.specs.Programs.{pattern_of}
use Rattle.regex_maker.specs.declared.made.RegexPattern.{RegexPattern}
use Rattle.regex_maker.specs.Meaning.{span_in}

-- the leftmost match of its expression
abbrev pub found_by : RegexPattern → List ℕ → Option Span
found_by pattern bytes = span_in (pattern_of pattern.program.value) bytes
