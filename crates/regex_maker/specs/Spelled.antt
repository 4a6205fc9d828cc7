-- What tree an expression is read as.
use Rattle.std.specs.Prelude.{ℕ, List}
use Rattle.edge_io.specs.declared.pattern.PatternFlags.{PatternFlags}
use Rattle.regex_hir.specs.declared.hir.Hir.{Hir}
use Rattle.regex_syntax.specs.Grammar.{Names}
use Rattle.regex_syntax.specs.Verdict.{Reads}
use Rattle.regex_maker.specs.Meaning.{pattern_text, options_of}

-- the grammar reads the text with the flags, and the tree matches as what it reads
abbrev pub IsSpelled : List ℕ → PatternFlags → Hir → Type 0
IsSpelled text flags hir = (names : Names) × Reads (options_of flags) (pattern_text text) hir names
