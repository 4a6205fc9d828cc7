-- Regular expressions (Snort Users Manual 2.9, section 3.5): `pcre:[!]"/re/flags"`.
--
-- The expression is between the first byte of the quoted text, a `/`, and the last `/` in it; a lone
-- backslash in front of the last `/` stays (own). The flags
-- are i, s, m, x and R (the search begins where the option before ended), each at most once; any other
-- capital letter is a flag of Snort's that this detector has not. The expression is looked at first, then the
-- flags, then what comes after the closing quote (own). An expression is ASCII and has at most 4096 bytes (own).
-- To try it on: `"/a\/b/Ri"` is the expression `a/b`, in either case, from where the option before ended;
-- `"/a\/i"` is the expression `a\`, in either case.
use Rattle.std.specs.Prelude.{ℕ, ◌-◌, ◌==◌, ◌&&◌, Bool, true, false, not, Option, Some, None, Result, Ok, Err, List, [], ◌∷◌, length, take, drop, nat_le, nat_lt, if◌then◌else◌}
use Rattle.std.specs.List.{list_all, suffix_len}
use Rattle.edge_io.specs.OnResult.{◌>>=◌}
use Rattle.edge_io.specs.declared.pattern.PatternFlags.{PatternFlags}
use Rattle.net_lists.specs.Stops.{or_kind}
use Rattle.rule_parser.specs.declared.draft.RuleDraft.{RuleDraft}
use Rattle.rule_parser.specs.declared.fault.Fault.{Fault}
use Rattle.rule_parser.specs.declared.fault.Fault.TheVariants.{OptionValue, OutsideProfile, Limit}
use Rattle.rule_types.specs.declared.option.Opt.{Opt}
use Rattle.rule_types.specs.declared.option.Opt.TheVariants as opt
use Rattle.rule_parser.specs.declared.patterns.Flags.{Flags}
use Rattle.rule_parser.specs.declared.quoted.Style.TheVariants.{Pattern}
use Rattle.rule_parser.specs.declared.quoted.QuotedPlace.TheVariants.{Plain}
use Rattle.rule_parser.specs.Contents.{negation}
use Rattle.rule_parser.specs.Drafts.{kept}
use Rattle.rule_parser.specs.Quotes.{quoted, meaning}

-- no flags
abbrev pub no_flags : Flags
no_flags = record { nocase = false; dot_all = false; multi_line = false; extended = false; relative = false }

-- what is given for a letter that is no flag: a capital one is a flag of Snort's
abbrev pub no_flag : ℕ → Fault
no_flag letter = if nat_le 65 letter && nat_le letter 90 then OutsideProfile else OptionValue

-- the flags with this letter
unfoldable pub with_flag : Flags → ℕ → Result Flags Fault
with_flag flags letter =
    if letter == 105 then if flags.nocase then Err OptionValue else Ok (record flags { nocase = true })
    else if letter == 115 then if flags.dot_all then Err OptionValue else Ok (record flags { dot_all = true })
    else if letter == 109 then if flags.multi_line then Err OptionValue else Ok (record flags { multi_line = true })
    else if letter == 120 then if flags.extended then Err OptionValue else Ok (record flags { extended = true })
    else if letter == 82 then if flags.relative then Err OptionValue else Ok (record flags { relative = true })
    else Err (no_flag letter)

-- the flags of these letters
unfoldable pub flags_of : Flags → List ℕ → Result Flags Fault
flags_of flags [] = Ok flags
flags_of flags (letter ∷ rest) = with_flag flags letter >>= λ next. flags_of next rest

-- the flags that the maker of patterns is told
abbrev pub pattern_flags : Flags → PatternFlags
pattern_flags flags = record {
  nocase = flags.nocase;
  dot_all = flags.dot_all;
  multi_line = flags.multi_line;
  extended = flags.extended;
}

-- whether a byte is ASCII
abbrev pub is_ascii : ℕ → Bool
is_ascii byte = nat_lt byte 128

-- a byte that is no `/` (47)
abbrev pub is_no_slash : ℕ → Bool
is_no_slash byte = not (byte == 47)

-- what is between a `/` in front and the last `/`, and what comes after that; the rest of the text, cut
-- after its last `/`
abbrev pub slashed_at : List ℕ → ℕ → Option (List ℕ × List ℕ)
slashed_at rest end = if end == 0 then None else Some (take (end - 1) rest, drop end rest)

unfoldable pub slashed : List ℕ → Option (List ℕ × List ℕ)
slashed [] = None
slashed (first ∷ rest) = if first == 47 then slashed_at rest (length rest - suffix_len is_no_slash rest) else None

-- what an expression between slashes stands for, where it is ASCII
unfoldable pub expression_of : List ℕ → Result (List ℕ) Fault
expression_of inside = do
  text ← or_kind OptionValue (meaning Pattern Plain inside)
  if list_all is_ascii text then Ok text else Err OptionValue

-- what the value of `pcre:[!]"/re/flags"` says
unfoldable pub pcre : List ℕ → Result Opt Fault
pcre value = do
  parts ← or_kind OptionValue (quoted (negation value).1)
  halves ← or_kind OptionValue (slashed parts.0)
  text ← expression_of halves.0
  flags ← flags_of no_flags halves.1
  if not (length parts.1 == 0) then Err OptionValue else if nat_lt 4096 (length text) then Err Limit
      else Ok (opt.Pcre text (pattern_flags flags) flags.relative (negation value).0)

unfoldable pub pcre_option : RuleDraft → List ℕ → Result RuleDraft Fault
pcre_option draft value = pcre value >>= kept draft
