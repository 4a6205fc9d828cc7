-- What a compiled expression finds is what its text means.
use Rattle.std.proofs.Common.{◌≡◌, ℕ, ◌<◌, ◌≤◌, Bool, true, false, List, length, All, Option, Some, None, refl, sym, ap, ◌∙◌, rules, arith, Fits, w8}
use Rattle.std.proofs.lemmas.List.{get_or_default}
use Rattle.std.specs.Prelude.{IsSome, IsSomeAnd, nat_lt, slice_index, option_map, chars, if◌then◌else◌}
use Rattle.std.specs.List.{list_all}
use Rattle.std.specs.Option.{option_and_then}
use Rattle.std.proofs.lemmas.Bool.Decides.{Decides-by_and, Decides-ltb}
use Rattle.edge_io.specs.declared.pattern.PatternFlags.{PatternFlags}
use Rattle.edge_io.specs.declared.pattern.Span.{Span}
use Rattle.regex.specs.Patterns.{Re, Match, SameCaptures, Reads, find, span}
use Rattle.regex_hir.specs.Meaning.{meaning}
use Rattle.regex_hir.specs.declared.hir.Hir.{Hir}
use Rattle.regex_syntax.specs.Brackets.{Nested}
use Rattle.regex_syntax.specs.Grammar.{Names, group_count, read}
use Rattle.regex_syntax.proofs.CapturesLemmas.{spans, find_alike}
use Rattle.regex_maker.specs.Spelled.{IsSpelled}
use Rattle.regex_maker.specs.Meaning.{IsPattern, are_bytes, pattern_text, options_of, span_of, span_in, regex_span}

-- the test of bytes, as a fact of each of them
pub all_bytes : (bytes : List ℕ) → are_bytes bytes ≡ true → All (λ byte. byte < 256) bytes
all_bytes bytes is = (Decides-by_and (λ byte. nat_lt byte 256) (λ byte. byte < 256) (list_all (λ byte. nat_lt byte 256)) (λ byte. Decides-ltb byte 256) refl (λ _ _. refl) bytes).0 is

pub bytes_all : (bytes : List ℕ) → All (λ byte. byte < 256) bytes → are_bytes bytes ≡ true
bytes_all bytes all = (Decides-by_and (λ byte. nat_lt byte 256) (λ byte. byte < 256) (list_all (λ byte. nat_lt byte 256)) (λ byte. Decides-ltb byte 256) refl (λ _ _. refl) bytes).1 all

-- the place of a match, from what a search tells of it
abbrev pub Seen : Type 0
Seen = ℕ × ℕ × (ℕ → Option ℕ)

abbrev pub seen_span : Seen → Span
seen_span seen = record { start = seen.0; end = seen.1 }

span_of-seen : (found : Option Match) → option_map span_of found ≡ option_map seen_span (option_map spans found)
span_of-seen None = refl
span_of-seen (Some found) = refl

-- two expressions that match alike have the same leftmost match
alike_where : (a b : Re) (bytes : List ℕ) → SameCaptures a b → (is : Bool) → are_bytes bytes ≡ is
    → (if is then option_map span_of (find a bytes 0) else None) ≡ (if is then option_map span_of (find b bytes 0) else None)
alike_where a b bytes same true is =
    span_of-seen (find a bytes 0) ∙ ap (option_map seen_span) (find_alike a b same bytes (all_bytes bytes is) 0) ∙ sym (span_of-seen (find b bytes 0))
alike_where a b bytes same false is = refl

pub span_in-alike : (a b : Re) → SameCaptures a b → (bytes : List ℕ) → span_in a bytes ≡ span_in b bytes
unfolding span_in
span_in-alike a b same bytes = alike_where a b bytes same (are_bytes bytes) refl

-- an expression that matches as what was read does
span_as_read : (found : Option (Nested Re × Names)) (most : ℕ) (re : Re) (names : Names)
    → IsSomeAnd found (λ (read, known). (read.depth ≤ most) × SameCaptures re read.value × (names ≡ known) × (group_count re ≤ length names))
    → (bytes : List ℕ) → span_in re bytes ≡ option_and_then (λ (read, known). span_in read.value bytes) found
span_as_read None most re names is bytes = absurd is
span_as_read (Some found) most re names is bytes = span_in-alike re found.0.value is.1 bytes

-- what the maker's pattern finds
pub span_in-regex_span : (text : List ℕ) (flags : PatternFlags) (hir : Hir) → IsSpelled text flags hir
    → (bytes : List ℕ) → span_in (meaning hir) bytes ≡ regex_span text flags bytes
unfolding regex_span Reads
span_in-regex_span text flags hir is bytes =
    span_as_read (read (options_of flags) (chars (pattern_text text))) (options_of flags).nest_limit (meaning hir) is.0 is.1 bytes

-- a text that an expression was read from is a pattern
some_read : (found : Option (Nested Re × Names)) (P : Nested Re × Names → Type 0) → IsSomeAnd found P → IsSome found
some_read None P is = absurd is
some_read (Some found) P is = search rules

pub IsPattern-read : (text : List ℕ) (flags : PatternFlags) (hir : Hir) → IsSpelled text flags hir → IsPattern text flags
unfolding IsPattern Reads
IsPattern-read text flags hir is = some_read (read (options_of flags) (chars (pattern_text text))) _ is.1

-- what a search answers
abbrev pub place_span : ℕ × ℕ → Span
place_span place = record { start = place.0; end = place.1 }

span_of-place : (found : Option Match) → option_map place_span (option_map span found) ≡ option_map span_of found
span_of-place None = refl
span_of-place (Some found) = refl

pub span_in-found : (re : Re) (bytes : List ℕ) (found : Option (ℕ × ℕ)) → ((place : ℕ) → Fits w8 (slice_index bytes place)) → found ≡ option_map span (find re bytes 0)
    → option_map place_span found ≡ span_in re bytes
unfolding span_in
span_in-found re bytes found small is =
    ap (option_map place_span) is
    ∙ span_of-place (find re bytes 0)
    ∙ ap (λ test. if test then option_map span_of (find re bytes 0) else None) (sym (bytes_all bytes (each bytes small)))
  where
    each : (bytes : List ℕ) → ((place : ℕ) → Fits w8 (slice_index bytes place)) → All (λ byte. byte < 256) bytes
    each bytes small = λ place other within. omega (arith, small place, get_or_default bytes place other 0 within)
