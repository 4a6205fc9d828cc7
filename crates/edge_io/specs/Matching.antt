-- Where a literal text is in bytes, with ASCII case kept or folded.
--
-- To try it on: "bc" in "abcbc" is first at 1, and "BC" only where case is folded. An empty text
-- is at 0, in no bytes too.
use Rattle.std.specs.Prelude.{ℕ, ◌+◌, Bool, List, [], ◌∷◌, length, Option, position, nat_eq, if◌then◌else◌}
use Rattle.std.specs.Option.{option_map}
use Rattle.std.specs.List.{starts_with}
use Rattle.std.specs.Str.{str_to_ascii_lowercase}
use Rattle.edge_io.specs.declared.pattern.Span.{Span}

-- each upper-case ASCII letter in its lower case, where case is folded
abbrev pub folded : Bool → List ℕ → List ℕ
folded nocase bytes = if nocase then str_to_ascii_lowercase bytes else bytes

-- the bytes begin with the text
abbrev pub begins : Bool → List ℕ → List ℕ → Bool
begins nocase text bytes = starts_with nat_eq (folded nocase bytes) (folded nocase text)

-- the bytes from each place on, from the first place to the end
abbrev pub tails : List ℕ → List (List ℕ)
tails [] = [] ∷ []
tails (byte ∷ bytes) = (byte ∷ bytes) ∷ tails bytes

-- the first place from which the bytes begin with the text
abbrev pub first_place : Bool → List ℕ → List ℕ → Option ℕ
first_place nocase text bytes = position (begins nocase text) (tails bytes)

-- the leftmost match of a literal text: its span, or none
unfoldable pub literal_span : Bool → List ℕ → List ℕ → Option Span
literal_span nocase text bytes = option_map (λ start. record { start = start; end = start + length text })
    (first_place nocase text bytes)

-- a text to find, and whether case is folded
pub record LiteralText : Type 0 where
  pub text : List ℕ
  pub nocase : Bool
