-- Texts in double quotes.
--
-- A quoted text begins with `"` and ends at the next `"` that no backslash takes along; a backslash takes
-- the byte after it along. What a backslash and its byte stand for depends on the option: in a message the
-- byte itself; in a content the byte itself, and between bars are pairs of hex digits, with blanks between
-- the pairs (Snort Users Manual 2.9, section 3.5.1); in a pattern `\"`, `\;`, `\:` and `\/` stand for their
-- second byte, and any other pair for itself, as does a backslash with no byte after it (own).
-- To try it on: `"a\"|62 63|"` is the content `a"bc` and the message `a"|62 63|`.
use Rattle.std.specs.Prelude.{ℕ, ◌+◌, ◌-◌, ◌*◌, ◌==◌, ◌&&◌, ◌||◌, Bool, true, false, not, Option, Some, None, List, [], ◌∷◌, ◌++◌, take, drop, nat_le, is_some, if◌then◌else◌}
use Rattle.std.specs.Option.{option_map}
use Rattle.edge_io.specs.Bytes.{is_blank}
use Rattle.edge_io.specs.OnOption.{◌>>=◌}
use Rattle.rule_parser.specs.declared.quoted.Style.{Style}
use Rattle.rule_parser.specs.declared.quoted.Style.TheVariants.{Message, Bytes, Pattern}
use Rattle.rule_parser.specs.declared.quoted.QuotedPlace.{QuotedPlace}
use Rattle.rule_parser.specs.declared.quoted.QuotedPlace.TheVariants.{Plain, Escaped, Bars, Half}
use Rattle.rule_parser.specs.declared.quoted.QuotedStep.{QuotedStep}

-- how many bytes come before the first `"` (34) that no backslash (92) takes along
unfoldable pub closing_len : Bool → List ℕ → Option ℕ
closing_len escaped [] = None
closing_len escaped (byte ∷ rest) =
    if not escaped && byte == 34 then Some 0 else option_map (λ len. len + 1) (closing_len (not escaped && byte == 92) rest)

-- a text and what comes after it
abbrev pub cut_at : List ℕ → ℕ → List ℕ × List ℕ
cut_at text len = (take len text, drop (len + 1) text)

-- what is between the quotes, as it is written, and what comes after them
unfoldable pub quoted : List ℕ → Option (List ℕ × List ℕ)
quoted [] = None
quoted (first ∷ rest) = if first == 34 then option_map (cut_at rest) (closing_len false rest) else None

-- the value of a hex digit
unfoldable pub hex_value : ℕ → Option ℕ
hex_value byte =
    if nat_le 48 byte && nat_le byte 57 then Some (byte - 48)
    else if nat_le 65 byte && nat_le byte 70 then Some (byte - 55)
    else if nat_le 97 byte && nat_le byte 102 then Some (byte - 87)
    else None

-- the step that goes on at this place, without a byte, with one, or with a backslash and one
abbrev pub silent : QuotedPlace → QuotedStep
silent place = record { place = place; slash = false; byte = None }

abbrev pub giving : QuotedPlace → ℕ → QuotedStep
giving place byte = record { place = place; slash = false; byte = Some byte }

abbrev pub giving_pair : QuotedPlace → ℕ → QuotedStep
giving_pair place byte = record { place = place; slash = true; byte = Some byte }

-- the pairs that stand for their second byte in a pattern: `"`, `;`, `:`, `/`
abbrev pub is_freed : ℕ → Bool
is_freed byte = (byte == 34 || byte == 59) || (byte == 58 || byte == 47)

-- bars (124) have a meaning in contents alone
abbrev pub has_bars : Style → Bool
has_bars Bytes = true
has_bars Message = false
has_bars Pattern = false

-- the byte after a backslash is given without it
abbrev pub frees : Style → ℕ → Bool
frees Bytes byte = true
frees Message byte = true
frees Pattern byte = is_freed byte

-- What a byte gives outside bars.
unfoldable pub plain_step : Style → ℕ → QuotedStep
plain_step style byte =
    if byte == 92 then silent Escaped else if byte == 124 && has_bars style then silent Bars else giving Plain byte

-- What a byte gives after a backslash.
unfoldable pub escaped_step : Style → ℕ → QuotedStep
escaped_step style byte = if frees style byte then giving Plain byte else giving_pair Plain byte

-- What a byte gives between bars.
unfoldable pub bars_step : ℕ → Option QuotedStep
bars_step byte =
    if byte == 124 then Some (silent Plain) else if is_blank byte then Some (silent Bars)
    else if is_some (hex_value byte) then Some (silent (Half byte)) else None

-- What a byte gives after the first digit of a pair.
unfoldable pub half_step : ℕ → ℕ → Option QuotedStep
half_step first byte = do
  high ← hex_value first
  low ← hex_value byte
  Some (giving Bars (high * 16 + low))

-- What a byte gives at its place.
abbrev pub step_at : Style → QuotedPlace → ℕ → Option QuotedStep
step_at style Plain byte = Some (plain_step style byte)
step_at style Escaped byte = Some (escaped_step style byte)
step_at style Bars byte = bars_step byte
step_at style (Half first) byte = half_step first byte

-- the bytes that a step gives
abbrev pub bytes_of : Bool → Option ℕ → List ℕ
bytes_of slash None = []
bytes_of true (Some byte) = 92 ∷ byte ∷ []
bytes_of false (Some byte) = byte ∷ []

-- a backslash with no byte after it is no pair: in a pattern it stands for itself
abbrev pub lone_backslash : Style → Option (List ℕ)
lone_backslash Bytes = None
lone_backslash Message = None
lone_backslash Pattern = Some (92 ∷ [])

-- what the end of a text gives: it has no open bar, and no half of a pair of digits
abbrev pub end_bytes : Style → QuotedPlace → Option (List ℕ)
end_bytes style Plain = Some []
end_bytes style Escaped = lone_backslash style
end_bytes style Bars = None
end_bytes style (Half first) = None

-- what a quoted text stands for
unfoldable pub meaning : Style → QuotedPlace → List ℕ → Option (List ℕ)
meaning style place [] = end_bytes style place
meaning style place (byte ∷ rest) = elim (step_at style place byte) [
  | None ↦ None
  | Some step ↦ option_map (λ after. bytes_of step.slash step.byte ++ after) (meaning style step.place rest)
]
