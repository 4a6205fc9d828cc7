-- Whole numbers in texts: decimal digits, at least one, without a sign and without a leading zero. Where a
-- number may be negative, it is such a number or a `-` and one; `-0` is 0.
--
-- (The numbers of the Snort Users Manual 2.9, whose examples have no other form; that a sign, a leading
-- zero and `0x` are refused is our own.)
-- To try it on: from 1 to 65535, `80` is 80, and `080`, `+80`, `0x50`, `0` and `65536` are none.
use Rattle.std.specs.Prelude.{ℕ, ◌+◌, ◌-◌, ◌*◌, ◌==◌, ◌&&◌, Bool, false, not, Option, Some, None, List, [], ◌∷◌, length, fold, nat_le, if◌then◌else◌, ℤ, pos, neg_ℤ}
use Rattle.std.specs.List.{list_all}
use Rattle.std.specs.Option.{option_map}
use Rattle.std.specs.Char.{is_ascii_digit}
use Rattle.std.specs.Int.RustNames.{int_le}
use Rattle.edge_io.specs.OnOption.{◌>>=◌}

-- the number that decimal digits spell
unfoldable pub decimal_value : List ℕ → ℕ
decimal_value digits = fold (λ value digit. 10 * value + (digit - 48)) 0 digits

-- digits, at least one, and nothing else
abbrev pub are_digits : List ℕ → Bool
are_digits text = not (length text == 0) && list_all is_ascii_digit text

-- the number that digits spell, if it is at most `most`
unfoldable pub digits_upto : ℕ → List ℕ → Option ℕ
digits_upto most text = if are_digits text && nat_le (decimal_value text) most then Some (decimal_value text) else None

-- a 0 comes before another byte
unfoldable pub has_leading_zero : List ℕ → Bool
has_leading_zero [] = false
has_leading_zero (first ∷ []) = false
has_leading_zero (first ∷ second ∷ rest) = first == 48

-- the number that a text spells
unfoldable pub whole_number : List ℕ → Option ℕ
whole_number text = if are_digits text && not (has_leading_zero text) then Some (decimal_value text) else None

-- the number, if it lies from `least` to `most`
abbrev pub kept_in : ℕ → ℕ → ℕ → Option ℕ
kept_in least most number = if nat_le least number && nat_le number most then Some number else None

-- the number that a text spells, if it lies from `least` to `most`
unfoldable pub number_in : ℕ → ℕ → List ℕ → Option ℕ
number_in least most text = whole_number text >>= kept_in least most

-- what comes after a `-` (45) in front, if there is one
abbrev pub after_minus : List ℕ → Option (List ℕ)
after_minus [] = None
after_minus (first ∷ rest) = if first == 45 then Some rest else None

-- the number of a text, or of these digits after a `-`, as a negative one
abbrev pub number_signed : List ℕ → Option (List ℕ) → Option ℤ
number_signed text None = option_map pos (whole_number text)
number_signed text (Some digits) = option_map (λ number. neg_ℤ (pos number)) (whole_number digits)

-- the number that a text spells, which a `-` in front makes negative
unfoldable pub signed_number : List ℕ → Option ℤ
signed_number text = number_signed text (after_minus text)

-- the signed number, if it lies from `least` to `most`
abbrev pub signed_kept_in : ℤ → ℤ → ℤ → Option ℤ
signed_kept_in least most number = if int_le least number && int_le number most then Some number else None

-- the number that a text spells, negative after a `-`, if it lies from `least` to `most`
unfoldable pub signed_in : ℤ → ℤ → List ℕ → Option ℤ
signed_in least most text = signed_number text >>= signed_kept_in least most
