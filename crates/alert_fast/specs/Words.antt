-- Numbers in a line, by their digits.
--
-- To try it on: 65535 is a port and 65536 none; `07` is 7 in two digits, and no number without a zero in front.
use Rattle.std.specs.Prelude.{◌≡◌, ℕ, ◌+◌, ◌-◌, ◌*◌, ◌%◌, ◌^◌, ◌<◌, Bool, false, List, fold}
use Rattle.std.specs.Char.{is_ascii_digit}

-- the number that digits spell, modulo 2^32; of other bytes any number
unfoldable pub read_value : List ℕ → ℕ
read_value word = fold (λ value digit. (10 * value + (digit - 48)) % 2 ^ 32) 0 word

-- a number of 32 bits, one of 16, one of two digits, and one of six
abbrev pub IsNumber : ℕ → Type 0
IsNumber n = n < 2 ^ 32

abbrev pub IsPort : ℕ → Type 0
IsPort n = n < 2 ^ 16

abbrev pub IsTwo : ℕ → Type 0
IsTwo n = n < 100

abbrev pub IsMicros : ℕ → Type 0
IsMicros n = n < 1_000_000

-- no digit
abbrev pub IsNoDigit : ℕ → Type 0
IsNoDigit byte = is_ascii_digit byte ≡ false
