-- The numbers that payload options read: told or extracted before, and fetched from the payload.
--
-- Source: Snort Users Manual 2.9, section 3.5 (byte_test, byte_jump, byte_extract).
-- Text is read as its digits alone: no sign, blank or `0x`.
-- To try it on: in the payload 2, 97, 98 a fetch of one byte at offset 0 gives the number 2 and ends at
-- place 1; a fetch of four bytes there gives nothing. The text `12x4` in base ten is 12.
use Rattle.std.specs.Prelude.{ℕ, ◌+◌, ◌-◌, ◌*◌, ◌/◌, ℤ, pos, negsuc, ◌+ℤ◌, Bool, ◌&&◌, ◌==◌, List, length, fold, Option, Some, None, option_map, nat_le, nat_lt, slice_index, if◌then◌else◌}
use Rattle.std.specs.List.{take_while}
use Rattle.byteorder.specs.Endian.{big_from, little_from}
use Rattle.edge_io.specs.Bytes.{slice}
use Rattle.edge_io.specs.OnOption.{◌>>=◌}
use Rattle.rule_types.specs.declared.option.Base.{Base}
use Rattle.rule_types.specs.declared.option.Base.TheVariants as base
use Rattle.rule_types.specs.declared.option.Fetch.{Fetch}
use Rattle.rule_types.specs.declared.option.Num.{Num}
use Rattle.rule_types.specs.declared.option.Num.TheVariants as num

-- where an option begins and ends: a place of the payload, and the extracted values by their names
pub record Point : Type 0 where
  pub place : ℕ
  pub values : List ℕ

-- ---- relative

-- where an option counts from: the place before it if it is relative, else the payload's start
abbrev pub origin : Bool → Point → ℕ
origin relative before = if relative then before.place else 0

-- ---- a number, or the name of one

-- a number of an option: told, or the value of its name
abbrev pub number_of : List ℕ → Num → ℤ
number_of values (num.Value number) = number
number_of values (num.Name name) = pos (slice_index values name)

-- a number of an option, if there is one
abbrev pub number_if : List ℕ → Option Num → Option ℤ
number_if values number = option_map (number_of values) number

-- ---- string, dec, hex, oct

-- the value of a digit, in any base up to sixteen; sixteen for another byte
abbrev pub digit_of : ℕ → ℕ
digit_of byte =
    if nat_le 48 byte && nat_le byte 57 then byte - 48
    else (if nat_le 65 byte && nat_le byte 70 then byte - 55
    else (if nat_le 97 byte && nat_le byte 102 then byte - 87 else 16))

-- the number that digits make, the highest first
abbrev pub digits_number : ℕ → List ℕ → ℕ
digits_number radix digits = fold (λ sum byte. sum * radix + digit_of byte) 0 digits

-- the digits that a text begins with
abbrev pub front_digits : ℕ → List ℕ → List ℕ
front_digits radix text = take_while (λ byte. nat_lt (digit_of byte) radix) text

-- the number of the longest front of digits; none without a digit
unfoldable pub text_number : ℕ → List ℕ → Option ℕ
text_number radix text =
    let digits = front_digits radix text in
    if length digits == 0 then None else Some (digits_number radix digits)

-- ---- big, little

-- the number in bytes, in a byte order or as a text
unfoldable pub bytes_number : Base → List ℕ → Option ℕ
bytes_number (base.Binary little) bytes =
    Some (if little then little_from 0 (length bytes) bytes else big_from 0 (length bytes) bytes)
bytes_number base.Dec bytes = text_number 10 bytes
bytes_number base.Hex bytes = text_number 16 bytes
bytes_number base.Oct bytes = text_number 8 bytes

-- ---- byte_test, byte_jump, byte_extract: the number that they take

-- a whole number as a place of the payload; none below its start
abbrev pub place_of : ℤ → Option ℕ
place_of (pos place) = Some place
place_of (negsuc before) = None

-- this many bytes of the payload from a place on; none if they don't all lie in it
abbrev pub bytes_from : List ℕ → ℕ → ℕ → Option (List ℕ)
bytes_from payload count start =
    if nat_le (start + count) (length payload) then Some (slice payload start (start + count)) else None

-- a number that was fetched, and the place after its bytes
pub record Fetched : Type 0 where
  pub number : ℕ
  pub stop : ℕ

-- what a fetch gives; nothing unless all its bytes lie in the payload and hold a number
unfoldable pub fetched : List ℕ → Fetch → Point → Option Fetched
fetched payload fetch before = do
  start ← place_of (pos (origin fetch.relative before) +ℤ number_of before.values fetch.offset)
  bytes ← bytes_from payload fetch.bytes start
  number ← bytes_number fetch.base bytes
  Some (record { number = number; stop = start + fetch.bytes })

-- ---- align

-- a number rounded up to a multiple of `step`, or as it is where that is 0
abbrev pub rounded_up : ℕ → ℕ → ℕ
rounded_up step number = if step == 0 then number else (number + (step - 1)) / step * step
