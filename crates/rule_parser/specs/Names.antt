-- Numbers and extracted names in options.
--
-- Where an option takes a number or a name, a text that is such a number is that number; a text in the form
-- of a name stands for what byte_extract gave under that name before (Snort Users Manual 2.9, section
-- 3.5.33). A name is a letter or `_`, followed by letters, digits and `_`.
-- To try it on: from 0 to 9, where `n` alone was extracted, `5` is 5, `n` is the first name, `m` is unknown,
-- and `10` and `x-y` are wrong values.
use Rattle.std.specs.Prelude.{ℕ, ℤ, pos, Option, Some, None, Result, Ok, Err, List, length, bytes_eq, position, if◌then◌else◌}
use Rattle.net_lists.specs.Numbers.{number_in, signed_in}
use Rattle.net_lists.specs.Variables.{is_name}
use Rattle.rule_parser.specs.declared.fault.Fault.{Fault}
use Rattle.rule_parser.specs.declared.fault.Fault.TheVariants.{OptionValue, Unknown}
use Rattle.rule_types.specs.declared.option.Num.{Num}
use Rattle.rule_types.specs.declared.option.Num.TheVariants.{Value, Name}

-- the place of a text among these
unfoldable pub place_among : List ℕ → List (List ℕ) → Option ℕ
place_among text known = position (λ one. bytes_eq one text) known

-- a name with its place, if it is there; `left` bytes of the line are left where it begins
abbrev pub name_at : ℕ → List ℕ → Option ℕ → Result Num Fault
name_at left text None = Err (Unknown left (length text))
name_at left text (Some place) = Ok (Name place)

-- an extracted name
unfoldable pub named : List (List ℕ) → ℕ → List ℕ → Result Num Fault
named known left text = if is_name text then name_at left text (place_among text known) else Err OptionValue

-- a number, or else a name
abbrev pub or_named : List (List ℕ) → ℕ → List ℕ → Option ℤ → Result Num Fault
or_named known left text None = named known left text
or_named known left text (Some number) = Ok (Value number)

-- a number from `least` to `most`, negative ones among them, or a name
unfoldable pub signed_or_named : ℤ → ℤ → List (List ℕ) → ℕ → List ℕ → Result Num Fault
signed_or_named least most known left text = or_named known left text (signed_in least most text)

-- the number as a signed one
abbrev pub as_signed : Option ℕ → Option ℤ
as_signed None = None
as_signed (Some number) = Some (pos number)

-- a number from `least` to `most`, or a name
unfoldable pub number_or_named : ℕ → ℕ → List (List ℕ) → ℕ → List ℕ → Result Num Fault
number_or_named least most known left text = or_named known left text (as_signed (number_in least most text))
