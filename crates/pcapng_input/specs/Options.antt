-- What the options of an interface tell.
--
-- An option list of the pcapng format (draft-ietf-opsawg-pcapng, section 3.5): options one after another,
-- each a code and the length of its value, of two bytes each in the section's byte order, and the value,
-- padded to a multiple of four bytes. The option of code 0 ends the list, and so does its last byte. Of all
-- options only if_tsresol (code 9, section 4.2) is read; of several the last holds.
-- To try it on: 09000100 09000000 00000000 says nanoseconds, and without its last four bytes too; nothing
-- says microseconds; 09000900 00000000 passes the end, and 09000200 09090000 is no resolution.
use Rattle.std.specs.Prelude.{ℕ, zero, suc, ◌+◌, ◌*◌, ◌/◌, ◌==◌, nat_lt, Bool, if◌then◌else◌, List, length, take, drop, Option, Some, None}
use Rattle.pcap_input.specs.Savefile.{number_at}
use Rattle.pcapng_input.specs.declared.resolution.Resolution.{Resolution}
use Rattle.pcapng_input.specs.declared.resolution.Resolution.TheVariants.{TenToMinus}
use Rattle.pcapng_input.specs.Moments.{resolution_in}

-- `size` bytes, and those that fill up the last four
abbrev pub padded : ℕ → ℕ
padded size = (size + 3) / 4 * 4

-- the code and the length of the option that comes first, the bytes from its value on, and its value
abbrev pub option_code : Bool → List ℕ → ℕ
option_code swapped options = number_at swapped 0 2 options

abbrev pub option_length : Bool → List ℕ → ℕ
option_length swapped options = number_at swapped 2 2 options

abbrev pub option_value : Bool → List ℕ → List ℕ
option_value swapped options = take (option_length swapped options) (drop 4 options)

-- the bytes of the option that comes first
abbrev pub option_size : Bool → List ℕ → ℕ
option_size swapped options = 4 + padded (option_length swapped options)

-- the resolution after an option: what it tells, where it tells it, or that so far
abbrev pub found_in : Resolution → ℕ → List ℕ → Option Resolution
found_in so_far code value = if code == 9 then resolution_in value else Some so_far

-- the resolution after at most `most` options, or None where one passes the end or is no resolution
unfoldable pub resolution_along : ℕ → Bool → Resolution → List ℕ → Option Resolution
resolution_along zero swapped so_far options = Some so_far
resolution_along (suc most) swapped so_far options =
    if nat_lt (length options) 4 then Some so_far else
    if option_code swapped options == 0 then Some so_far else
    if nat_lt (length options) (option_size swapped options) then None else
    elim (found_in so_far (option_code swapped options) (option_value swapped options)) [
      | None ↦ None
      | Some resolution ↦ resolution_along most swapped resolution (drop (option_size swapped options) options)
    ]

-- the resolution that these options tell: there are fewer of them than bytes, so all of them
unfoldable pub resolution_told : Bool → List ℕ → Option Resolution
resolution_told swapped options = resolution_along (length options + 1) swapped (TenToMinus 6) options
