-- How long an interface's ticks are, and the moment of a number of them.
--
-- The option if_tsresol of the pcapng format (draft-ietf-opsawg-pcapng, section 4.2): one byte. Where its
-- top bit is 0, the rest is a power of ten, and where it is 1, a power of two; a tick is one over that
-- power of a second. Where no option tells it, a tick is a microsecond. That a power of ten is at most 19
-- and a power of two at most 63, and that a moment's nanoseconds fit 64 bits, is this project's own.
-- To try it on: the byte 9 says nanoseconds, 138 says that 1024 ticks are a second, and 20 and 192 say
-- nothing; 1537 ticks of the second kind are 1500976562 nanoseconds.
use Rattle.std.specs.Prelude.{ℕ, ◌-◌, ◌*◌, ◌/◌, ◌^◌, ◌==◌, nat_lt, nat_le, if◌then◌else◌, List, length, slice_index, Option, Some, None}
use Rattle.edge_io.specs.declared.moment.Moment.{Moment}
use Rattle.pcapng_input.specs.declared.resolution.Resolution.{Resolution}
use Rattle.pcapng_input.specs.declared.resolution.Resolution.TheVariants.{TenToMinus, TwoToMinus}

-- how many ticks are a second
abbrev pub ticks_a_second : Resolution → ℕ
ticks_a_second (TenToMinus digits) = 10 ^ digits
ticks_a_second (TwoToMinus bits) = 2 ^ bits

-- the moment of `nanos` nanoseconds, where they fit 64 bits (own)
abbrev pub moment_within : ℕ → Option Moment
moment_within nanos = if nat_lt nanos (2 ^ 64) then Some (record { nanos = nanos }) else None

-- the moment of `ticks` ticks: their nanoseconds, rounded down
unfoldable pub moment_of : Resolution → ℕ → Option Moment
moment_of resolution ticks = moment_within (ticks * 1000000000 / ticks_a_second resolution)

-- the resolution that this byte tells, where it is one (the limits are own)
unfoldable pub resolution_of_byte : ℕ → Option Resolution
resolution_of_byte byte =
    if nat_le byte 19 then Some (TenToMinus byte) else
    if nat_lt byte 128 then None else
    if nat_le byte 191 then Some (TwoToMinus (byte - 128)) else
    None

-- the resolution that an option's value tells: that of its one byte
unfoldable pub resolution_in : List ℕ → Option Resolution
resolution_in value = if length value == 1 then resolution_of_byte (slice_index value 0) else None
