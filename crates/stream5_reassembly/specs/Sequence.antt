-- Sequence numbers, which go round modulo 2^32, and the places that they stand for.
--
-- RFC 9293, section 3.4: arithmetic on sequence numbers is modulo 2^32. Which of two numbers lies
-- ahead is as in RFC 1982 (serial number arithmetic, at 32 bits), section 3.2, except that of two
-- numbers 2^31 apart, which that document leaves open, the one asked for is not ahead.
-- To try it on: where the base 4294967290 is at place 9000000000, the number 4 is ten
-- places later and the number 4294967285 five places earlier.
use Rattle.std.specs.Prelude.{◌≡◌, ℕ, ◌<◌, ◌≤◌, ◌+◌, ◌-◌, ◌%◌, ◌^◌, nat_lt, if◌then◌else◌}

-- the number `places` places later
abbrev pub seq_after : ℕ → ℕ → ℕ
seq_after seq places = (seq + places) % 2 ^ 32

-- how many places forward it is from the base to a number
abbrev pub ahead : ℕ → ℕ → ℕ
ahead base seq = (seq + (2 ^ 32 - base)) % 2 ^ 32

-- the place of a number, where the base is at this place: less than 2^31 forward from it, or at
-- most 2^31 back
abbrev pub place_of : ℕ → ℕ → ℕ → ℕ
place_of place base seq =
    if nat_lt (ahead base seq) (2 ^ 31) then place + ahead base seq else place - (2 ^ 32 - ahead base seq)

-- what the place of a number is: going forward from the earlier of the two places to the later one leads
-- from the one's number to the other's, and no other place within half of the numbers has this
pub record IsNearest (place base seq at : ℕ) : Type 0 where
  pub forward : place ≤ at → seq_after base (at - place) ≡ seq
  pub back : at ≤ place → seq_after seq (place - at) ≡ base
  pub not_before : place ≤ at + 2 ^ 31
  pub not_beyond : at < place + 2 ^ 31
