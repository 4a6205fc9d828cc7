-- Addresses of both versions as texts, and the addresses that share a prefix with one.
--
-- An address of version 4 is four decimal numbers of one to three digits, each at most 255, with dots
-- between them. One of version 6 is eight groups of one to four hexadecimal digits with colons between
-- them, or fewer with one `::`, which stands for at least one group of zeros; a dotted ending is refused.
-- After a `/` comes how many of its first bits count, from 0 to 32 or 128; the others are read as zeros.
-- (RFC 4291, sections 2.2 and 2.3; RFC 4632, section 3.1; Snort Users Manual 2.9, "IP Addresses". That
-- dotted endings are refused is our own.)
-- To try it on: `10.1.2.3/8` is 10.0.0.0 with 8 bits, and `2001:db8::8:800:200c:417a` has two zero groups.
use Rattle.std.specs.Prelude.{ℕ, ◌+◌, ◌-◌, ◌*◌, ◌%◌, ◌^◌, ◌<◌, ◌≤◌, ◌==◌, ◌&&◌, Bool, Option, Some, None, List, [], ◌∷◌, ◌++◌, length, take, drop, fold, position, replicate, codes, nat_eq, nat_le, nat_lt, if◌then◌else◌}
use Rattle.std.specs.List.{list_all, slice_split, starts_with}
use Rattle.std.specs.Option.{option_map}
use Rattle.std.specs.Char.{is_ascii_hexdigit}
use Rattle.edge_io.specs.OnOption.{◌>>=◌}
use Rattle.edge_io.specs.declared.address.Addr.{Addr}
use Rattle.edge_io.specs.declared.address.Addr.TheVariants.{V4, V6}
use Rattle.net_lists.specs.declared.part.AddrBounds.{AddrBounds}
use Rattle.net_lists.specs.declared.part.AddrBounds.TheVariants as bounds
use Rattle.net_lists.specs.declared.network.Network.{Network}
use Rattle.net_lists.specs.Numbers.{digits_upto, number_in}

-- the bytes before the first of these bytes, and those after it
unfoldable pub cut : ℕ → List ℕ → Option (List ℕ × List ℕ)
cut byte text = option_map (λ place. (take place text, drop (place + 1) text)) (position (λ b. b == byte) text)

-- one of the four numbers of an address of version 4
unfoldable pub octet : List ℕ → Option ℕ
octet text = if nat_le (length text) 3 then digits_upto 255 text else None

-- four numbers with dots (46) between them, as one number in network order
unfoldable pub dotted : List ℕ → Option ℕ
dotted text = do
  first ← cut 46 text
  second ← cut 46 first.1
  third ← cut 46 second.1
  a ← octet first.0
  b ← octet second.0
  c ← octet third.0
  d ← octet third.1
  Some (((a * 256 + b) * 256 + c) * 256 + d)

-- the value of a hexadecimal digit: 0 to 9 (48 to 57), A to F (65 to 70) or a to f (97 to 102)
abbrev pub hex_digit : ℕ → ℕ
hex_digit digit = if nat_lt digit 65 then digit - 48 else if nat_lt digit 97 then digit - 55 else digit - 87

-- the number that hexadecimal digits spell
unfoldable pub hex_value : List ℕ → ℕ
hex_value digits = fold (λ value digit. value * 16 + hex_digit digit) 0 digits

-- one to four hexadecimal digits
abbrev pub is_group : List ℕ → Bool
is_group text = (nat_le 1 (length text) && nat_le (length text) 4) && list_all is_ascii_hexdigit text

-- a group of an address of version 6
unfoldable pub group : List ℕ → Option ℕ
group text = if is_group text then Some (hex_value text) else None

-- the groups that these pieces are, where each is one
unfoldable pub groups_of : List (List ℕ) → Option (List ℕ)
groups_of [] = Some []
groups_of (piece ∷ pieces) = do
  first ← group piece
  others ← groups_of pieces
  Some (first ∷ others)

-- groups with colons (58) between them; an empty text has none
unfoldable pub groups : List ℕ → Option (List ℕ)
groups [] = Some []
groups (byte ∷ rest) = groups_of (slice_split (λ b. b == 58) (byte ∷ rest))

-- the number that groups make, in network order
unfoldable pub groups_value : List ℕ → ℕ
groups_value groups = fold (λ value group. value * 65536 + group) 0 groups

-- the place of the first `::`
unfoldable pub gap_place : List ℕ → Option ℕ
gap_place [] = None
gap_place (byte ∷ rest) =
    if starts_with nat_eq (byte ∷ rest) (codes "::") then Some 0 else option_map (λ place. 1 + place) (gap_place rest)

-- what comes before the first `::` and after it
unfoldable pub gap : List ℕ → Option (List ℕ × List ℕ)
gap text = option_map (λ place. (take place text, drop (place + 2) text)) (gap_place text)

-- eight groups
unfoldable pub address_of : List ℕ → Option ℕ
address_of groups = if length groups == 8 then Some (groups_value groups) else None

-- seven groups at most before and after a `::`, and zeros between them
unfoldable pub address_around : List ℕ → List ℕ → Option ℕ
address_around front back =
    if nat_le (length front + length back) 7
    then Some (groups_value (front ++ (replicate (8 - (length front + length back)) 0 ++ back)))
    else None

-- groups with colons between them, and with a `::` perhaps, as one number in network order
unfoldable pub colons : List ℕ → Option ℕ
colons text = elim (gap text) [
  | None ↦ groups text >>= address_of
  | Some sides ↦ groups sides.0 >>= λ front. groups sides.1 >>= λ back. address_around front back
]

-- an address of version 4, or else of version 6
unfoldable pub address : List ℕ → Option Addr
address text = elim (dotted text) [
  | Some value ↦ Some (V4 value)
  | None ↦ option_map V6 (colons text)
]

-- how many bits an address has
abbrev pub bits_of : Addr → ℕ
bits_of (V4 value) = 32
bits_of (V6 value) = 128

-- the number without what its last bits say
abbrev pub cleared : ℕ → ℕ → ℕ
cleared value last = value - value % 2 ^ last

-- the addresses that agree with this one in their first `length` bits
abbrev pub network_at : Addr → ℕ → Network
network_at (V4 value) length = record { first = V4 (cleared value (32 - length)); length = length }
network_at (V6 value) length = record { first = V6 (cleared value (128 - length)); length = length }

-- an address, and after a slash (47) how many bits of it count; all, where there is no slash
unfoldable pub network : List ℕ → Option Network
network text = elim (cut 47 text) [
  | None ↦ option_map (λ whole. network_at whole (bits_of whole)) (address text)
  | Some part ↦ address part.0 >>= λ whole. option_map (network_at whole) (number_in 0 (bits_of whole) part.1)
]

-- the last address of a network, as a number
abbrev pub last_of : Addr → ℕ → ℕ
last_of (V4 value) length = value + (2 ^ (32 - length) - 1)
last_of (V6 value) length = value + (2 ^ (128 - length) - 1)

-- no more bits than an address has, and none after them
abbrev pub IsNetwork : Network → Type 0
IsNetwork net = (net.length ≤ bits_of net.first) × (last_of net.first net.length < 2 ^ bits_of net.first)

-- the bounds from the first address of a network to the last
abbrev pub bounds_at : Addr → ℕ → AddrBounds
bounds_at (V4 value) length = bounds.V4 (record { low = value; high = value + (2 ^ (32 - length) - 1) })
bounds_at (V6 value) length = bounds.V6 (record { low = value; high = value + (2 ^ (128 - length) - 1) })

-- an address part of a list: the addresses of a network
unfoldable pub address_bounds : List ℕ → Option AddrBounds
address_bounds text = option_map (λ net. bounds_at net.first net.length) (network text)
