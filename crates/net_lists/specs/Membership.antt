-- Which addresses and ports a list has: the lists of the Snort Users Manual 2.9, "IP Addresses" and
-- "Port Numbers". A part has addresses of its own version alone.
--
-- To try it on: the parts 10.0.0.0 to 10.255.255.255 and, negated, 10.1.0.0 to 10.1.255.255 list
-- 10.2.3.4 and neither 10.1.3.4 nor 11.0.0.1; negated parts alone list all that none of them has.
use Rattle.std.specs.Prelude.{◌≡◌, ℕ, ◌≤◌, ◌⊎◌, ◌&&◌, ◌||◌, Bool, List, All, Any, nat_le, not, true, false}
use Rattle.std.specs.List.{list_any, list_all}
use Rattle.edge_io.specs.declared.address.Addr.{Addr}
use Rattle.edge_io.specs.declared.address.Addr.TheVariants as addr
use Rattle.net_lists.specs.declared.part.ValueBounds.{ValueBounds}
use Rattle.net_lists.specs.declared.part.AddrBounds.{AddrBounds}
use Rattle.net_lists.specs.declared.part.AddrBounds.TheVariants as bounds
use Rattle.net_lists.specs.declared.part.Part.{Part}

-- the part has no `!` before it
abbrev pub IsPositive : {B : Type 0} → Part B → Type 0
IsPositive part = part.negated ≡ false

-- the part comes after a `!`, its own or that of a bracket around it
abbrev pub IsNegated : {B : Type 0} → Part B → Type 0
IsNegated part = part.negated ≡ true

-- some positive part has it, or there is no positive part; and no negated part has it
abbrev pub IsListed : {B : Type 0} → (B → Type 0) → List (Part B) → Type 0
IsListed has parts = (Any (λ part. IsPositive part × has part.bounds) parts ⊎ All IsNegated parts)
    × All (λ part. IsNegated part → ¬ has part.bounds) parts

-- the value lies from the lowest to the highest
abbrev pub Has : ℕ → ValueBounds ℕ → Type 0
Has value bounds = (bounds.low ≤ value) × (value ≤ bounds.high)

-- the bounds have the address, which is of their version
abbrev pub HasAddress : Addr → AddrBounds → Type 0
HasAddress (addr.V4 value) (bounds.V4 within) = Has value within
HasAddress (addr.V4 value) (bounds.V6 within) = ⊥
HasAddress (addr.V6 value) (bounds.V4 within) = ⊥
HasAddress (addr.V6 value) (bounds.V6 within) = Has value within

-- Whether a list has a port, as a test.

-- the port lies between the part's bounds
abbrev pub is_in : ℕ → Part (ValueBounds ℕ) → Bool
is_in port part = nat_le part.bounds.low port && nat_le port part.bounds.high

-- the list has the port: some part has it, or all parts are negated; and no negated part has it
unfoldable pub has_port : List (Part (ValueBounds ℕ)) → ℕ → Bool
has_port parts port =
    (list_any (λ part. not part.negated && is_in port part) parts || list_all (λ part. part.negated) parts)
    && not (list_any (λ part. part.negated && is_in port part) parts)
