-- How one pass over the parts of a list finds whether the list has a value. That it says exactly what
-- membership is, is proved of it.
--
-- To try it on: with no part left, a value is listed where a positive part had it or none was positive.
use Rattle.std.specs.Prelude.{ℕ, Bool, false, not, ◌&&◌, ◌||◌, nat_le, List, [], ◌∷◌, if◌then◌else◌}
use Rattle.edge_io.specs.declared.address.Addr.{Addr}
use Rattle.edge_io.specs.declared.address.Addr.TheVariants as addr
use Rattle.net_lists.specs.declared.part.ValueBounds.{ValueBounds}
use Rattle.net_lists.specs.declared.part.AddrBounds.{AddrBounds}
use Rattle.net_lists.specs.declared.part.AddrBounds.TheVariants as bounds
use Rattle.net_lists.specs.declared.part.Part.{Part}

-- the value lies within the bounds
abbrev pub is_within : ℕ → ValueBounds ℕ → Bool
is_within value bounds = nat_le bounds.low value && nat_le value bounds.high

-- the bounds have the address, which is of their version
abbrev pub has_address : Addr → AddrBounds → Bool
has_address (addr.V4 value) (bounds.V4 within) = is_within value within
has_address (addr.V4 value) (bounds.V6 within) = false
has_address (addr.V6 value) (bounds.V4 within) = false
has_address (addr.V6 value) (bounds.V6 within) = is_within value within

-- the verdict on what is left: whether a positive part had the value before, and whether there was one
unfoldable pub verdict : {B : Type 0} → (B → Bool) → Bool → Bool → List (Part B) → Bool
verdict has found positive [] = found || not positive
verdict has found positive (part ∷ parts) =
    if has part.bounds && part.negated then false
    else verdict has (found || has part.bounds) (positive || not part.negated) parts

-- the value is listed
abbrev pub is_listed : {B : Type 0} → (B → Bool) → List (Part B) → Bool
is_listed has parts = verdict has false false parts
