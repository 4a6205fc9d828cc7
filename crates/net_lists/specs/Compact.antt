-- How the code keeps the parts of a list of addresses: without a version beside each where all parts are of
-- version 4, and else as they are.
--
-- To try it on: the compact part 10.0.0.0 to 10.255.255.255 stands for the part of version 4 with these
-- bounds.
use Rattle.std.specs.Prelude.{ℕ, List, Any, map}
use Rattle.net_lists.specs.declared.part.ValueBounds.{ValueBounds}
use Rattle.net_lists.specs.declared.part.AddrBounds.{AddrBounds}
use Rattle.net_lists.specs.declared.part.AddrBounds.TheVariants as bounds
use Rattle.net_lists.specs.declared.part.Part.{Part}
use Rattle.net_lists.specs.declared.compact.Stored.{Stored}
use Rattle.net_lists.specs.declared.compact.Stored.TheVariants as stored
use Rattle.net_lists.specs.declared.address_parts.Left.{Left}
use Rattle.net_lists.specs.declared.address_parts.Left.TheVariants as left

-- the part that a part of version 4 is
abbrev pub with_version : Part (ValueBounds ℕ) → Part AddrBounds
with_version part = record { negated = part.negated; bounds = bounds.V4 part.bounds }

-- the bounds are of version 6
abbrev pub AreOfVersion6 : AddrBounds → Type 0
AreOfVersion6 (bounds.V4 within) = ⊥
AreOfVersion6 (bounds.V6 within) = Unit {0}

-- the part is of version 6
abbrev pub IsOfVersion6 : Part AddrBounds → Type 0
IsOfVersion6 part = AreOfVersion6 part.bounds

-- the parts that are kept
abbrev pub parts_of : Stored → List (Part AddrBounds)
parts_of (stored.V4 parts) = map with_version parts.items
parts_of (stored.Mixed parts) = parts.items

-- parts are kept with their versions only where one of them is of version 6
abbrev pub IsCompact : Stored → Type 0
IsCompact (stored.V4 parts) = Unit {0}
IsCompact (stored.Mixed parts) = Any IsOfVersion6 parts.items

-- the parts that are left
abbrev pub parts_left : Left → List (Part AddrBounds)
parts_left (left.V4 parts) = map with_version parts.now
parts_left (left.Mixed parts) = parts.now
