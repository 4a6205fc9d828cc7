-- How the groups of an address of version 6 are read one after another: how many there are so far, and the
-- number that they make. That this gives the same as the list of groups is proved of it.
--
-- To try it on: after `2001:db8` there are 2 groups, which make 0x20010db8.
use denote.Ref.{Bor}
use Rattle.std.specs.Prelude.{ℕ, ◌+◌, ◌-◌, ◌*◌, ◌^◌, ◌<◌, ◌≤◌, ◌==◌, Option, Some, None, List, [], ◌∷◌, length, nat_le, if◌then◌else◌}
use Rattle.std.specs.List.{slice_split}
use Rattle.edge_io.specs.OnOption.{◌>>=◌}
use Rattle.net_lists.specs.declared.address6.AddrGroups.{AddrGroups}
use Rattle.net_lists.specs.Addresses.{group, groups_value}

-- at most eight groups, and a number that as many groups make
abbrev pub IsSmall : AddrGroups → Type 0
IsSmall groups = (groups.count ≤ 8) × (groups.value < 2 ^ (16 * groups.count))

-- the pieces between colons (58) that are left of a text
abbrev pub pieces_left : Option (Bor (List ℕ)) → List (List ℕ)
pieces_left None = []
pieces_left (Some text) = slice_split (λ b. b == 58) text.now

-- the groups with one more, if there are fewer than eight
abbrev pub with_group : AddrGroups → ℕ → Option AddrGroups
with_group groups next =
    if groups.count == 8 then None else Some (record { count = groups.count + 1; value = groups.value * 65536 + next })

-- the groups so far and those of these pieces
unfoldable pub joined : AddrGroups → List (List ℕ) → Option AddrGroups
joined groups [] = Some groups
joined groups (piece ∷ pieces) = group piece >>= λ next. with_group groups next >>= λ more. joined more pieces

-- these groups, if there are at most eight
abbrev pub groups_upto : Option (List ℕ) → Option AddrGroups
groups_upto None = None
groups_upto (Some groups) = if nat_le (length groups) 8 then Some (record { count = length groups; value = groups_value groups })
    else None

-- the number of eight groups
abbrev pub whole : AddrGroups → Option ℕ
whole groups = if groups.count == 8 then Some groups.value else None

-- the number of groups with zeros between them, where all but one are there at most
abbrev pub around : AddrGroups → AddrGroups → Option ℕ
around front back =
    if nat_le (front.count + back.count) 7 then Some (front.value * 2 ^ (16 * (8 - front.count)) + back.value) else None
