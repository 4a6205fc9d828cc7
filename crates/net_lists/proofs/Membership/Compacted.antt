-- The verdict on parts of version 4 that are kept without their version is that on the parts.
use Rattle.std.proofs.Common.{◌≡◌, ℕ, ◌+◌, ◌<◌, ◌≤◌, Bool, false, not, ◌&&◌, ◌||◌, cond, List, [], ◌∷◌, ◌++◌, length, map, take, get_or, Any, refl, sym, ap, ◌∙◌}
use Rattle.std.proofs.lemmas.List.{map-append, take_more, take_all}
use Rattle.edge_io.specs.declared.address.Addr.TheVariants as addr
use Rattle.net_lists.specs.declared.part.ValueBounds.{ValueBounds}
use Rattle.net_lists.specs.declared.part.AddrBounds.{AddrBounds}
use Rattle.net_lists.specs.declared.part.AddrBounds.TheVariants as bounds
use Rattle.net_lists.specs.declared.part.Part.{Part}
use Rattle.net_lists.specs.Compact.{with_version, IsOfVersion6}
use Rattle.net_lists.specs.Verdicts.{is_within, has_address, verdict, is_listed}

-- a test of bounds with their version, at bounds of version 4
abbrev at_4 : (AddrBounds → Bool) → ValueBounds ℕ → Bool
at_4 has within = has (bounds.V4 within)

verdict-map : (has : AddrBounds → Bool) (found positive : Bool) (parts : List (Part (ValueBounds ℕ))) → verdict has found positive (map with_version parts) ≡ verdict (at_4 has) found positive parts
unfolding verdict
verdict-map has found positive [] = refl
verdict-map has found positive (part ∷ parts) =
    ap (λ rest. cond (has (bounds.V4 part.bounds) && part.negated) false rest) (verdict-map has (found || has (bounds.V4 part.bounds)) (positive || not part.negated) parts)

-- an address of version 4
pub listed_of_4 : (value : ℕ) (parts : List (Part (ValueBounds ℕ))) → is_listed (has_address (addr.V4 value)) (map with_version parts) ≡ is_listed (is_within value) parts
listed_of_4 value parts = verdict-map (has_address (addr.V4 value)) false false parts

-- an address of version 6, which no bounds of version 4 have
pub listed_of_6 : (value : ℕ) (parts : List (Part (ValueBounds ℕ))) → is_listed (has_address (addr.V6 value)) (map with_version parts) ≡ is_listed (λ (within : ValueBounds ℕ). false) parts
listed_of_6 value parts = verdict-map (has_address (addr.V6 value)) false false parts

pub ruleset verdicts = (listed_of_4, listed_of_6)

-- a part more that is kept, after the last, and one that can't be
pub kept_more : (parts : List (Part AddrBounds)) (i : ℕ) (part : Part AddrBounds) (kept : Part (ValueBounds ℕ))
    (compact after : List (Part (ValueBounds ℕ)))
    → map with_version compact ≡ take i parts
    → i < length parts
    → part ≡ get_or parts i part
    → with_version kept ≡ part
    → after ≡ compact ++ kept ∷ []
    → map with_version after ≡ take (i + 1) parts
kept_more parts i part kept compact after so_far within here same pushed =
    ap (map with_version) pushed ∙ map-append with_version compact (kept ∷ [])
    ∙ ap (λ front. front ++ with_version kept ∷ []) so_far
    ∙ ap (λ last. take i parts ++ last ∷ []) (same ∙ here)
    ∙ sym (take_more parts i part within)

pub kept_all : (parts : List (Part AddrBounds)) (i : ℕ) (compact : List (Part (ValueBounds ℕ))) → map with_version compact ≡ take i parts → length parts ≤ i → map with_version compact ≡ parts
kept_all parts i compact so_far past = so_far ∙ take_all i parts past

pub not_kept : (parts : List (Part AddrBounds)) (i : ℕ) (part : Part AddrBounds) → i < length parts → part ≡ get_or parts i part → IsOfVersion6 part → Any IsOfVersion6 parts
not_kept parts i part within here is_6 = (i, part, within, sym here, is_6)

pub ruleset keeping = (kept_more, kept_all, not_kept)

-- no parts are kept as none
pub none_kept : (parts : List (Part (ValueBounds ℕ))) → map with_version parts ≡ [] → parts ≡ []
none_kept [] e = refl
none_kept (part ∷ parts) e = cc

-- the first of the parts that are left
pub first_left : (parts : List (Part (ValueBounds ℕ))) (first : Part (ValueBounds ℕ)) (rest : List (Part (ValueBounds ℕ)))
    → parts ≡ first ∷ rest
    → map with_version parts ≡ with_version first ∷ map with_version rest
first_left parts first rest e = ap (map with_version) e

pub none_left : (parts : List (Part (ValueBounds ℕ))) → parts ≡ [] → map with_version parts ≡ []
none_left parts e = ap (map with_version) e

pub ruleset leaving = (first_left, none_left)
