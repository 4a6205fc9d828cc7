-- Sets of places, as lists that rise, and what an option leads to from them.
use Rattle.std.specs.Prelude.{◌≡◌, ℕ, ◌+◌, ◌<◌, ◌≤◌, ℤ, pos, ◌+ℤ◌, ◌≤ℤ◌, Bool, ◌&&◌, ◌||◌, not, ◌⊎◌, List, [], ◌∷◌, ◌++◌, length, Contains, Option, Some, None, IfSome, MatchBool, unwrap_or, if◌then◌else◌}
use Rattle.std.specs.Coded.{×_prop, le_prop}
use Rattle.memchr.specs.Find.{OccursAt}
use Rattle.edge_io.specs.Matching.{folded}
use Rattle.rule_types.specs.declared.option.Content.{Content}
use Rattle.rule_types.specs.declared.option.Opt.{Opt}
use Rattle.option_eval.specs.Numbers.{Point, number_if}
use Rattle.option_eval.specs.Places.{Means, Leads, IsFoundAt, is_only, sought}
use Rattle.option_eval.specs.declared.reach.Reach.{Reach}

-- places that rise, from one on and below another
abbrev pub IsRising : ℕ → List ℕ → ℕ → Type 0
IsRising low [] high = low ≤ high
IsRising low (place ∷ places) high = (low ≤ place) × IsRising (place + 1) places high

-- a type can have it as a fact
pub IsRising-prop : (low : ℕ) (places : List ℕ) (high : ℕ) → IsProp (IsRising low places high)
IsRising-prop low [] high = le_prop
IsRising-prop low (place ∷ places) high = ×_prop le_prop (IsRising-prop (place + 1) places high)

-- a place is in the set, where every place is wanted; else some place is
abbrev pub IsGot : Bool → List ℕ → ℕ → Type 0
IsGot every places place = MatchBool every (Contains places place) (0 < length places)

-- the set has places of a kind alone, and every one of them if every one is wanted, else one if there is one
pub record Gathers (every : Bool) (P : ℕ → Type 0) (places : List ℕ) : Type 0 where
  pub sound : (q : ℕ) → Contains places q → P q
  pub complete : (q : ℕ) → P q → IsGot every places q

-- the point at a place with these values
abbrev pub point : List ℕ → ℕ → Point
point values place = record { place = place; values = values }

-- the option leads from one place to another, and leaves the values
abbrev pub LeadsFrom : Means → List ℕ → List ℕ → Opt → ℕ → ℕ → Type 0
LeadsFrom means payload values option p q = Leads means payload option (point values p) (point values q)

-- the option leads to a place from one of the set
abbrev pub IsLedTo : (ℕ → ℕ → Type 0) → List ℕ → ℕ → Type 0
IsLedTo leads places q = (p : ℕ) × Contains places p × leads p q

-- some relation leads from a place to this one alone, or nowhere
abbrev pub LeadsOnlyTo : (ℕ → Type 0) → Option ℕ → Type 0
LeadsOnlyTo leads None = (q : ℕ) → ¬ leads q
LeadsOnlyTo leads (Some place) = leads place × ((q : ℕ) → leads q → q ≡ place)

-- a content of this size that is at place i is within reach of a place
pub record IsWithin (reach : Reach) (size place i : ℕ) : Type 0 where
  pub low : (pos place +ℤ reach.from) ≤ℤ pos i
  pub high : IfSome reach.room (λ room. pos (i + size) ≤ℤ ((pos place +ℤ reach.from) +ℤ room))

-- bytes occur at a place of the payload, in either case or as they are
abbrev pub Occurs : Bool → List ℕ → List ℕ → ℕ → Type 0
Occurs nocase payload bytes i = OccursAt (folded nocase payload) (folded nocase bytes) i

-- bytes end at a place, and lie within reach of some place of the set
abbrev pub IsHitFrom : Bool → List ℕ → List ℕ → Reach → List ℕ → ℕ → Type 0
IsHitFrom nocase payload bytes reach places q =
    (p : ℕ) × (i : ℕ) × Contains places p × IsWithin reach (length bytes) p i × Occurs nocase payload bytes i
    × (q ≡ i + length bytes)

-- bytes end at a place, and begin from one place on and below another
abbrev pub IsHitIn : Bool → List ℕ → List ℕ → ℕ → ℕ → ℕ → Type 0
IsHitIn nocase payload bytes low end q = (i : ℕ) × (low ≤ i) × (i < end) × Occurs nocase payload bytes i × (q ≡ i + length bytes)

-- places of a kind are added to a set: every one if every one is wanted, else one if there is one
pub record Adds (every : Bool) (P : ℕ → Type 0) (old new : List ℕ) : Type 0 where
  pub sound : (q : ℕ) → Contains new q → Contains old q ⊎ P q
  pub kept : (q : ℕ) → Contains old q → Contains new q
  pub complete : (q : ℕ) → P q → IsGot every new q

-- a whole number is this place of a payload of `len` bytes, or is none
abbrev pub PlaceIn : ℤ → ℕ → Option ℕ → Type 0
PlaceIn place len None = (q : ℕ) → q ≤ len → ¬ (pos q ≡ place)
PlaceIn place len (Some q) = (q ≤ len) × (pos q ≡ place)

-- places, and one more if there is one
abbrev pub with_if : List ℕ → Option ℕ → List ℕ
with_if places None = places
with_if places (Some place) = places ++ place ∷ []

-- numbers that don't fall
abbrev pub IsAscending : ℕ → List ℕ → Type 0
IsAscending low [] = Unit {0}
IsAscending low (x ∷ xs) = (low ≤ x) × IsAscending x xs

-- ---- content: offset, depth, distance, within; nocase

-- `offset`, or `distance`: how far from its origin a content is at least
abbrev pub reach_from : Content → List ℕ → ℤ
reach_from content values = if is_only content.fast then pos 0 else unwrap_or (number_if values content.from) (pos 0)

-- `depth`, or `within`: in how many bytes from there it lies
abbrev pub reach_room : Content → List ℕ → Option ℤ
reach_room content values = if is_only content.fast then None else number_if values content.room

-- `nocase`: in either case
abbrev pub folds_case : Content → Bool
folds_case content = is_only content.fast || content.nocase

-- where a content counts from: the place before it, if it is relative, or the payload's start
abbrev pub content_origin : Content → ℕ → ℕ
content_origin content place = if not (is_only content.fast) && content.relative then place else 0

-- the content occurs somewhere, seen from a place
abbrev pub IsFoundFrom : List ℕ → Content → List ℕ → ℕ → Type 0
IsFoundFrom payload content values place = (i : ℕ) × IsFoundAt content.bytes payload (sought content (point values place)) i
