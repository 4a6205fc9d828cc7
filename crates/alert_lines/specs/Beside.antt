-- Answers along a list whose inputs are beside what they come from.
--
-- The answers to an input are beside the same source, and no answer looks at a source: so what is carried
-- along changes nothing of what is answered. To try it on: where `f before x = x ∷ x ∷ []`, the inputs 5 and
-- 6 beside `a` and `b` give 5 and 5 beside `a`, and 6 and 6 beside `b`.
use Rattle.std.specs.Prelude.{ℕ, ◌+◌, List, [], ◌∷◌, ◌++◌, length, map, option_and_then, replicate, slice_get, unwrap_or}

-- something, and what it comes from
pub record Beside (S X : Type 0) : Type 0 where
  pub source : S
  pub what : X

abbrev pub beside : {S X : Type 0} → S → X → Beside S X
beside source what = record { source = source; what = what }

-- what is beside its sources, without these
abbrev pub whats : {S X : Type 0} → List (Beside S X) → List X
whats {S} {X} all = map (λ (b : Beside S X). b.what) all

-- a list of answers to each input, joined, where these inputs come before the first (`trail_from`), each
-- answer beside its input's source
abbrev pub carried : {S X A : Type 0} → (List X → X → List A) → List X → List (Beside S X) → List (Beside S A)
carried f before [] = []
carried f before (b ∷ later) = map (beside b.source) (f before b.what) ++ carried f (before ++ b.what ∷ []) later

-- the answers to an input, each beside that input
abbrev pub own : {S A : Type 0} → (List S → S → List A) → List S → S → List (Beside S A)
own f before x = map (beside x) (f before x)

-- ---- by places

-- a list from this place on, each element beside what this function says of its place
abbrev pub by_place : {S X : Type 0} → (ℕ → S) → ℕ → List X → List (Beside S X)
by_place source place [] = []
by_place source place (x ∷ later) = beside (source place) x ∷ by_place source (place + 1) later

-- the source whose place is told at a place, or the last one where none is
abbrev pub source_in : {S : Type 0} → List S → S → List ℕ → ℕ → S
source_in sources last places place = unwrap_or (option_and_then (slice_get sources) (slice_get places place)) last

-- for each answer to these inputs the place of its input, of which the first has this one
abbrev pub places_along : {S A : Type 0} → (List S → S → List A) → List S → ℕ → List S → List ℕ
places_along f before place [] = []
places_along f before place (x ∷ later) =
    replicate (length (f before x)) place ++ places_along f (before ++ x ∷ []) (place + 1) later
