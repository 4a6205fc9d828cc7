-- Answers along a list of inputs, where each answer may depend on the inputs before it.
--
-- It is a map in which the function is given what comes before each input beside the input, and the one
-- notion of memory of the detector: records to their jobs, jobs to the rules that match, events to lines.
-- To try it on: with `f before x = length before + x`, `along f (5 ∷ 5 ∷ 5 ∷ []) ≡ 5 ∷ 6 ∷ 7 ∷ []`; with
-- `f before x = before`, `trail f (1 ∷ 2 ∷ 3 ∷ []) ≡ 1 ∷ 1 ∷ 2 ∷ []`.
use Rattle.std.specs.Prelude.{◌≡◌, ℕ, Bool, true, List, [], ◌∷◌, ◌++◌, map}
use Rattle.std.specs.List.{filter}
use Rattle.std.specs.List.Sorted.{IsStrictlyIncreasing}

-- an answer to each input, where these inputs come before the first
abbrev pub along_from : {X A : Type 0} → (List X → X → A) → List X → List X → List A
along_from f before [] = []
along_from f before (x ∷ xs) = f before x ∷ along_from f (before ++ x ∷ []) xs

-- an answer to each input
abbrev pub along : {X A : Type 0} → (List X → X → A) → List X → List A
along f xs = along_from f [] xs

-- a list of answers to each input, joined, where these inputs come before the first
abbrev pub trail_from : {X A : Type 0} → (List X → X → List A) → List X → List X → List A
trail_from f before [] = []
trail_from f before (x ∷ xs) = f before x ++ trail_from f (before ++ x ∷ []) xs

-- a list of answers to each input, joined
abbrev pub trail : {X A : Type 0} → (List X → X → List A) → List X → List A
trail f xs = trail_from f [] xs

-- two stages, one after the other: the answers of the first are the inputs of the second
abbrev pub chained : {X B A : Type 0} → (List B → B → List A) → (List X → X → List B) → List X → X → List A
chained g f before x = trail_from g (trail f before) (f before x)

-- an answer that looks at the earlier inputs of its own input's class alone
abbrev pub within : {X A : Type 0} → (X → X → Bool) → (List X → X → A) → List X → X → A
within same f before x = f (filter (same x) before) x

-- the answer is the same where only the earlier inputs of its own input's class come before
abbrev pub IsLocal : {X A : Type 0} → (X → X → Bool) → (List X → X → A) → Type 0
IsLocal {X} same f = (before : List X) (x : X) → f before x ≡ f (filter (same x) before) x

-- the test keeps all inputs of a class or none
abbrev pub IsByClass : {X : Type 0} → (X → X → Bool) → (X → Bool) → Type 0
IsByClass {X} same keep = (x y : X) → same x y ≡ true → keep x ≡ keep y

-- the answer beside its input
abbrev pub told : {X A : Type 0} → (List X → X → A) → List X → X → X × A
told f before x = (x, f before x)

-- each element has a greater key than the one before it
abbrev pub AscendsBy : {X : Type 0} → (X → ℕ) → List X → Type 0
AscendsBy key xs = IsStrictlyIncreasing (map key xs)
