-- The flowbit names after a step that may add some, beside what the step gives.
--
-- The names before stay in front, also where a step is refused, so that they are found again.
-- To try it on: an `Ok` of a draft beside these names gives what is meant if that is the pair of both.
use Rattle.std.specs.Prelude.{◌≡◌, ℕ, ⊤, Result, Ok, Err, List, length, take}
use Rattle.net_lists.specs.declared.stop.Stop.{Stop}
use Rattle.net_lists.specs.declared.stop.Stop.TheVariants.{NoMemory, Wrong}
use Rattle.rule_parser.specs.declared.fault.Fault.{Fault}

-- an answer beside these names is what is meant; want of memory is for any
abbrev pub GivesWith : {X : Type 0} → Result X (Stop Fault) → List (List ℕ) → Result (X × List (List ℕ)) Fault → Type 0
GivesWith (Ok x) names meant = meant ≡ Ok (x, names)
GivesWith (Err NoMemory) names meant = ⊤
GivesWith (Err (Wrong why)) names meant = meant ≡ Err why

-- an answer beside these names is one that is meant, by a relation; want of memory is for any
abbrev pub IsGivenWith : {X : Type 0} → Result X (Stop Fault) → List (List ℕ) → (Result (X × List (List ℕ)) Fault → Type 0)
    → Type 0
IsGivenWith (Ok x) names IsMeant = IsMeant (Ok (x, names))
IsGivenWith (Err NoMemory) names IsMeant = ⊤
IsGivenWith (Err (Wrong why)) names IsMeant = IsMeant (Err why)

-- a number after these names is what is meant; want of memory is for any
abbrev pub GivesNumber : Result ℕ (Stop Fault) → List (List ℕ) → Result (List (List ℕ) × ℕ) Fault → Type 0
GivesNumber (Ok number) names meant = meant ≡ Ok (names, number)
GivesNumber (Err NoMemory) names meant = ⊤
GivesNumber (Err (Wrong why)) names meant = meant ≡ Err why

-- the names before are in front
abbrev pub Begins : List (List ℕ) → List (List ℕ) → Type 0
Begins old new = take (length old) new ≡ old
