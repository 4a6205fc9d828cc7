-- A list that is taken from another, the greatest first, and read from its end.
use Rattle.std.proofs.Common.{◌≡◌, ℕ, ◌-◌, ◌<◌, ◌≤◌, List, [], ◌∷◌, ◌++◌, length, get_or, eqb, reverse, All, inl, inr, ap, arith}
use Rattle.std.specs.List.{IsDistinct}
use Rattle.std.specs.List.Sorted.{IsPermutation, IsNonDecreasing}
use Rattle.std.proofs.lemmas.Bool.{cases_lt}
use Rattle.std.proofs.lemmas.List.{get_or-map, get_or-reverse, length-map, length-reverse}
use Rattle.std.proofs.lemmas.List.Elements.{All-head, All-push, All-tail}
use Rattle.std.proofs.lemmas.List.Quantifiers.{all_pairs_push}
use Rattle.std.proofs.lemmas.List.Sorted.{All-permutation, IsPermutation-map, IsPermutation-reverse}
use Rattle.std.proofs.lemmas.Map.Keys.{IsDistinct-IsPermutation, IsStrictlyIncreasing-from_distinct}
use Rattle.ordered_merge.specs.declared.numbered.Numbered.{Numbered}
use Rattle.ordered_merge.specs.Merging.{Ascends, numbers}
use Rattle.ordered_merge.specs.Greatest.{AtMost, Falls}
use Rattle.ordered_merge.proofs.Numbers.{eqb_flips}

-- what was taken falls, and nothing that is left is above it
pub record FallsInto {T : Type 0} (taken left : List (Numbered T)) : Type 0 where
  pub falls : Falls taken
  pub above : All (λ entry. AtMost entry.number left) taken

-- a bound of a list is one of the entry that is taken out, and of the rest
AtMost-taken : {T : Type 0} (number : ℕ) (left rest : List (Numbered T)) (entry : Numbered T) → IsPermutation left (entry ∷ rest) → AtMost number left → AtMost number (entry ∷ rest)
AtMost-taken number left rest entry moved = All-permutation (λ entry. entry.number ≤ number) left (entry ∷ rest) moved

-- the greatest of what is left goes after what was taken
pub FallsInto-more : {T : Type 0} (taken left rest : List (Numbered T)) (entry : Numbered T)
    → FallsInto taken left
    → IsPermutation left (entry ∷ rest)
    → AtMost entry.number left
    → FallsInto (taken ++ entry ∷ []) rest
FallsInto-more {T} taken left rest entry so_far moved greatest = record {
  falls =
      all_pairs_push (λ (one other : Numbered T). other.number ≤ one.number) taken entry
      so_far.falls
      (λ k d within. All-head (λ (e : Numbered T). e.number ≤ (get_or taken k d).number) entry rest
      (AtMost-taken (get_or taken k d).number left rest entry moved (so_far.above k d within)));
  above =
      All-push (λ (e : Numbered T). AtMost e.number rest) taken entry
      (λ k d within. All-tail (λ (e : Numbered T). e.number ≤ (get_or taken k d).number) entry rest
      (AtMost-taken (get_or taken k d).number left rest entry moved (so_far.above k d within)))
      (All-tail (λ (e : Numbered T). e.number ≤ entry.number) entry rest
      (AtMost-taken entry.number left rest entry moved greatest));
}

-- the numbers of a falling list, read from its end, do not fall: here with some entry at hand
at_reversed : {T : Type 0} (some : Numbered T) (taken : List (Numbered T))
    → Falls taken
    → (i j d : ℕ)
    → i ≤ j
    → j < length (numbers (reverse taken))
    → get_or (numbers (reverse taken)) i d ≤ get_or (numbers (reverse taken)) j d
at_reversed {T} some taken falls i j d up within =
    let number = λ (entry : Numbered T). entry.number in
    let size = length-map (reverse taken) number in
    let same = length-reverse taken in
    let low = get_or-map number (reverse taken) i some d (omega arith) in
    let high = get_or-map number (reverse taken) j some d (omega arith) in
    let front = ap number (get_or-reverse taken i some (omega arith)) in
    let back = ap number (get_or-reverse taken j some (omega arith)) in
    elim (cases_lt i j) [
      | inl before ↦ omega (arith, falls (length taken - 1 - j) (length taken - 1 - i) some (omega arith) (omega arith), low, high, front, back)
      | inr after ↦ let here : i ≡ j = omega arith in rw here (omega arith)
    ]

IsNonDecreasing-reversed : {T : Type 0} (taken : List (Numbered T)) → Falls taken → IsNonDecreasing (numbers (reverse taken))
IsNonDecreasing-reversed [] falls i j d up within = absurd (omega arith)
IsNonDecreasing-reversed (some ∷ taken) falls i j d up within = at_reversed some (some ∷ taken) falls i j d up within

-- a falling list without equal numbers ascends when it is read from its end
pub Ascends-reversed : {T : Type 0} (taken : List (Numbered T)) → Falls taken → IsDistinct eqb (numbers taken) → Ascends (reverse taken)
Ascends-reversed {T} taken falls apart =
    IsStrictlyIncreasing-from_distinct (numbers (reverse taken)) (IsNonDecreasing-reversed taken falls)
    (IsDistinct-IsPermutation eqb eqb_flips (numbers taken) (numbers (reverse taken))
    (IsPermutation-map (λ (e : Numbered T). e.number) taken (reverse taken) (IsPermutation-reverse taken)) apart)

-- numbers that differ stay so when the entries change places
pub IsDistinct-moved : {T : Type 0} (entries moved : List (Numbered T)) → IsPermutation entries moved → IsDistinct eqb (numbers entries) → IsDistinct eqb (numbers moved)
IsDistinct-moved {T} entries moved permutation =
    IsDistinct-IsPermutation eqb eqb_flips (numbers entries) (numbers moved) (IsPermutation-map (λ (e : Numbered T). e.number) entries moved permutation)
