-- What all parts have together, where one part loses its last entry, and where a number bounds each.
use Rattle.std.proofs.Common.{◌≡◌, ℕ, ◌+◌, ◌-◌, ◌<◌, zero, suc, List, [], ◌∷◌, ◌++◌, length, get_or, set, Vec, All, ap, ◌∙◌, subst, refl, arith, append_assoc, length-append}
use Rattle.std.specs.List.Sorted.{IsPermutation, IsStrictlyIncreasing, IsNonDecreasing}
use Rattle.std.proofs.lemmas.List.{get_or_append_left, get_or-map, length-map, map-append}
use Rattle.std.proofs.lemmas.List.Elements.{All-append, All-head, All-nil, All-tail}
use Rattle.std.proofs.lemmas.List.Sorted.{IsPermutation-append_right, IsPermutation-middle, IsPermutation-trans}
use Rattle.std.proofs.lemmas.Map.Keys.{non_decreasing_from_sorted, sorted_from_strictly_increasing}
use Rattle.ordered_merge.specs.declared.numbered.Numbered.{Numbered}
use Rattle.ordered_merge.specs.Merging.{Ascends, joined, numbers}
use Rattle.ordered_merge.specs.Greatest.{AtMost, EndsIn}

-- where a part loses its last entry, the joined list loses that entry
pub IsPermutation-popped : {T A : Type 0} (parts : List (Vec (Numbered T) A)) (at : ℕ) (left d : Vec (Numbered T) A)
    (entry : Numbered T)
    → at < length parts
    → (get_or parts at d).items ≡ left.items ++ entry ∷ []
    → IsPermutation (joined parts) (entry ∷ joined (set parts at left))
IsPermutation-popped [] at left d entry within is = absurd (omega arith)
IsPermutation-popped (part ∷ parts) zero left d entry within is =
    rw is (rw append_assoc (IsPermutation-middle left.items entry (joined parts)))
IsPermutation-popped (part ∷ parts) (suc at) left d entry within is =
    IsPermutation-trans _ _ _
    (IsPermutation-append_right part.items _ _ (IsPermutation-popped parts at left d entry (omega arith) is))
    (IsPermutation-middle part.items entry (joined (set parts at left)))

-- what holds of each entry of each part holds of each entry of the joined list
pub All-joined : {T A : Type 0} (P : Numbered T → Type 0) (parts : List (Vec (Numbered T) A)) → All (λ part. All P part.items) parts → All P (joined parts)
All-joined P [] each = All-nil P
All-joined P (part ∷ parts) each =
    All-append P part.items (joined parts) (All-head (λ part. All P part.items) part parts each) (All-joined P parts (All-tail (λ part. All P part.items) part parts each))

-- empty parts have no entry together
pub joined_empty : {T A : Type 0} (parts : List (Vec (Numbered T) A)) → All (λ part. part.items ≡ []) parts → joined parts ≡ []
joined_empty [] each = refl
joined_empty (part ∷ parts) each =
    rw (All-head (λ part. part.items ≡ []) part parts each) (joined_empty parts (All-tail (λ part. part.items ≡ []) part parts each))

-- the front of an ascending list ascends
pub IsStrictlyIncreasing-front : (xs ys : List ℕ) → IsStrictlyIncreasing (xs ++ ys) → IsStrictlyIncreasing xs
IsStrictlyIncreasing-front xs ys up k within =
    rw (← get_or_append_left xs ys 0 k (omega arith), ← get_or_append_left xs ys 0 (k + 1) within) (up k (omega (arith, length-append xs ys)))

pub Ascends-front : {T : Type 0} (entries front : List (Numbered T)) (entry : Numbered T) → entries ≡ front ++ entry ∷ [] → Ascends entries → Ascends front
Ascends-front entries front entry is up =
    IsStrictlyIncreasing-front (numbers front) (entry.number ∷ []) (subst IsStrictlyIncreasing (ap numbers is ∙ map-append (λ (entry : Numbered _). entry.number) front (entry ∷ [])) up)

-- the last number of an ascending part is its greatest
pub AtMost-end : {T : Type 0} (number : ℕ) (entries : List (Numbered T)) → Ascends entries → EndsIn number entries → AtMost number entries
AtMost-end {T} number entries up end k d within =
    let some : 0 < length entries = end.some in
    let last : length entries - 1 < length entries = omega arith in
    let rises : IsNonDecreasing (numbers entries) = non_decreasing_from_sorted (numbers entries) (sorted_from_strictly_increasing (numbers entries) up) in
    let here = get_or-map (λ (entry : Numbered T). entry.number) entries k d 0 within in
    let there = get_or-map (λ (entry : Numbered T). entry.number) entries (length entries - 1) d 0 last in
    let below = rises k (length entries - 1) 0 (omega arith) (omega (arith, length-map entries (λ (entry : Numbered T). entry.number))) in
    omega (arith, here, there, below, end.numbered d)
