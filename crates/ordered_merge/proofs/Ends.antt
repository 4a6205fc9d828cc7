-- The greatest end of the parts that have been looked at, as one more part is looked at, and what its
-- removal leaves.
use Rattle.std.proofs.Common.{◌≡◌, ℕ, ◌+◌, ◌-◌, ◌<◌, ◌≤◌, List, [], ◌∷◌, ◌++◌, length, get_or, set, Vec, All, Option, None, Some}
use Rattle.std.proofs.Common.{IfSome, IfNone, option_to_list, sym, ap, ◌∙◌, subst, arith, length-append}
use Rattle.std.specs.List.{AllWithin}
use Rattle.std.specs.List.Sorted.{IsPermutation}
use Rattle.std.proofs.lemmas.List.{append-nil, get_or_at}
use Rattle.std.proofs.lemmas.List.Elements.{All-from_all_within, All-nil, AllWithin-more, at_read}
use Rattle.ordered_merge.specs.declared.greatest.PartEnd.{PartEnd}
use Rattle.ordered_merge.specs.declared.numbered.Numbered.{Numbered}
use Rattle.ordered_merge.specs.Merging.{Ascends, joined}
use Rattle.ordered_merge.specs.Greatest.{AtMost, EndsIn, GreatestUpTo, IsGreatest}
use Rattle.ordered_merge.proofs.Parts.{Ascends-front, AtMost-end, All-joined, IsPermutation-popped}

-- no entry of an empty list is above a number
AtMost-empty : {T : Type 0} (number : ℕ) (entries : List (Numbered T)) → entries ≡ [] → AtMost number entries
AtMost-empty number entries is = rw is (All-nil (λ entry. entry.number ≤ number))

-- an empty part changes nothing
pub GreatestUpTo-empty : {T A : Type 0} (parts : List (Vec (Numbered T) A)) (at : ℕ) (part : Vec (Numbered T) A)
    (greatest : Option PartEnd)
    → GreatestUpTo parts at greatest
    → at < length parts
    → part ≡ get_or parts at part
    → part.items ≡ []
    → GreatestUpTo parts (at + 1) greatest
GreatestUpTo-empty parts at part None so_far within is empty =
    AllWithin-more (λ part. part.items ≡ []) parts 0 at so_far (at_read parts (λ part. part.items ≡ []) at part within is empty)
GreatestUpTo-empty parts at part (Some end) so_far within is empty = record {
  within = omega (arith, so_far.within);
  ends = so_far.ends;
  above =
      AllWithin-more (λ part. AtMost end.number part.items) parts 0 at so_far.above
      (at_read parts (λ part. AtMost end.number part.items) at part within is (AtMost-empty end.number part.items empty));
}

-- a part that ends in no greater number changes nothing
pub GreatestUpTo-keeps : {T A : Type 0} (parts : List (Vec (Numbered T) A)) (at number : ℕ) (part : Vec (Numbered T) A)
    (greatest : Option PartEnd)
    → GreatestUpTo parts at greatest
    → at < length parts
    → part ≡ get_or parts at part
    → Ascends part.items
    → EndsIn number part.items
    → (IfSome greatest (λ end. end.number < number) → ⊥)
    → GreatestUpTo parts (at + 1) greatest
GreatestUpTo-keeps parts at number part None so_far within is up ends below = absurd (below tt)
GreatestUpTo-keeps parts at number part (Some end) so_far within is up ends below = record {
  within = omega (arith, so_far.within);
  ends = so_far.ends;
  above =
      AllWithin-more (λ part. AtMost end.number part.items) parts 0 at so_far.above
      (at_read parts (λ part. AtMost end.number part.items) at part within is
      (λ k d inside. omega (arith, AtMost-end number part.items up ends k d inside, below)));
}

-- every part so far is at most a number that is greater than the greatest
AtMost-before : {T A : Type 0} (parts : List (Vec (Numbered T) A)) (at number : ℕ) (greatest : Option PartEnd)
    → GreatestUpTo parts at greatest
    → IfSome greatest (λ end. end.number < number)
    → AllWithin (λ part. AtMost number part.items) parts 0 at
AtMost-before parts at number None so_far above k d low high = AtMost-empty number (get_or parts k d).items (so_far k d low high)
AtMost-before parts at number (Some end) so_far above k d low high = λ i e inside. omega (arith, so_far.above k d low high i e inside, above)

-- a part that ends in a greater number is the greatest
pub GreatestUpTo-takes : {T A : Type 0} (parts : List (Vec (Numbered T) A)) (at number : ℕ) (part : Vec (Numbered T) A)
    (greatest : Option PartEnd)
    → GreatestUpTo parts at greatest
    → at < length parts
    → part ≡ get_or parts at part
    → Ascends part.items
    → EndsIn number part.items
    → IfSome greatest (λ end. end.number < number)
    → IsGreatest parts (at + 1) (record { at = at; number = number })
GreatestUpTo-takes parts at number part greatest so_far within is up ends above = record {
  within = omega arith;
  ends = at_read parts (λ part. EndsIn number part.items) at part within is ends;
  above =
      AllWithin-more (λ part. AtMost number part.items) parts 0 at (AtMost-before parts at number greatest so_far above)
      (at_read parts (λ part. AtMost number part.items) at part within is (AtMost-end number part.items up ends));
}

-- a fact holds where there is no value, whether there is one or not
pub IfNone-always : {X P : Type 0} (found : Option X) → P → IfNone found P
IfNone-always None fact = fact
IfNone-always (Some x) fact = tt

-- a part's last entry is taken out of the joined list
pub popped : {T A : Type 0} (parts : List (Vec (Numbered T) A)) (at : ℕ) (had left : Vec (Numbered T) A)
    (taken : Option (Numbered T))
    → at < length parts
    → had ≡ get_or parts at had
    → had.items ≡ left.items ++ option_to_list taken
    → IfSome taken (λ entry. IsPermutation (joined parts) (entry ∷ joined (set parts at left)))
popped parts at had left None within is items = tt
popped parts at had left (Some entry) within is items =
    IsPermutation-popped parts at left had entry within (ap (λ (part : Vec _ _). part.items) (sym is) ∙ items)

-- the last entry of the part with the greatest end is above all entries
pub popped_greatest : {T A : Type 0} (parts : List (Vec (Numbered T) A)) (end : PartEnd) (had left : Vec (Numbered T) A)
    (taken : Option (Numbered T))
    → IsGreatest parts (length parts) end
    → had ≡ get_or parts end.at had
    → had.items ≡ left.items ++ option_to_list taken
    → IfSome taken (λ entry. AtMost entry.number (joined parts))
popped_greatest parts end had left None greatest is items = tt
popped_greatest {T} parts end had left (Some entry) greatest is items =
    let ends : EndsIn end.number had.items =
    subst (λ (part : Vec _ _). EndsIn end.number part.items) (sym is) (greatest.ends had) in
    let size : length had.items ≡ length left.items + 1 = ap length items ∙ length-append left.items (entry ∷ []) in
    let last : get_or had.items (length had.items - 1) entry ≡ entry =
    rw items
    (get_or_at left.items entry [] entry (length (left.items ++ entry ∷ []) - 1)
    (omega (arith, length-append left.items (entry ∷ [])))) in
    let same : end.number ≡ entry.number = sym (ends.numbered entry) ∙ ap (λ (e : Numbered T). e.number) last in
    subst (λ (number : ℕ). AtMost number (joined parts)) same
    (All-joined (λ entry. entry.number ≤ end.number) parts
    (All-from_all_within (λ part. AtMost end.number part.items) parts greatest.above))

-- a part that lost its last entry ascends still
pub popped_ascends : {T A : Type 0} (parts : List (Vec (Numbered T) A)) (at : ℕ) (had left : Vec (Numbered T) A)
    (taken : Option (Numbered T))
    → at < length parts
    → had ≡ get_or parts at had
    → had.items ≡ left.items ++ option_to_list taken
    → All (λ part. Ascends part.items) parts
    → Ascends left.items
popped_ascends parts at had left None within is items up =
    subst Ascends (items ∙ append-nil left.items) (subst (λ (part : Vec _ _). Ascends part.items) (sym is) (up at had within))
popped_ascends parts at had left (Some entry) within is items up =
    Ascends-front had.items left.items entry items (subst (λ (part : Vec _ _). Ascends part.items) (sym is) (up at had within))
