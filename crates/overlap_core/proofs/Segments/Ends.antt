-- The greatest end of a list of segments.
use Rattle.std.proofs.Common.{◌≡◌, ℕ, ◌≤◌, ◌⊎◌, inl, inr, List, [], ◌∷◌, ◌++◌, Any, max, fold, suc, subst, refl, sym, ap, ◌∙◌, arith}
use Rattle.std.proofs.lemmas.List.Elements.{All-nil, All-cons}
use Rattle.std.proofs.lemmas.List.Sums.{fold-append}
use Rattle.overlap_core.specs.Segments.{Segment}
use Rattle.overlap_core.specs.Overlap.{covered_end, end_of, IsCoveredEnd}

-- one more segment may raise the greatest end
pub covered_end-snoc : (floor : ℕ) (segments : List Segment) (new : Segment) → covered_end floor (segments ++ new ∷ []) ≡ max (covered_end floor segments) (end_of new)
unfolding covered_end
covered_end-snoc floor segments new = fold-append (λ most segment. max most (end_of segment)) floor segments (new ∷ [])

pub covered_end-none : (floor : ℕ) → covered_end floor [] ≡ floor
unfolding covered_end
covered_end-none floor = refl

-- what is somewhere in a list is somewhere in a longer one
Any-cons : {X : Type 0} (P : X → Type 0) (x : X) (xs : List X) → Any P xs → Any P (x ∷ xs)
Any-cons P x xs found = (suc found.0, found.1, omega (arith, found.2), found.3, found.4)

from_max : (place floor end : ℕ) → place ≡ max floor end → (place ≡ floor) ⊎ (end ≡ place)
from_max place floor end is = grind arith

-- the greatest end is that of the folded segments, by recursion
greatest : (floor : ℕ) (segments : List Segment) → IsCoveredEnd floor segments (fold (λ most segment. max most (end_of segment)) floor segments)
greatest floor [] = record { from_floor = omega arith; from_ends = All-nil (λ segment. end_of segment ≤ floor); reached = inl refl }
greatest floor (first ∷ later) =
    let rest = greatest (max floor (end_of first)) later in
    let place : ℕ = fold (λ most segment. max most (end_of segment)) (max floor (end_of first)) later in
    record {
      from_floor = omega (arith, rest.from_floor);
      from_ends = All-cons (λ segment. end_of segment ≤ place) first later (omega (arith, rest.from_floor)) rest.from_ends;
      reached = elim rest.reached as (λ _. (place ≡ floor) ⊎ Any (λ segment. end_of segment ≡ place) (first ∷ later)) [
        | inl is ↦ elim (from_max place floor (end_of first) is) as (λ _. (place ≡ floor) ⊎ Any (λ segment. end_of segment ≡ place) (first ∷ later)) [
          | inl here ↦ inl here
          | inr here ↦ inr (0, first, omega arith, refl, here)
        ]
        | inr found ↦ inr (Any-cons (λ segment. end_of segment ≡ place) first later found)
      ];
    }

-- the covered end is the greatest of the floor and the ends
pub covered_end-is_greatest : (floor : ℕ) (segments : List Segment) → IsCoveredEnd floor segments (covered_end floor segments)
unfolding covered_end
covered_end-is_greatest floor segments = greatest floor segments

-- a number that is the covered end is the greatest of the floor and the ends
pub covered_end-is : (floor : ℕ) (segments : List Segment) (place : ℕ) → place ≡ covered_end floor segments → IsCoveredEnd floor segments place
covered_end-is floor segments place is = subst (λ (n : ℕ). IsCoveredEnd floor segments n) (sym is) (covered_end-is_greatest floor segments)

fold-raised : (floor below : ℕ) (segments : List Segment)
    → fold (λ most segment. max most (end_of segment)) (max floor below) segments ≡
    max (fold (λ most segment. max most (end_of segment)) floor segments) below
fold-raised floor below [] = refl
fold-raised floor below (first ∷ later) =
    let order : max (max floor below) (end_of first) ≡ max (max floor (end_of first)) below = omega arith in
    ap (λ n. fold (λ most segment. max most (end_of segment)) n later) order ∙ fold-raised (max floor (end_of first)) below later

-- a later floor may raise it
pub covered_end-raised : (floor below : ℕ) (segments : List Segment) → floor ≤ below → covered_end below segments ≡ max (covered_end floor segments) below
unfolding covered_end
covered_end-raised floor below segments order =
    let same : below ≡ max floor below = omega arith in ap (λ n. fold (λ most segment. max most (end_of segment)) n segments) same ∙ fold-raised floor below segments
