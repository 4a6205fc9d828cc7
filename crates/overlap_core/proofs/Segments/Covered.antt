-- The places that segments cover.
use Rattle.std.proofs.Common.{◌≡◌, ℕ, ◌+◌, ◌<◌, ◌≤◌, Bool, true, false, ◌||◌, List, [], ◌∷◌, ◌++◌, Option, Some, None, length, max, min, inl, inr, ◌⊎◌, IsSome, IsTrue, refl, ap, sym, ◌∙◌, arith}
use Rattle.std.specs.Option.{is_some}
use Rattle.std.proofs.lemmas.Bool.{cases_lt}
use Rattle.std.proofs.lemmas.Bool.Decides.{nat_tests}
use Rattle.std.proofs.lemmas.List.Folds.{list_any-append}
use Rattle.edge_io.specs.declared.policy.Preference.{Preference}
use Rattle.overlap_core.specs.Segments.{Segment}
use Rattle.overlap_core.specs.Overlap.{chosen_byte, covers, end_of, is_covered}
use Rattle.overlap_core.proofs.Segments.Arrivals.{chosen_byte-is_some}

or_false : (b : Bool) → (b || false) ≡ b
or_false true = refl
or_false false = refl

-- a place is covered once it was, or where the new segment covers it
pub is_covered-snoc : (segments : List Segment) (new : Segment) (place : ℕ) → is_covered (segments ++ new ∷ []) place ≡ (is_covered segments place || covers new place)
is_covered-snoc segments new place =
    list_any-append (λ segment. covers segment place) segments (new ∷ []) ∙ ap (λ b. is_covered segments place || b) (or_false (covers new place))

none_from_test : {A : Type 0} (found : Option A) → is_some found ≡ false → found ≡ None
none_from_test None is = refl
none_from_test (Some x) is = cc

-- no byte is chosen at a place that is not covered
pub chosen_byte-uncovered : (preference : Preference) (segments : List Segment) (place : ℕ) → is_covered segments place ≡ false → chosen_byte preference segments place ≡ None
chosen_byte-uncovered preference segments place uncovered =
    none_from_test (chosen_byte preference segments place) (chosen_byte-is_some preference segments place ∙ uncovered)

-- a byte is given at a place from the floor on exactly where a segment covers it
pub byte-is_some : (preference : Preference) (segments : List Segment) (floor place : ℕ) (byte : Option ℕ) → byte ≡ chosen_byte preference segments place → floor ≤ place →
    (IsSome byte → (floor ≤ place) × IsTrue (is_covered segments place)) × ((floor ≤ place) × IsTrue (is_covered segments place) → IsSome byte)
byte-is_some preference segments floor place byte is from =
    let same : is_some byte ≡ is_covered segments place = ap is_some is ∙ chosen_byte-is_some preference segments place in
    (λ some. (from, sym same ∙ some), λ covered. same ∙ covered.1)

-- the first covered place from `low` on and below `high`, or `high`
pub record IsFirstCovered (segments : List Segment) (low high first : ℕ) : Type 0 where
  pub from : low ≤ first
  pub to : first ≤ high
  pub before : (place : ℕ) → low ≤ place → place < first → is_covered segments place ≡ false
  pub here : first < high → is_covered segments first ≡ true

pub IsFirstCovered-nil : (low high : ℕ) → low ≤ high → IsFirstCovered [] low high high
IsFirstCovered-nil low high order = record { from = order; to = omega arith; before = λ _ _ _. refl; here = λ below. absurd (omega arith) }

covered_here : (new : Segment) (place : ℕ) → new.start ≤ place → place < end_of new → covers new place ≡ true
covered_here new place from below = grind (arith, nat_tests)

uncovered_before : (new : Segment) (place : ℕ) → place < new.start → covers new place ≡ false
uncovered_before new place below = grind (arith, nat_tests)

uncovered_after : (new : Segment) (place : ℕ) → end_of new ≤ place → covers new place ≡ false
uncovered_after new place after = grind (arith, nat_tests)

-- a segment that ends at or before `low` changes nothing
pub IsFirstCovered-after : (segments : List Segment) (new : Segment) (low high first : ℕ)
    → IsFirstCovered segments low high first
    → end_of new ≤ low
    → IsFirstCovered (segments ++ new ∷ []) low high first
IsFirstCovered-after segments new low high first is after = record {
  from = is.from;
  to = is.to;
  before = λ place from below. is_covered-snoc segments new place ∙ ap (λ b. b || covers new place) (is.before place from below) ∙ uncovered_after new place (omega arith);
  here = λ below. is_covered-snoc segments new first ∙ ap (λ b. b || covers new first) (is.here below);
}

or_true : (b : Bool) → (b || true) ≡ true
or_true true = refl
or_true false = refl

earliest_here : (segments : List Segment) (new : Segment) (low high first : ℕ)
    → IsFirstCovered segments low high first
    → low < end_of new
    → 0 < length new.bytes
    → min first (max low new.start) < high
    → (is_covered segments (min first (max low new.start)) || covers new (min first (max low new.start))) ≡ true
earliest_here segments new low high first is ahead some below =
    elim (cases_lt first (max low new.start)) [
      | inl here ↦
          let same : min first (max low new.start) ≡ first = omega arith in
          rw same (ap (λ b. b || covers new first) (is.here (omega arith)))
      | inr later ↦
          let same : min first (max low new.start) ≡ max low new.start = omega arith in
          rw same (ap (λ b. is_covered segments (max low new.start) || b) (covered_here new (max low new.start) (omega arith) (omega arith)) ∙ or_true (is_covered segments (max low new.start)))
    ]

-- any other may begin earlier
pub IsFirstCovered-earlier : (segments : List Segment) (new : Segment) (low high first : ℕ)
    → IsFirstCovered segments low high first
    → low < end_of new
    → 0 < length new.bytes
    → IsFirstCovered (segments ++ new ∷ []) low high (min first (max low new.start))
IsFirstCovered-earlier segments new low high first is ahead some = record {
  from = omega (arith, is.from);
  to = omega (arith, is.to);
  before = λ place from below. is_covered-snoc segments new place ∙ ap (λ b. b || covers new place) (is.before place from (omega arith)) ∙ uncovered_before new place (omega arith);
  here = λ below. is_covered-snoc segments new (min first (max low new.start)) ∙ earliest_here segments new low high first is ahead some below;
}

-- from a covered place on there is at least one byte
pub some_bytes : (preference : Preference) (segments : List Segment) (low high : ℕ) (bytes : List ℕ) → low < high → is_covered segments low ≡ true →
    (low + length bytes ≡ high) ⊎ (chosen_byte preference segments (low + length bytes) ≡ None) → 0 < length bytes
some_bytes preference segments low high [] below covered ends =
    elim ends as (λ _. 0 < 0) [
      | inl is ↦ omega (arith, is)
      | inr none ↦
          let same : low + 0 ≡ low = omega arith in
          let nothing : chosen_byte preference segments low ≡ None = ap (chosen_byte preference segments) (sym same) ∙ none in
          let clash : false ≡ true = ap is_some (sym nothing) ∙ chosen_byte-is_some preference segments low ∙ covered in
          cc
    ]
some_bytes preference segments low high (byte ∷ bytes) below covered ends = omega arith
