-- Laws of the chosen bytes, for the crates that build on them.
use Rattle.std.proofs.Common.{◌≡◌, ℕ, ◌<◌, Bool, true, false, cond, ◌||◌, List, [], ◌∷◌, ◌++◌, Option, Some, None, IsSome, filter, fold, find, get_or, refl, ap, sym, ◌∙◌, arith}
use Rattle.std.specs.Option.{option_map}
use Rattle.std.proofs.lemmas.Bool.Decides.{nat_tests}
use Rattle.std.proofs.lemmas.List.Folds.{Any-from_list_any}
use Rattle.edge_io.specs.declared.policy.Preference.{Preference}
use Rattle.edge_io.specs.declared.policy.Preference.TheVariants.{First, Last}
use Rattle.overlap_core.specs.Segments.{Segment}
use Rattle.overlap_core.specs.Overlap.{byte_at, chosen_byte, chosen_segment, covered_end, covers, end_of, is_covered, winner, stronger}
use Rattle.overlap_core.proofs.Segments.Arrivals.{chosen_byte-is_some, chosen_segment-covered, chosen_segment-uncovered, winner_after}
use Rattle.overlap_core.proofs.Segments.Covered.{is_covered-snoc}
use Rattle.overlap_core.proofs.Segments.Ends.{covered_end-is_greatest}

-- a new segment changes only the places that it covers
pub chosen_byte-elsewhere : (preference : Preference) (segments : List Segment) (new : Segment) (place : ℕ)
    → covers new place ≡ false
    → chosen_byte preference (segments ++ new ∷ []) place ≡ chosen_byte preference segments place
unfolding chosen_byte
chosen_byte-elsewhere preference segments new place uncovered = ap (option_map (byte_at place)) (chosen_segment-uncovered preference segments new place uncovered)

-- a place that has a byte keeps one
pub chosen_byte-stays : (preference : Preference) (segments : List Segment) (new : Segment) (place : ℕ)
    → IsSome (chosen_byte preference segments place)
    → IsSome (chosen_byte preference (segments ++ new ∷ []) place)
chosen_byte-stays preference segments new place some =
    chosen_byte-is_some preference (segments ++ new ∷ []) place ∙ is_covered-snoc segments new place
    ∙ ap (λ b. b || covers new place) (sym (chosen_byte-is_some preference segments place) ∙ some)

fold-first : (first : Segment) (later : List Segment) → fold (stronger First) first later ≡ first
fold-first first [] = refl
fold-first first (segment ∷ later) = fold-first first later

winner-first : (test : Segment → Bool) (segments : List Segment) → winner First (filter test segments) ≡ find test segments
winner-first test [] = refl
winner-first test (segment ∷ later) =
    elim (test segment) as (λ b. winner First (cond b (segment ∷ filter test later) (filter test later)) ≡ cond b (Some segment) (find test later)) [
      | true ↦ ap Some (fold-first segment (filter test later))
      | false ↦ winner-first test later
    ]

-- under First the first segment that covers a place is chosen there
pub chosen_segment-first : (segments : List Segment) (place : ℕ) → chosen_segment First segments place ≡ find (λ segment. covers segment place) segments
unfolding chosen_segment
chosen_segment-first segments place = winner-first (λ segment. covers segment place) segments

after_last : (old : Option Segment) (new : Segment) → winner_after Last old new ≡ new
after_last None new = refl
after_last (Some old) new = refl

-- under Last the newest segment is chosen at every place that it covers
pub chosen_segment-last : (segments : List Segment) (new : Segment) (place : ℕ) → covers new place ≡ true → chosen_segment Last (segments ++ new ∷ []) place ≡ Some new
chosen_segment-last segments new place covered = chosen_segment-covered Last segments new place covered ∙ ap Some (after_last (chosen_segment Last segments place) new)

covers-below : (segment : Segment) (place : ℕ) → covers segment place ≡ true → place < end_of segment
covers-below segment place covered = grind (arith, nat_tests)

-- a covered place lies below the covered end
pub covered_end-above : (floor : ℕ) (segments : List Segment) (place : ℕ) → is_covered segments place ≡ true → place < covered_end floor segments
covered_end-above floor segments place covered =
    let found = Any-from_list_any (λ segment. covers segment place) segments covered in
    let below : place < end_of found.1 = covers-below found.1 place found.4 in
    let within = (covered_end-is_greatest floor segments).from_ends found.0 found.1 found.2 in
    let same : end_of (get_or segments found.0 found.1) ≡ end_of found.1 = ap end_of found.3 in
    omega (arith, below, within, same)
