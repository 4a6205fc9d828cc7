-- How the chosen segment and its byte change as one more segment comes, for every preference.
use Rattle.std.proofs.Common.{◌≡◌, ℕ, Bool, true, false, cond, ◌||◌, List, [], ◌∷◌, ◌++◌, Option, Some, None, filter, fold, refl, ap, ◌∙◌, if◌then◌else◌}
use Rattle.std.specs.List.{list_any}
use Rattle.std.specs.Option.{option_map, is_some}
use Rattle.std.proofs.lemmas.List.Elements.{filter-append}
use Rattle.edge_io.specs.declared.policy.Preference.{Preference}
use Rattle.overlap_core.specs.Segments.{Segment}
use Rattle.overlap_core.specs.Pieces.{Kept, kept_at}
use Rattle.overlap_core.specs.Overlap.{bounds_of, byte_at, chosen_byte, chosen_segment, covers, is_covered, winner, stronger, wins}

-- what is kept of the stronger of two, where there may be no older one
abbrev pub stronger_kept : Preference → Option Kept → Kept → Kept
stronger_kept preference None new = new
stronger_kept preference (Some old) new = if wins preference old.whole new.whole then new else old

-- what is kept at the place once one more segment has come
abbrev pub kept_after : Preference → ℕ → Option Kept → Segment → Option Kept
kept_after preference place kept segment = if covers segment place then Some (stronger_kept preference kept (kept_at place segment)) else kept

-- the stronger of two segments, where there may be no older one
abbrev pub winner_after : Preference → Option Segment → Segment → Segment
winner_after preference None new = new
winner_after preference (Some old) new = stronger preference old new

fold-snoc : {A B : Type 0} (f : B → A → B) (start : B) (xs : List A) (x : A) → fold f start (xs ++ x ∷ []) ≡ f (fold f start xs) x
fold-snoc f start [] x = refl
fold-snoc f start (y ∷ ys) x = fold-snoc f (f start y) ys x

winner-snoc : (preference : Preference) (segments : List Segment) (new : Segment) → winner preference (segments ++ new ∷ []) ≡ Some (winner_after preference (winner preference segments) new)
winner-snoc preference [] new = refl
winner-snoc preference (first ∷ later) new = ap Some (fold-snoc (stronger preference) first later new)

filter-snoc_kept : {A : Type 0} (test : A → Bool) (xs : List A) (x : A) → test x ≡ true → filter test (xs ++ x ∷ []) ≡ filter test xs ++ x ∷ []
filter-snoc_kept test xs x passes = filter-append test xs (x ∷ []) ∙ ap (λ b. filter test xs ++ cond b (x ∷ []) []) passes

filter-snoc_left_out : {A : Type 0} (test : A → Bool) (xs : List A) (x : A) → test x ≡ false → filter test (xs ++ x ∷ []) ≡ filter test xs
filter-snoc_left_out test [] x fails = ap (λ b. cond b (x ∷ []) []) fails
filter-snoc_left_out test (y ∷ ys) x fails = ap (λ rest. cond (test y) (y ∷ rest) rest) (filter-snoc_left_out test ys x fails)

-- a new segment that covers the place is measured against the one that is chosen there
pub chosen_segment-covered : (preference : Preference) (segments : List Segment) (new : Segment) (place : ℕ)
    → covers new place ≡ true
    → chosen_segment preference (segments ++ new ∷ []) place ≡
    Some (winner_after preference (chosen_segment preference segments place) new)
unfolding chosen_segment
chosen_segment-covered preference segments new place covered =
    ap (winner preference) (filter-snoc_kept (λ segment. covers segment place) segments new covered)
    ∙ winner-snoc preference (filter (λ segment. covers segment place) segments) new

-- a segment that doesn't cover the place changes nothing there
pub chosen_segment-uncovered : (preference : Preference) (segments : List Segment) (new : Segment) (place : ℕ)
    → covers new place ≡ false
    → chosen_segment preference (segments ++ new ∷ []) place ≡ chosen_segment preference segments place
unfolding chosen_segment
chosen_segment-uncovered preference segments new place uncovered =
    ap (winner preference) (filter-snoc_left_out (λ segment. covers segment place) segments new uncovered)

pub chosen_segment-none : (preference : Preference) (place : ℕ) → chosen_segment preference [] place ≡ None
unfolding chosen_segment
chosen_segment-none preference place = refl

winner-is_some : (preference : Preference) (test : Segment → Bool) (segments : List Segment) → is_some (winner preference (filter test segments)) ≡ list_any test segments
winner-is_some preference test [] = refl
winner-is_some preference test (first ∷ later) =
    elim (test first) as (λ b. is_some (winner preference (cond b (first ∷ filter test later) (filter test later))) ≡ (b || list_any test later)) [
      | true ↦ refl
      | false ↦ winner-is_some preference test later
    ]

option_map-is_some : {A B : Type 0} (f : A → B) (found : Option A) → is_some (option_map f found) ≡ is_some found
option_map-is_some f None = refl
option_map-is_some f (Some x) = refl

-- a place has a byte exactly where a segment covers it
pub chosen_byte-is_some : (preference : Preference) (segments : List Segment) (place : ℕ) → is_some (chosen_byte preference segments place) ≡ is_covered segments place
unfolding chosen_byte chosen_segment
chosen_byte-is_some preference segments place =
    option_map-is_some (byte_at place) (winner preference (filter (λ segment. covers segment place) segments))
    ∙ winner-is_some preference (λ segment. covers segment place) segments

stronger_kept-map : (preference : Preference) (place : ℕ) (old : Option Segment) (new : Segment)
    → kept_at place (winner_after preference old new) ≡
    stronger_kept preference (option_map (kept_at place) old) (kept_at place new)
stronger_kept-map preference place None new = refl
stronger_kept-map preference place (Some old) new =
    elim (wins preference (bounds_of old) (bounds_of new)) as (λ b. kept_at place (cond b new old) ≡ cond b (kept_at place new) (kept_at place old)) [
      | true ↦ refl
      | false ↦ refl
    ]

kept-by_cases : (preference : Preference) (segments : List Segment) (new : Segment) (place : ℕ) (covered : Bool)
    → covers new place ≡ covered
    → option_map (kept_at place) (chosen_segment preference (segments ++ new ∷ []) place) ≡
    cond covered
    (Some (stronger_kept preference (option_map (kept_at place) (chosen_segment preference segments place)) (kept_at place new)))
    (option_map (kept_at place) (chosen_segment preference segments place))
kept-by_cases preference segments new place true covered =
    ap (option_map (kept_at place)) (chosen_segment-covered preference segments new place covered)
    ∙ ap Some (stronger_kept-map preference place (chosen_segment preference segments place) new)
kept-by_cases preference segments new place false uncovered =
    ap (option_map (kept_at place)) (chosen_segment-uncovered preference segments new place uncovered)

-- what is kept of the chosen segment, once one more segment has come
pub kept_after-snoc : (preference : Preference) (segments : List Segment) (new : Segment) (place : ℕ) →
    option_map (kept_at place) (chosen_segment preference (segments ++ new ∷ []) place) ≡ kept_after preference place (option_map (kept_at place) (chosen_segment preference segments place)) new
kept_after-snoc preference segments new place = kept-by_cases preference segments new place (covers new place) refl

option_map-byte : (place : ℕ) (found : Option Segment) → option_map (λ (k : Kept). k.byte) (option_map (kept_at place) found) ≡ option_map (byte_at place) found
option_map-byte place None = refl
option_map-byte place (Some segment) = refl

-- the byte kept is the chosen byte
pub chosen_byte-kept : (preference : Preference) (segments : List Segment) (place : ℕ) (kept : Option Kept) → kept ≡ option_map (kept_at place) (chosen_segment preference segments place) →
    option_map (λ (k : Kept). k.byte) kept ≡ chosen_byte preference segments place
unfolding chosen_byte
chosen_byte-kept preference segments place kept is = ap (option_map (λ (k : Kept). k.byte)) is ∙ option_map-byte place (chosen_segment preference segments place)
