-- What is kept is a byte of a segment that covers the place; which one, for segments that agree, and under First and Last.
use Rattle.std.proofs.Common.{◌≡◌, ℕ, ◌+◌, ◌-◌, ◌<◌, ◌≤◌, Bool, true, false, cond, List, [], ◌∷◌, ◌++◌, Option, Some, None, IsTrue, filter, find, fold, reverse, refl, ap, sym, subst, ◌∙◌, arith}
use Rattle.std.specs.List.{All, Contains}
use Rattle.std.specs.List.Sorted.{IsPermutation}
use Rattle.std.specs.Option.{is_some, option_map}
use Rattle.std.proofs.lemmas.Bool.Decides.{nat_tests}
use Rattle.std.proofs.lemmas.List.{reverse-append, reverse-reverse}
use Rattle.std.proofs.lemmas.List.Elements.{All-contains, All-contains_itself, All-filter, All-head, All-tail, Contains-append_left, filter_passes}
use Rattle.std.proofs.lemmas.List.Folds.{list_any-from_Any}
use Rattle.std.proofs.lemmas.List.Sorted.{Contains-permutation, IsPermutation-sym, list_any-IsPermutation}
use Rattle.edge_io.specs.declared.policy.Preference.{Preference}
use Rattle.edge_io.specs.declared.policy.Preference.TheVariants.{First, Last}
use Rattle.overlap_core.specs.Segments.{Segment}
use Rattle.overlap_core.specs.Agreeing.{SegmentsAgree}
use Rattle.overlap_core.specs.Overlap.{bounds_of, byte_at, chosen_byte, chosen_segment, covers, end_of, is_covered, winner, stronger, wins}
use Rattle.overlap_core.specs.Runs.{AreBytes}
use Rattle.overlap_core.proofs.Segments.Arrivals.{chosen_byte-is_some, chosen_segment-uncovered, chosen_segment-none}
use Rattle.overlap_core.proofs.Segments.Covered.{chosen_byte-uncovered}
use Rattle.overlap_core.proofs.Segments.Choosing.{chosen_segment-first, chosen_segment-last}

-- ---- what is kept came

-- what holds of two segments holds of the stronger
stronger-holds : (P : Segment → Type 0) (preference : Preference) (old new : Segment) → P old → P new → P (stronger preference old new)
stronger-holds P preference old new this that = elim (wins preference (bounds_of old) (bounds_of new)) as (λ b. P (cond b new old)) [ true ↦ that | false ↦ this ]

fold-holds : (P : Segment → Type 0) (preference : Preference) (first : Segment) (later : List Segment) → P first → All P later → P (fold (stronger preference) first later)
fold-holds P preference first [] this those = this
fold-holds P preference first (next ∷ later) this those =
    fold-holds P preference (stronger preference first next) later (stronger-holds P preference first next this (All-head P next later those)) (All-tail P next later those)

winner-holds : (P : Segment → Type 0) (preference : Preference) (segments : List Segment) (segment : Segment) → All P segments → winner preference segments ≡ Some segment → P segment
winner-holds P preference [] segment all is = cc
winner-holds P preference (first ∷ later) segment all is =
    let same : fold (stronger preference) first later ≡ segment = cc in
    subst P same (fold-holds P preference first later (All-head P first later all) (All-tail P first later all))

-- the segment is one of the list, and covers the place
abbrev IsOneAt : List Segment → ℕ → Segment → Type 0
IsOneAt segments place segment = Contains segments segment × IsTrue (covers segment place)

all-one : (segments : List Segment) (place : ℕ) → All (IsOneAt segments place) (filter (λ segment. covers segment place) segments)
all-one segments place = λ k d below. (
  All-filter (λ segment. covers segment place) (Contains segments) segments (All-contains_itself segments) k d below,
  filter_passes (λ segment. covers segment place) segments k d below,
)

chosen_segment-one : (preference : Preference) (segments : List Segment) (place : ℕ) (segment : Segment) → chosen_segment preference segments place ≡ Some segment → IsOneAt segments place segment
unfolding chosen_segment
chosen_segment-one preference segments place segment is =
    winner-holds (IsOneAt segments place) preference (filter (λ segment. covers segment place) segments) segment (all-one segments place) is

came : (preference : Preference) (segments : List Segment) (place byte : ℕ) (found : Option Segment) → chosen_segment preference segments place ≡ found → option_map (byte_at place) found ≡ Some byte
    → (segment : Segment) × Contains segments segment × IsTrue (covers segment place) × (byte_at place segment ≡ byte)
came preference segments place byte None is holds = cc
came preference segments place byte (Some segment) is holds =
    let one = chosen_segment-one preference segments place segment is in
    (segment, one.0, one.1, cc)

-- the byte that is kept at a place came in a segment that covers it
pub chosen_byte-came : (preference : Preference) (segments : List Segment) (place byte : ℕ) → chosen_byte preference segments place ≡ Some byte
    → (segment : Segment) × Contains segments segment × IsTrue (covers segment place) × (byte_at place segment ≡ byte)
unfolding chosen_byte
chosen_byte-came preference segments place byte is = came preference segments place byte (chosen_segment preference segments place) refl is

-- ---- segments that agree

one-covers : (segments : List Segment) (segment : Segment) (place : ℕ) → Contains segments segment → IsTrue (covers segment place) → is_covered segments place ≡ true
one-covers segments segment place at covered = list_any-from_Any (λ s. covers s place) segments (at.0, segment, at.1, at.2, covered)

-- where a segment covers the place a byte is kept; what holds of each byte that came there holds of it
kept-holds : (P : Option ℕ → Type 0) (preference : Preference) (segments : List Segment) (place : ℕ) → is_covered segments place ≡ true
    → ((segment : Segment) → Contains segments segment → IsTrue (covers segment place) → P (Some (byte_at place segment))) → P (chosen_byte preference segments place)
kept-holds P preference segments place covered each = by_case (chosen_byte preference segments place) refl
  where
    by_case : (byte : Option ℕ) → chosen_byte preference segments place ≡ byte → P byte
    by_case None is =
        let some : is_some (chosen_byte preference segments place) ≡ true = chosen_byte-is_some preference segments place ∙ covered in
        let none : is_some (chosen_byte preference segments place) ≡ false = ap is_some is in
        cc
    by_case (Some byte) is =
        let one = chosen_byte-came preference segments place byte is in
        subst (λ n. P (Some n)) one.3 (each one.0 one.1 one.2)

pub agreeing-kept : (preference : Preference) (segments : List Segment) (segment : Segment) (place : ℕ) → SegmentsAgree segments → Contains segments segment → IsTrue (covers segment place)
    → chosen_byte preference segments place ≡ Some (byte_at place segment)
agreeing-kept preference segments segment place agree at covered =
    kept-holds (λ byte. byte ≡ Some (byte_at place segment)) preference segments place (one-covers segments segment place at covered)
    (λ other there covers_too. ap Some (agree other segment place there at covers_too covered))

-- a part of agreeing segments keeps what all keep, where it covers the place
agreeing-part : (preference other : Preference) (xs ys : List Segment) (place : ℕ) → SegmentsAgree ys → ((segment : Segment) → Contains xs segment → Contains ys segment) → is_covered xs place ≡ true
    → chosen_byte preference xs place ≡ chosen_byte other ys place
agreeing-part preference other xs ys place agree among covered =
    kept-holds (λ byte. byte ≡ chosen_byte other ys place) preference xs place covered
    (λ segment at covers_it. sym (agreeing-kept other ys segment place agree (among segment at) covers_it))

pub agreeing-order : (preference other : Preference) (xs ys : List Segment) (place : ℕ) → SegmentsAgree xs → IsPermutation xs ys → chosen_byte preference xs place ≡ chosen_byte other ys place
agreeing-order preference other xs ys place agree moved = by_case (is_covered xs place) refl
  where
    alike : is_covered xs place ≡ is_covered ys place
    alike = list_any-IsPermutation (λ segment. covers segment place) xs ys moved

    by_case : (covered : Bool) → is_covered xs place ≡ covered → chosen_byte preference xs place ≡ chosen_byte other ys place
    by_case true is =
        sym (agreeing-part other preference ys xs place agree (λ segment at. Contains-permutation ys xs segment (IsPermutation-sym xs ys moved) at) (sym alike ∙ is))
    by_case false is = chosen_byte-uncovered preference xs place is ∙ sym (chosen_byte-uncovered other ys place (sym alike ∙ is))

pub agreeing-early : (preference : Preference) (segments later : List Segment) (place byte : ℕ) → SegmentsAgree (segments ++ later) → chosen_byte preference segments place ≡ Some byte
    → chosen_byte preference (segments ++ later) place ≡ Some byte
agreeing-early preference segments later place byte agree is =
    let covered : is_covered segments place ≡ true = sym (chosen_byte-is_some preference segments place) ∙ ap is_some is in
    sym (agreeing-part preference preference segments (segments ++ later) place agree (λ segment at. Contains-append_left segments later segment at) covered) ∙ is

-- a segment that was cut out of a stream has the stream's byte
cut_out : (stream : ℕ → Option ℕ) (segment : Segment) (place : ℕ) → AreBytes stream segment.start segment.bytes → covers segment place ≡ true → Some (byte_at place segment) ≡ stream place
cut_out stream segment place are covered =
    let from : segment.start ≤ place = grind (arith, nat_tests) in
    let below : place < end_of segment = grind (arith, nat_tests) in
    let at : segment.start + (place - segment.start) ≡ place = omega (arith, from) in
    sym (are (place - segment.start) (omega (arith, from, below))) ∙ ap stream at

pub stream-kept : (preference : Preference) (segments : List Segment) (stream : ℕ → Option ℕ) (place : ℕ)
    → All (λ (segment : Segment). AreBytes stream segment.start segment.bytes) segments
    → IsTrue (is_covered segments place)
    → chosen_byte preference segments place ≡ stream place
stream-kept preference segments stream place all covered =
    kept-holds (λ byte. byte ≡ stream place) preference segments place covered
    (λ segment at covers_it. cut_out stream segment place (All-contains (λ (s : Segment). AreBytes stream s.start s.bytes) segments segment all at) covers_it)

-- ---- First and Last

pub first-kept : (segments : List Segment) (place : ℕ) → chosen_byte First segments place ≡ option_map (byte_at place) (find (λ segment. covers segment place) segments)
unfolding chosen_byte
first-kept segments place = ap (option_map (byte_at place)) (chosen_segment-first segments place)

-- under Last, of segments that are given latest first, the first that covers the place is kept there
latest : (recent : List Segment) (place : ℕ) → chosen_segment Last (reverse recent) place ≡ find (λ segment. covers segment place) recent
latest [] place = chosen_segment-none Last place
latest (new ∷ earlier) place =
    ap (λ segments. chosen_segment Last segments place) (reverse-append (new ∷ []) earlier) ∙ by_case (covers new place) refl (latest earlier place)
  where
    by_case : (covered : Bool) → covers new place ≡ covered → chosen_segment Last (reverse earlier) place ≡ find (λ segment. covers segment place) earlier
        → chosen_segment Last (reverse earlier ++ new ∷ []) place ≡ cond (covers new place) (Some new) (find (λ segment. covers segment place) earlier)
    by_case true is rest = chosen_segment-last (reverse earlier) new place is ∙ sym (ap (λ b. cond b (Some new) (find (λ segment. covers segment place) earlier)) is)
    by_case false is rest =
        chosen_segment-uncovered Last (reverse earlier) new place is ∙ rest ∙ sym (ap (λ b. cond b (Some new) (find (λ segment. covers segment place) earlier)) is)

pub last-kept : (segments : List Segment) (place : ℕ) → chosen_byte Last segments place ≡ option_map (byte_at place) (find (λ segment. covers segment place) (reverse segments))
unfolding chosen_byte
last-kept segments place =
    ap (option_map (byte_at place)) (ap (λ list. chosen_segment Last list place) (sym (reverse-reverse segments)) ∙ latest (reverse segments) place)
