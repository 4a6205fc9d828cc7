-- What a direction within its limits holds.
use Rattle.std.proofs.Common.{◌≡◌, ℕ, ◌+◌, ◌<◌, ◌≤◌, Bool, true, false, ◌||◌, List, [], ◌∷◌, Some, length, refl, sym, ap, ◌∙◌, arith}
use Rattle.std.specs.List.{All}
use Rattle.std.specs.Option.{is_some}
use Rattle.std.proofs.lemmas.Bool.Decides.{nat_tests}
use Rattle.std.proofs.lemmas.List.Elements.{All-head, All-tail}
use Rattle.overlap_core.specs.Segments.{Segment}
use Rattle.overlap_core.specs.Overlap.{covers, end_of, is_covered}
use Rattle.overlap_core.specs.Pieces.{bytes_held, IsRow, Piece}
use Rattle.overlap_core.proofs.Segments.Arrivals.{chosen_byte-is_some}
use Rattle.overlap_core.proofs.Segments.Ends.{covered_end-is_greatest}
use Rattle.overlap_core.proofs.Few.{row-bytes, row-few}
use Rattle.stream5_reassembly.specs.Segments.{DirectionState, flushed_bytes, IsWithinLimits, top}

-- a place that a segment covers lies below the greatest end
below-end : (segments : List Segment) (place end : ℕ) → All (λ (s : Segment). end_of s ≤ end) segments → is_covered segments place ≡ true → place < end
below-end [] place end ends covered = cc
below-end (segment ∷ segments) place end ends covered =
    by_case (covers segment place) refl covered (below-end segments place end (All-tail (λ (s : Segment). end_of s ≤ end) segment segments ends))
  where
    by_case : (b : Bool) → covers segment place ≡ b → (b || is_covered segments place) ≡ true → (is_covered segments place ≡ true → place < end) → place < end
    by_case true is _ later =
        let first = All-head (λ (s : Segment). end_of s ≤ end) segment segments ends in
        let within : place < end_of segment = grind (arith, nat_tests, is) in
        omega (arith, first, within)
    by_case false is rest later = later rest

pub places-few : (direction : DirectionState) (place byte : ℕ) → IsWithinLimits direction → flushed_bytes direction place ≡ Some byte → place < direction.limits.bytes
places-few direction place byte within is =
    let covered : is_covered direction.segments (direction.place + place) ≡ true = sym (chosen_byte-is_some direction.preference direction.segments (direction.place + place)) ∙ ap is_some is in
    let below = below-end direction.segments (direction.place + place) (top direction) (covered_end-is_greatest direction.place direction.segments).from_ends covered in
    omega (arith, within.bytes, below)

pub bytes-few : (direction : DirectionState) (pieces : List Piece) → IsWithinLimits direction → IsRow direction.place pieces (top direction) → bytes_held pieces ≤ direction.limits.bytes
bytes-few direction pieces within row = omega (arith, within.bytes, row-bytes direction.place (top direction) pieces row)

pub pieces-few : (direction : DirectionState) (pieces : List Piece) → IsWithinLimits direction → IsRow direction.place pieces (top direction) → length pieces ≤ direction.limits.bytes
pieces-few direction pieces within row = omega (arith, row-few direction.place (top direction) pieces row, bytes-few direction pieces within row)
