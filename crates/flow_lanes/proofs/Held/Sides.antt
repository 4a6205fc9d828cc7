-- What a side holds stays within the limits of the engines, whatever comes.
use Rattle.std.proofs.Common.{◌≡◌, ℕ, ◌-◌, ◌≤◌, Bool, true, false, cond, ◌&&◌, ltb, leb, List, [], ◌∷◌, length, max, refl, sym, ap, subst, ◌∙◌, arith, Option, Some, None, is_some}
use Rattle.std.specs.List.{range_with_len}
use Rattle.std.proofs.lemmas.Bool.{and_parts, ltb-true}
use Rattle.std.proofs.lemmas.Bool.Decides.{nat_tests}
use Rattle.std.proofs.lemmas.List.{length-map}
use Rattle.std.proofs.lemmas.List.FromFn.{length-range_with_len}
use Rattle.std.proofs.lemmas.List.Sums.{count_by-le-length}
use Rattle.edge_io.specs.declared.policy.Preference.{Preference}
use Rattle.overlap_core.specs.Segments.{Segment}
use Rattle.overlap_core.specs.Overlap.{end_of}
use Rattle.overlap_core.proofs.Segments.Ends.{covered_end-is_greatest, covered_end-none, covered_end-raised, covered_end-snoc}
use Rattle.stream5_reassembly.specs.declared.limits.Added.{Added}
use Rattle.stream5_reassembly.specs.declared.limits.Added.TheVariants.{Queued, Old, PastWindow, TooManySegs}
use Rattle.stream5_reassembly.specs.declared.limits.Limits.{Limits}
use Rattle.stream5_reassembly.specs.Segments.{DirectionState, IsWithinLimits, ack_flushes, ack_place, after_fate, fate_at}
use Rattle.stream5_reassembly.specs.Segments.{first_place, flushed_bytes, flushed_to, idle, place_in, segment_at, segment_fate}
use Rattle.stream5_reassembly.specs.Segments.{started_at, top, with_segment}
use Rattle.stream5_reassembly.proofs.Steps.{idle-top, queued-room}
use Rattle.flow_lanes.specs.Sides.{SessionSide, side_after_ack, side_after_data, started_by, with_base, with_data, without_left}
use Rattle.flow_lanes.specs.Streams.{places_below}
use Rattle.flow_lanes.specs.Holding.{counted_segments, waiting_bytes}

-- a direction is within its limits, and these are within others
pub record IsFew (bytes segs : ℕ) (direction : DirectionState) : Type 0 where
  pub within : IsWithinLimits direction
  pub bytes_few : direction.limits.bytes ≤ bytes
  pub segs_few : direction.limits.segs ≤ segs

-- a direction isn't started, and holds nothing
abbrev pub IsIdle : DirectionState → Type 0
IsIdle direction = direction ≡ idle direction.limits direction.preference

-- ---- what is counted of it

length-places : (direction : DirectionState) (to : ℕ) → length (places_below direction to) ≡ to - direction.place
length-places direction to = length-map (range_with_len 0 (to - direction.place)) (flushed_bytes direction) ∙ length-range_with_len 0 (to - direction.place)

waiting-within : (direction : DirectionState) → waiting_bytes direction ≤ top direction - direction.place
waiting-within direction =
    omega (arith, count_by-le-length is_some (places_below direction (top direction)), length-places direction (top direction))

pub waiting-few : (bytes segs : ℕ) (direction : DirectionState) → IsFew bytes segs direction → waiting_bytes direction ≤ bytes
waiting-few bytes segs direction few = omega (arith, waiting-within direction, few.within.bytes, few.bytes_few)

pub waiting-idle : (direction : DirectionState) → IsIdle direction → waiting_bytes direction ≤ 0
waiting-idle direction is = omega (arith, waiting-within direction, idle-top direction is)

pub counted-few : (bytes segs : ℕ) (direction : DirectionState) → IsFew bytes segs direction → counted_segments direction ≤ segs
counted-few bytes segs direction few = omega (arith, few.within.segs, few.segs_few)

pub counted-idle : (direction : DirectionState) → IsIdle direction → counted_segments direction ≤ 0
counted-idle direction is = let none : direction.count ≡ 0 = ap (λ (d : DirectionState). d.count) is in omega (arith, none)

module _ (bytes segs : ℕ) where
  abbrev Few : DirectionState → Type 0
  Few direction = IsFew bytes segs direction

  -- ---- steps of a direction

  pub few-idle : (limits : Limits) (preference : Preference) → limits.bytes ≤ bytes → limits.segs ≤ segs → Few (idle limits preference)
  few-idle limits preference least most =
      let none : top (idle limits preference) ≡ first_place = covered_end-none first_place in
      record { within = record { bytes = omega (arith, none); segs = omega arith }; bytes_few = least; segs_few = most }

  few-started : (direction : DirectionState) (seq : ℕ) → Few direction → Few (started_at direction seq)
  few-started direction seq few =
      let none : top (started_at direction seq) ≡ first_place = covered_end-none first_place in
      record { within = record { bytes = omega (arith, none); segs = omega arith }; bytes_few = few.bytes_few; segs_few = few.segs_few }

  few-queued : (direction : DirectionState) (segment : Segment) → Few direction → fate_at direction (end_of segment) ≡ Queued → Few (with_segment direction segment)
  few-queued direction segment few is =
      let room = queued-room direction (end_of segment) is in
      let more : top (with_segment direction segment) ≡ max (top direction) (end_of segment) = covered_end-snoc direction.place direction.segments segment in
      record {
        within = record {
          bytes = omega (arith, more, few.within.bytes, room.within);
          segs = grind (arith, nat_tests, few.within.segs, room.slot);
        };
        bytes_few = few.bytes_few;
        segs_few = few.segs_few;
      }

  few-data : (direction : DirectionState) (seq : ℕ) (payload : List ℕ) → Few direction → Few (with_data direction seq payload)
  few-data direction seq payload few = by_fate (segment_fate direction seq payload) refl
    where
      by_fate : (fate : Added) → segment_fate direction seq payload ≡ fate → Few (after_fate fate direction seq payload)
      by_fate Queued is = few-queued direction (segment_at direction seq payload) few is
      by_fate Old is = few
      by_fate PastWindow is = few
      by_fate TooManySegs is = few

  -- a flush up to a place that is not beyond top
  few-flushed : (direction : DirectionState) (to : ℕ) → Few direction → direction.place ≤ to → to ≤ top direction → Few (flushed_to direction to)
  few-flushed direction to few from most =
      let raised : top (flushed_to direction to) ≡ max (top direction) to = covered_end-raised direction.place to direction.segments from in
      record {
        within = record { bytes = omega (arith, raised, most, from, few.within.bytes); segs = omega arith };
        bytes_few = few.bytes_few;
        segs_few = few.segs_few;
      }

  few-acked : (direction : DirectionState) (ack : ℕ) → Few direction → ack_flushes direction ack ≡ true → Few (flushed_to direction (ack_place direction ack))
  few-acked direction ack few is =
      let tests = and_parts direction.started (ltb direction.place (place_in direction ack) && leb direction.limits.flush (ack_place direction ack - direction.place)) is in
      let ahead = and_parts (ltb direction.place (place_in direction ack)) (leb direction.limits.flush (ack_place direction ack - direction.place)) tests.1 in
      let above = ltb-true direction.place (place_in direction ack) ahead.0 in
      let least = (covered_end-is_greatest direction.place direction.segments).from_floor in
      few-flushed direction (ack_place direction ack) few (omega (arith, above, least)) (omega arith)

  -- ---- steps of a side

  few-if : (b : Bool) (one other : DirectionState) → Few one → Few other → Few (cond b one other)
  few-if true one other h g = h
  few-if false one other h g = g

  few-met : (direction : DirectionState) (seq : ℕ) → Few direction → Few (started_by direction seq)
  few-met direction seq few = few-if direction.started direction (started_at direction seq) few (few-started direction seq few)

  pub side-data : (side : SessionSide) (seq : ℕ) (payload : List ℕ) → Few side.direction → Few (side_after_data side seq payload).direction
  unfolding side_after_data
  side-data side seq [] few = few
  side-data side seq (byte ∷ payload) few =
      few-if side.on (with_data (started_by side.direction seq) seq (byte ∷ payload)) side.direction
      (few-data (started_by side.direction seq) seq (byte ∷ payload) (few-met side.direction seq few)) few

  pub side-ack : (side : SessionSide) (ack : ℕ) → Few side.direction → Few (side_after_ack side ack).direction
  unfolding side_after_ack
  side-ack side ack few = by_flush (ack_flushes side.direction ack) refl
    where
      by_flush : (b : Bool) → ack_flushes side.direction ack ≡ b → Few (cond b (record side { direction = flushed_to side.direction (ack_place side.direction ack) }) side).direction
      by_flush true is = few-acked side.direction ack few is
      by_flush false is = few

  pub side-base : (side : SessionSide) (base : Option ℕ) → Few side.direction → Few (with_base side base).direction
  side-base side None few = few
  side-base side (Some seq) few = few-if side.since_begin (started_at side.direction seq) side.direction (few-started side.direction seq few) few

  pub side-left : (side : SessionSide) → Few side.direction → Few (without_left side).direction
  side-left side few = by_on side.on
    where
      by_on : (b : Bool) → Few (cond b side (record side { direction = idle side.direction.limits side.direction.preference })).direction
      by_on true = few
      by_on false = few-idle side.direction.limits side.direction.preference few.bytes_few few.segs_few

-- ---- a side that holds nothing

pub idle-left : (side : SessionSide) → IsIdle side.direction → IsIdle (without_left side).direction
idle-left side is = by_on side.on
  where
    by_on : (b : Bool) → IsIdle (cond b side (record side { direction = idle side.direction.limits side.direction.preference })).direction
    by_on true = is
    by_on false = refl

pub idle-base : (side : SessionSide) (base : Option ℕ) → base ≡ None → IsIdle side.direction → IsIdle (with_base side base).direction
idle-base side base none is = subst (λ (b : Option ℕ). IsIdle (with_base side b).direction) (sym none) is
