-- What one direction of a stream stands for: which segments are queued, and what a flush gives.
--
-- A receiver queues data ahead of what it has acknowledged (RFC 9293, sections 3.4 and 3.8). How much
-- is queued is limited as by `max_queued_bytes` and `max_queued_segs` of the stream5 preprocessor
-- (Snort 2.9 manual, section 2.2); when the queued bytes are flushed is this project's own rule.
--
-- Places are natural numbers. The base is at place 2^31 when the direction starts, so that a
-- segment which begins before it, by at most 2^31, has places as well; the base only moves forward.
-- To try it on: with 1024 bytes, 2 segments and the flush point 1024, started at 0: "a" at 0 is
-- Queued, "b" at 1024 PastWindow, "c" at 1023 Queued, "d" at 5 TooManySegs. An acknowledgement at
-- 5000 counts as 1024 and flushes "a" at 0 and "c" at 1023; then "a" at 0 is Old.
use Rattle.std.specs.Prelude.{◌≡◌, ℕ, ◌+◌, ◌-◌, ◌^◌, ◌≤◌, ◌==◌, Bool, true, false, ◌&&◌, List, [], ◌∷◌, ◌++◌, Option, nat_lt, nat_le, min, length, if◌then◌else◌}
use Rattle.edge_io.specs.declared.policy.Preference.{Preference}
use Rattle.overlap_core.specs.declared.segment.Run.{Run}
use Rattle.overlap_core.specs.Segments.{Segment}
use Rattle.overlap_core.specs.Overlap.{chosen_byte, covered_end}
use Rattle.overlap_core.specs.Runs.{AppendsRuns}
use Rattle.stream5_reassembly.specs.declared.limits.Added.{Added}
use Rattle.stream5_reassembly.specs.declared.limits.Added.TheVariants.{Queued, Old, PastWindow, TooManySegs}
use Rattle.stream5_reassembly.specs.declared.limits.Limits.{Limits}
use Rattle.stream5_reassembly.specs.Sequence.{place_of, seq_after}

-- the limits are in their ranges
pub record AreLimits (limits : Limits) : Type 0 where
  pub bytes_least : 1024 ≤ limits.bytes
  pub bytes_most : limits.bytes ≤ 2 ^ 30
  pub segs_least : 2 ≤ limits.segs
  pub flush_least : 1 ≤ limits.flush

-- limits, a preference, whether it is started, the base's sequence number and place, the segments
-- queued since the start, whole, in order of arrival, and how many of them since the last flush
pub record DirectionState : Type 0 where
  pub limits : Limits
  pub preference : Preference
  pub started : Bool
  pub base : ℕ
  pub place : ℕ
  pub segments : List Segment
  pub count : ℕ

-- where the base is at the start
abbrev pub first_place : ℕ
first_place = 2 ^ 31

-- a direction that is not started: it holds nothing
abbrev pub idle : Limits → Preference → DirectionState
idle limits preference = record {
  limits = limits;
  preference = preference;
  started = false;
  base = 0;
  place = first_place;
  segments = [];
  count = 0;
}

-- the direction started at a sequence number, with nothing held
abbrev pub started_at : DirectionState → ℕ → DirectionState
started_at direction seq = record (idle direction.limits direction.preference) { started = true; base = seq }

-- how many places the base has moved since the start
abbrev pub passed : DirectionState → ℕ
passed direction = direction.place - first_place

-- the place of a sequence number
abbrev pub place_in : DirectionState → ℕ → ℕ
place_in direction seq = place_of direction.place direction.base seq

-- the segment of these bytes, whose first has this sequence number
abbrev pub segment_at : DirectionState → ℕ → List ℕ → Segment
segment_at direction seq bytes = record { start = place_in direction seq; bytes = bytes }

-- what becomes of a segment that ends at this place: the first of these that holds
abbrev pub fate_at : DirectionState → ℕ → Added
fate_at direction end =
    if nat_le end direction.place then Old
    else if nat_lt direction.limits.bytes (end - direction.place) then PastWindow
    else if direction.count == direction.limits.segs then TooManySegs
    else Queued

-- what becomes of these bytes, whose first has this sequence number
abbrev pub segment_fate : DirectionState → ℕ → List ℕ → Added
segment_fate direction seq bytes = fate_at direction (place_in direction seq + length bytes)

-- the direction with one more segment
abbrev pub with_segment : DirectionState → Segment → DirectionState
with_segment direction segment = record direction {
  segments = direction.segments ++ segment ∷ [];
  count = direction.count + 1;
}

-- the direction once these bytes have come and had this fate
abbrev pub after_fate : Added → DirectionState → ℕ → List ℕ → DirectionState
after_fate Queued direction seq bytes = with_segment direction (segment_at direction seq bytes)
after_fate Old direction seq bytes = direction
after_fate PastWindow direction seq bytes = direction
after_fate TooManySegs direction seq bytes = direction

-- the greatest end of a queued segment, or the base
abbrev pub top : DirectionState → ℕ
top direction = covered_end direction.place direction.segments

-- the byte that the receiving host keeps `place` places past the base, if one is queued there
abbrev pub flushed_bytes : DirectionState → ℕ → Option ℕ
flushed_bytes direction place = chosen_byte direction.preference direction.segments (direction.place + place)

-- the direction once this place is its base: the count of segments begins anew
abbrev pub flushed_to : DirectionState → ℕ → DirectionState
flushed_to direction to = record direction {
  base = seq_after direction.base (to - direction.place);
  place = to;
  count = 0;
}

-- the maximal runs of bytes from the base on and below a place, counted from the base, are appended
abbrev pub AppendsFlushed : DirectionState → ℕ → List Run → List Run → Type 0
AppendsFlushed direction to old new = AppendsRuns (flushed_bytes direction) 0 (to - direction.place) old new

-- all below a place is flushed, and it is the base
pub record Flushes (old new : DirectionState) (to : ℕ) (runs_old runs_new : List Run) : Type 0 where
  pub runs : AppendsFlushed old to runs_old runs_new
  pub state : new ≡ flushed_to old to

-- the direction and the runs are as they were
pub record Stays (old new : DirectionState) (runs_old runs_new : List Run) : Type 0 where
  pub runs : runs_new ≡ runs_old
  pub state : new ≡ old

-- the place as which an acknowledgement counts: the smaller of its own and top
abbrev pub ack_place : DirectionState → ℕ → ℕ
ack_place direction ack = min (place_in direction ack) (top direction)

-- an acknowledgement flushes: it lies above the base, and what it acknowledges reaches the flush point
abbrev pub ack_flushes : DirectionState → ℕ → Bool
ack_flushes direction ack =
    direction.started
    && (nat_lt direction.place (place_in direction ack)
    && nat_le direction.limits.flush (ack_place direction ack - direction.place))

-- what a direction holds is bounded by its limits
pub record IsWithinLimits (direction : DirectionState) : Type 0 where
  pub bytes : top direction - direction.place ≤ direction.limits.bytes
  pub segs : direction.count ≤ direction.limits.segs
