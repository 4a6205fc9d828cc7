-- How many bytes wait.
--
-- To try it on: trackers that hold 8 bytes at 0 and 8 bytes at 4 of one datagram hold 16.
use Rattle.std.specs.Prelude.{ℕ, length, sum_by}
use Rattle.std.specs.Map.{values_of}
use Rattle.overlap_core.specs.Segments.{Segment}
use Rattle.frag3_core.specs.Trackers.{Trackers, TrackerState}

-- the greatest place that a fragment may end at
abbrev pub longest : ℕ
longest = 65535

-- the bytes of the fragments of a tracker
abbrev pub tracker_bytes : TrackerState → ℕ
tracker_bytes t = sum_by (λ (segment : Segment). length segment.bytes) t.segments

-- the bytes of all fragments that trackers hold
abbrev pub held_bytes : Trackers → ℕ
held_bytes trackers = sum_by tracker_bytes (values_of trackers)
