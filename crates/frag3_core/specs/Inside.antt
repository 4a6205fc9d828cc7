-- How the code's structs keep what they stand for.
use Rattle.std.specs.Prelude.{◌≡◌, ℕ, ◌-◌, ◌^◌, ◌≤◌, List, length, min, sum_by}
use Rattle.std.specs.Option.{ForSome}
use Rattle.overlap_core.specs.Segments.{Segment}
use Rattle.frag3_core.specs.declared.tracker.Tracker.TheInside.{Inside as TrackerInside}
use Rattle.frag3_core.specs.declared.trackers.TrackerCache.TheInside.{Inside as CacheInside}
use Rattle.frag3_core.specs.Sound.{AreTrackers}
use Rattle.frag3_core.specs.Trackers.{TrackerState, Trackers, held_count}

-- how many bytes fragments have together
abbrev pub byte_count : List Segment → ℕ
byte_count segments = sum_by (λ (s : Segment). length s.bytes) segments

-- the queue begins at place 0 and has no room, and the counts are those of its segments; that of the
-- bytes may be at its type's end; a length is that of a datagram
pub record IsTracker (tracker : TrackerInside) : Type 0 where
  pub floor : tracker.queue.floor ≡ 0
  pub frags : tracker.frags ≡ length tracker.queue.segments
  pub bytes : min (byte_count tracker.queue.segments) (2 ^ 64 - 1) ≤ tracker.bytes
  pub end : ForSome tracker.end (λ end. end ≤ 65535)

abbrev pub tracker_of : TrackerInside → TrackerState
tracker_of tracker = record {
  preference = tracker.queue.preference;
  timeout = tracker.timeout;
  first = tracker.first.nanos;
  end = tracker.end;
  segments = tracker.queue.segments;
}

-- the counter of fragments is theirs, and the cache drops none by itself
pub record IsCache (cache : CacheInside) : Type 0 where
  pub held : cache.held ≡ held_count cache.cache.entries
  pub room : cache.cache.cap ≡ 2 ^ 64 - 1
  pub trackers : AreTrackers cache.cache.entries

abbrev pub trackers_of : CacheInside → Trackers
trackers_of cache = cache.cache.entries
