-- Which byte a receiving host keeps where segments overlap.
--
-- The rows are those of Judy Novak, "Target-Based Fragmentation Reassembly" (2005), and, for stream
-- segments, Novak and Sturges, "Target-Based TCP Stream Reassembly" (2007), as this project reads
-- them; that the whole bounds of both segments are compared, however little of the older one is
-- left, is this project's own reading where three or more overlap.
-- To try it on: "aaaa" at 0, then "bbbb" at 2, then "cccc" at 0 give `ccccbb` under Linux, and
-- `aaaabb` under Bsd.
use Rattle.std.specs.Prelude.{◌≡◌, ℕ, ◌+◌, ◌-◌, ◌≤◌, ◌⊎◌, Bool, true, false, ◌&&◌, List, [], ◌∷◌, Option, Some, None, All, Any, nat_lt, nat_le, max, length, filter, fold, slice_index, if◌then◌else◌}
use Rattle.std.specs.List.{list_any}
use Rattle.std.specs.Option.{option_map}
use Rattle.edge_io.specs.declared.policy.Preference.{Preference}
use Rattle.edge_io.specs.declared.policy.Preference.TheVariants.{First, Last, Bsd, BsdRight, Linux, Windows, Solaris}
use Rattle.overlap_core.specs.declared.segment.Bounds.{Bounds}
use Rattle.overlap_core.specs.Segments.{Segment}

-- the overlap table: the new segment is taken, by the whole bounds of both
abbrev pub wins : Preference → Bounds → Bounds → Bool
wins First old new = false
wins Last old new = true
wins Bsd old new = nat_lt new.start old.start
wins BsdRight old new = nat_le old.start new.start
wins Linux old new = nat_le new.start old.start
wins Windows old new = nat_lt new.start old.start && nat_lt old.end new.end
wins Solaris old new = nat_lt new.start old.start && nat_le old.end new.end

-- the place after a segment's last byte
abbrev pub end_of : Segment → ℕ
end_of segment = segment.start + length segment.bytes

-- a segment's whole bounds
abbrev pub bounds_of : Segment → Bounds
bounds_of segment = record { start = segment.start; end = end_of segment }

-- the segment has a byte at the place
abbrev pub covers : Segment → ℕ → Bool
covers segment place = nat_le segment.start place && nat_lt place (end_of segment)

-- the segment's byte at a place that it covers
abbrev pub byte_at : ℕ → Segment → ℕ
byte_at place segment = slice_index segment.bytes (place - segment.start)

-- the one of two segments that is kept where both cover a place: the older, unless the newer wins
abbrev pub stronger : Preference → Segment → Segment → Segment
stronger preference old new = if wins preference (bounds_of old) (bounds_of new) then new else old

-- of segments in order of arrival, the one that is kept: the first, until a later one takes its place
abbrev pub winner : Preference → List Segment → Option Segment
winner preference [] = None
winner preference (first ∷ later) = Some (fold (stronger preference) first later)

-- of the segments that cover the place, the one that is kept there
unfoldable pub chosen_segment : Preference → List Segment → ℕ → Option Segment
chosen_segment preference segments place = winner preference (filter (λ segment. covers segment place) segments)

-- the byte that the host keeps at the place, if a segment covers it
unfoldable pub chosen_byte : Preference → List Segment → ℕ → Option ℕ
chosen_byte preference segments place = option_map (byte_at place) (chosen_segment preference segments place)

-- some segment covers the place
abbrev pub is_covered : List Segment → ℕ → Bool
is_covered segments place = list_any (λ segment. covers segment place) segments

-- the greatest end of the segments, or the floor where that is larger
unfoldable pub covered_end : ℕ → List Segment → ℕ
covered_end floor segments = fold (λ most segment. max most (end_of segment)) floor segments

-- what a covered end is: neither the floor nor an end is larger, and it is one of them
pub record IsCoveredEnd (floor : ℕ) (segments : List Segment) (place : ℕ) : Type 0 where
  pub from_floor : floor ≤ place
  pub from_ends : All (λ segment. end_of segment ≤ place) segments
  pub reached : (place ≡ floor) ⊎ Any (λ segment. end_of segment ≡ place) segments
