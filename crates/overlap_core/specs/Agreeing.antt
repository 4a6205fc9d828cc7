-- Segments that agree: parts of one stream, however it is cut, sent again, or overlaps.
--
-- "abc" at 0, "cd" at 2 and "bcd" at 1 agree; "cd" at 2 and "cx" at 2 don't.
use Rattle.std.specs.Prelude.{◌≡◌, ℕ, List, IsTrue}
use Rattle.std.specs.List.{Contains}
use Rattle.overlap_core.specs.Segments.{Segment}
use Rattle.overlap_core.specs.Overlap.{byte_at, covers}

-- any two have the same byte at each place that both cover
abbrev pub SegmentsAgree : List Segment → Type 0
SegmentsAgree segments = (one other : Segment) (place : ℕ) → Contains segments one → Contains segments other
    → IsTrue (covers one place) → IsTrue (covers other place) → byte_at place one ≡ byte_at place other
