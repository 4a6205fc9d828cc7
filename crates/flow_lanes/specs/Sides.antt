-- One side of a session: whether its data are put together, what of them is queued, and how far they reach.
--
-- Each side sends data to the other. While it is on, its data make a stretch: the segments that count are
-- queued, each whole, and flushed as they are acknowledged (stream5_reassembly specs/Segments, where
-- `segment_fate` says what becomes of a segment). A side is on from its session's begin where the ports of
-- the receiving end's engine say so (Snort Users Manual 2.9, section 2.2.3, `ports`), and is turned on and
-- off by rules (section 3.6, `stream_reassemble`). A stretch that begins with the session starts at the base
-- that the session's phases set; any other, and one for which they set none, at its first data.
-- To try it on: a side that is on from the begin, with the base 1, queues "ab" at 1; turned off, it leaves
-- "ab", and turned on again it starts anew at the next data, wherever they lie.
use Rattle.std.specs.Prelude.{ℕ, Bool, true, false, ◌&&◌, List, [], Option, Some, None, length, if◌then◌else◌}
use Rattle.edge_io.specs.declared.policy.Preference.{Preference}
use Rattle.stream5_sessions.specs.declared.key.End.{End}
use Rattle.stream5_reassembly.specs.declared.limits.Added.{Added}
use Rattle.stream5_reassembly.specs.declared.limits.Added.TheVariants.{Queued}
use Rattle.stream5_reassembly.specs.declared.limits.Limits.{Limits}
use Rattle.stream5_reassembly.specs.Extents.{extent_after, extent_from, unknown}
use Rattle.stream5_reassembly.specs.Segments.{DirectionState, ack_flushes, ack_place, after_fate, flushed_to, idle, segment_fate, started_at, top}
use Rattle.flow_lanes.specs.Streams.{flushed_payloads}
pub use Rattle.flow_lanes.specs.declared.side.SessionSide.{SessionSide}

-- a side at its session's begin
abbrev pub side_at_begin : End → End → Limits → Preference → Bool → SessionSide
side_at_begin from to limits preference on = record {
  from = from;
  to = to;
  on = on;
  since_begin = on;
  direction = idle limits preference;
  extent = unknown;
}

-- a packet sets the side's base, or sets none
abbrev pub with_base : SessionSide → Option ℕ → SessionSide
with_base side None = side
with_base side (Some seq) = record side {
  direction = (if side.since_begin then started_at side.direction seq else side.direction);
  extent = extent_from seq;
}

-- the direction that a segment meets: started at the segment, where no base is known
abbrev pub started_by : DirectionState → ℕ → DirectionState
started_by direction seq = if direction.started then direction else started_at direction seq

-- the direction after a segment, whatever becomes of that
abbrev pub with_data : DirectionState → ℕ → List ℕ → DirectionState
with_data direction seq bytes = after_fate (segment_fate direction seq bytes) direction seq bytes

-- the side's direction after data that count
abbrev pub direction_after_data : SessionSide → ℕ → List ℕ → DirectionState
direction_after_data side seq bytes = if side.on then with_data (started_by side.direction seq) seq bytes else side.direction

-- the side after data that count; no bytes are no data
unfoldable pub side_after_data : SessionSide → ℕ → List ℕ → SessionSide
side_after_data side seq [] = side
side_after_data side seq bytes = record side {
  direction = direction_after_data side seq bytes;
  extent = extent_after side.extent seq (length bytes);
}

-- a segment is held
abbrev pub is_held : Added → Bool
is_held Queued = true
is_held fate = false

-- data that count are queued
unfoldable pub queues : SessionSide → ℕ → List ℕ → Bool
queues side seq [] = false
queues side seq bytes = side.on && is_held (segment_fate (started_by side.direction seq) seq bytes)

-- what an acknowledgement of the side's data flushes
unfoldable pub acked_payloads : SessionSide → ℕ → List (List ℕ)
acked_payloads side ack =
    if ack_flushes side.direction ack then flushed_payloads side.direction (ack_place side.direction ack) else []

-- the side after an acknowledgement
unfoldable pub side_after_ack : SessionSide → ℕ → SessionSide
side_after_ack side ack =
    if ack_flushes side.direction ack
    then record side { direction = flushed_to side.direction (ack_place side.direction ack) }
    else side

-- all that is held
unfoldable pub held_payloads : SessionSide → List (List ℕ)
held_payloads side = flushed_payloads side.direction (top side.direction)

-- what is left of a stretch that was ended by turning the side off
abbrev pub left_payloads : SessionSide → List (List ℕ)
left_payloads side = if side.on then [] else held_payloads side

-- the side without it
abbrev pub without_left : SessionSide → SessionSide
without_left side = if side.on then side else record side { direction = idle side.direction.limits side.direction.preference }

-- the side turned on or off: a stretch that this begins did not begin with the session
abbrev pub turned : Bool → SessionSide → SessionSide
turned on side = record side { on = on; since_begin = side.since_begin && on }
