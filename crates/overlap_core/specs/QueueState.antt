-- What a queue stands for, and its bytes.
use Rattle.std.specs.Prelude.{ℕ, List, [], ◌∷◌, ◌++◌, Option, None, nat_le, if◌then◌else◌}
use Rattle.edge_io.specs.declared.policy.Preference.{Preference}
use Rattle.overlap_core.specs.declared.segment.Bounds.{Bounds}
use Rattle.overlap_core.specs.Segments.{Segment}
use Rattle.overlap_core.specs.Overlap.{chosen_byte}

-- a floor, a preference, the segments in order of arrival, and the bounds of the one segment for which there is room
pub record QueueState : Type 0 where
  pub floor : ℕ
  pub preference : Preference
  pub segments : List Segment
  pub room : Option Bounds

-- the byte at a place: none below the floor, else the chosen one
abbrev pub byte_of : QueueState → ℕ → Option ℕ
byte_of queue place = if nat_le queue.floor place then chosen_byte queue.preference queue.segments place else None

-- the queue with room for this segment, or with none
abbrev pub with_room : QueueState → Option Bounds → QueueState
with_room queue room = record queue { room = room }

-- the queue with one more segment, and no room
abbrev pub with_segment : QueueState → Segment → QueueState
with_segment queue segment = record queue { segments = queue.segments ++ segment ∷ []; room = None }

-- the queue from a later floor on, with no room
abbrev pub from_floor : QueueState → ℕ → QueueState
from_floor queue floor = record queue { floor = floor; room = None }
