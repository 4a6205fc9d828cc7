-- How a queue keeps what it stands for.
use Rattle.std.specs.Prelude.{◌≡◌, ℕ, ◌<◌}
use Rattle.std.specs.Option.{ForSome, option_map}
use Rattle.piece_list.specs.Pieces.{Pieces}
use Rattle.overlap_core.specs.declared.queue.Room.{Room}
use Rattle.overlap_core.specs.declared.queue.Queue.TheInside.{Inside}
use Rattle.overlap_core.specs.Overlap.{covered_end}
use Rattle.overlap_core.specs.Pieces.{HoldChosen, IsRow, Piece}
use Rattle.overlap_core.specs.Rows.{IsRoomFor}
use Rattle.overlap_core.specs.QueueState.{QueueState}

-- the memory is there for a segment of these bounds
pub record IsRoom (floor top : ℕ) (pieces : Pieces Piece) (room : Room) : Type 0 where
  pub some : room.bounds.start < room.bounds.end
  pub ready : IsRoomFor floor top room.bounds pieces room.buffers

-- the pieces are in order and hold what is chosen, the greatest end is kept beside them, and where there
-- is room, its memory is there
pub record IsSound (queue : Inside) : Type 0 where
  pub row : IsRow queue.floor queue.pieces.list queue.top
  pub holds : HoldChosen queue.preference queue.arrivals.segments queue.floor queue.pieces.list
  pub top : queue.top ≡ covered_end queue.floor queue.arrivals.segments
  pub room : ForSome queue.room (IsRoom queue.floor queue.top queue.pieces)

abbrev pub state_of : Inside → QueueState
state_of queue = record {
  floor = queue.floor;
  preference = queue.preference;
  segments = queue.arrivals.segments;
  room = option_map (λ (room : Room). room.bounds) queue.room;
}
