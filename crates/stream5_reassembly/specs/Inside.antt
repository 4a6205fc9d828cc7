-- How a direction and an extent keep what they stand for.
use Rattle.std.specs.Prelude.{◌≡◌, ◌<◌, ◌≤◌, ◌^◌, false}
use Rattle.stream5_reassembly.specs.declared.direction.Direction.TheInside.{Inside}
use Rattle.stream5_reassembly.specs.declared.extent.Extent.TheInside.{Inside as ExtentInside}
use Rattle.stream5_reassembly.specs.Extents.{ExtentState}
use Rattle.stream5_reassembly.specs.Segments.{AreLimits, DirectionState, first_place, idle, IsWithinLimits, top}

-- what holds of every direction
pub record IsKept (direction : DirectionState) : Type 0 where
  pub limits : AreLimits direction.limits
  pub within : IsWithinLimits direction
  pub from_first : first_place ≤ direction.place
  pub base : direction.base < 2 ^ 32
  pub held : 0 < direction.count → direction.place < top direction
  pub nothing : direction.started ≡ false → direction ≡ idle direction.limits direction.preference

abbrev pub state_of : Inside → DirectionState
state_of direction = record {
  limits = direction.limits;
  preference = direction.preference;
  started = direction.started;
  base = direction.base;
  place = direction.queue.floor;
  segments = direction.queue.segments;
  count = direction.count;
}

-- the queue chooses bytes by the direction's preference
pub record IsSound (direction : Inside) : Type 0 where
  pub preference : direction.queue.preference ≡ direction.preference
  pub kept : IsKept (state_of direction)

abbrev pub extent_of : ExtentInside → ExtentState
extent_of extent = record { next = extent.next; size = extent.size }
