-- How a `Frag3` keeps what it stands for.
use Rattle.std.specs.Prelude.{◌<◌, ◌≤◌, [], unwrap_or}
use Rattle.frag3_core.specs.declared.frag3.Frag3.TheInside.{Inside}
use Rattle.frag3_core.specs.Trackers.{Frag3State, held_count}

-- room for one at least, and no more fragments than there may be
pub record IsFrag3 (frag3 : Inside) : Type 0 where
  pub some : 0 < frag3.max_frags
  pub few : held_count (unwrap_or frag3.trackers []) ≤ frag3.max_frags

abbrev pub frag3_of : Inside → Frag3State
frag3_of frag3 = record { max_frags = frag3.max_frags; trackers = unwrap_or frag3.trackers [] }
