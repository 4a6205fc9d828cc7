-- What holds of every list of trackers that the code keeps.
use Rattle.std.specs.Prelude.{◌<◌, All, length}
use Rattle.std.specs.List.{IsDistinct}
use Rattle.std.specs.Map.{keys_of, values_of}
use Rattle.frag3_core.specs.Trackers.{TrackerState, Trackers, same_key}

-- no tracker is without a fragment, and no two have one key
pub record AreTrackers (trackers : Trackers) : Type 0 where
  pub some : All (λ (t : TrackerState). 0 < length t.segments) (values_of trackers)
  pub apart : IsDistinct same_key (keys_of trackers)
