-- A sound configuration has the limits of each engine in their ranges, as the engine without settings has, and the flush
-- point is at least 1: the lemma `limits-are`.
use Rattle.flow_lanes.specs.Given.{making_of}
use Rattle.flow_lanes.proofs.Engines.LimitsTo.{limits-are}
use Rattle.flow_lanes.proofs.settings.LaneSettings.limits_to.Goals as goal

pub returns-clause-sound : goal.returns-clause-sound
returns-clause-sound c =
    let are = limits-are (making_of c.args.self.now) c.args.place c.args.self.now.least c.args.self.now.config in
    let engine = c.settings_at-engine.ensures in
    record {
      bytes_least = rw engine.bytes are.bytes_least;
      bytes_most = rw engine.bytes are.bytes_most;
      segs_least = rw engine.segs are.segs_least;
      flush_least = are.flush_least;
    }
