-- The most that all lanes may hold of streams, by the configuration.
--
-- To try it on: with `max_tcp 1000` and one line `stream5_tcp: max_queued_bytes 65536` all lanes together hold at most
-- 131,072,000 bytes, of whatever flows.
use Rattle.std.specs.Prelude.{◌≡◌, ℕ, ◌*◌, ◌<◌, List, [], ◌∷◌, max, is_none, if◌then◌else◌}
use Rattle.std.specs.List.{list_any}
use Rattle.edge_io.specs.Along.{trail}
use Rattle.conf_types.specs.declared.config.StreamConfig.{StreamConfig}
use Rattle.conf_types.specs.declared.config.StreamEngine.{StreamEngine}
use Rattle.conf_types.specs.Defaults.{default_stream_engine}
use Rattle.flow_lanes.specs.Flows.{Detection}
use Rattle.flow_lanes.specs.LanesAfter.{AreAfter, LanesState}
use Rattle.record_jobs.specs.Jobs.{jobs}
use Rattle.record_jobs.specs.Way.{LinkedRecord, Way}

-- the engines that a side can go by: the defaults are among them, unless a line is for all hosts
abbrev pub engines_used : List StreamEngine → List StreamEngine
engines_used engines =
    if list_any (λ (e : StreamEngine). is_none e.bind) engines then engines else default_stream_engine ∷ engines

-- the greatest limit of these engines
abbrev pub greatest : (StreamEngine → ℕ) → List StreamEngine → ℕ
greatest limit [] = 0
greatest limit (engine ∷ engines) = max (limit engine) (greatest limit engines)

-- the most of both sides of all flows of TCP that may live
abbrev pub most_held : (StreamEngine → ℕ) → StreamConfig → ℕ
most_held limit stream = stream.max_tcp * (2 * greatest limit (engines_used stream.engines))

-- lanes stand for the jobs of these records, by a configuration under which flows may live
pub record KeepStreams (way : Way) (d : Detection) (records : List LinkedRecord) (lanes : LanesState) : Type 0 where
  pub stream : d.making.stream ≡ way.stream
  pub tcp : 0 < way.stream.max_tcp
  pub udp : 0 < way.stream.max_udp
  pub hold : AreAfter d lanes (trail (jobs way) records)
