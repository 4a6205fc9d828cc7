-- Which engine, which limits and which ports a side of a session goes by.
--
-- Data sent to an end are put together by that end's engine: its limits and its ports, and the end's
-- preference among segments that overlap (Snort Users Manual 2.9, section 2.2.3). An engine is named by its
-- place among those of the configuration; their number names the defaults.
-- To try it on: where no line gives an engine, the data that a client sends to port 80 are put together,
-- and those of its server are not.
use Rattle.std.specs.Prelude.{ℕ, Bool, false, List, Option, Some, None, if◌then◌else◌}
use Rattle.net_lists.specs.declared.part.ValueBounds.{ValueBounds}
use Rattle.net_lists.specs.declared.part.Part.{Part}
use Rattle.conf_types.specs.declared.config.StreamConfig.{StreamConfig}
use Rattle.conf_types.specs.declared.config.StreamEngine.{StreamEngine}
use Rattle.conf_types.specs.Defaults.{stream_engine_at}
use Rattle.net_lists.specs.Membership.{has_port}
use Rattle.stream5_reassembly.specs.declared.limits.Limits.{Limits}

-- what items are made by: the flush point, whether a packet whose data were queued is an item itself, and
-- the configuration of streams
pub record Making : Type 0 where
  pub flush : ℕ
  pub inserts : Bool
  pub stream : StreamConfig

-- the engine of this place
abbrev pub engine_for : Making → ℕ → StreamEngine
engine_for making place = stream_engine_at making.stream.engines place

-- the limits of data sent to an end of this engine
abbrev pub limits_to : Making → ℕ → Limits
limits_to making place = record {
  bytes = (engine_for making place).bytes_limit;
  segs = (engine_for making place).segs_limit;
  flush = making.flush;
}

-- the seconds from a packet to the next within one session, where its first packet went to an end of this engine
abbrev pub timeout_to : Making → Bool → ℕ → ℕ
timeout_to making tcp place = if tcp then (engine_for making place).timeout else making.stream.udp_timeout

-- the port is listed; no list has no port
abbrev pub is_listed : Option (List (Part (ValueBounds ℕ))) → ℕ → Bool
is_listed None port = false
is_listed (Some ports) port = has_port ports port
