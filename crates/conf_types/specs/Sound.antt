-- When a configuration is sound: each number in it lies in its range, and nothing is more than its limit.
--
-- (Snort Users Manual 2.9, sections 2.1.3, 2.2.1 to 2.2.3, 2.4 and 3.4.6.)
-- To try it on: a stream engine that queues 0 bytes is not sound, since 0 in a line is read as 1073741824;
-- nor is a class of the priority 0.
use Rattle.std.specs.Prelude.{ℕ, ◌≤◌, List, length, IfSome, All}
use Rattle.conf_types.specs.declared.classes.Class.{Class}
use Rattle.conf_types.specs.declared.config.Config.{Config}
use Rattle.conf_types.specs.declared.config.FragConfig.{FragConfig}
use Rattle.conf_types.specs.declared.config.FragEngine.{FragEngine}
use Rattle.conf_types.specs.declared.config.QueueLimits.{QueueLimits}
use Rattle.conf_types.specs.declared.config.StreamConfig.{StreamConfig}
use Rattle.conf_types.specs.declared.config.StreamEngine.{StreamEngine}
use Rattle.conf_types.specs.declared.filter.EventFilter.{EventFilter}

-- a number from `least` to `most`
abbrev pub IsWithin : ℕ → ℕ → ℕ → Type 0
IsWithin least most number = (least ≤ number) × (number ≤ most)

-- a class of rules
pub record IsClass (class : Class) : Type 0 where
  pub priority : IsWithin 1 2147483647 class.priority

-- an engine of fragments
pub record IsFragEngine (engine : FragEngine) : Type 0 where
  pub timeout : IsWithin 1 3600 engine.timeout
  pub min_ttl : IsWithin 1 255 engine.min_ttl

-- what the frag3 lines give: an engine at least
pub record IsFragConfig (frag : FragConfig) : Type 0 where
  pub max_frags : IsWithin 1 1048576 frag.max_frags
  pub count : IsWithin 1 1024 (length frag.engines)
  pub engines : All IsFragEngine frag.engines

-- an engine of streams
pub record IsStreamEngine (engine : StreamEngine) : Type 0 where
  pub timeout : IsWithin 1 86400 engine.timeout
  pub handshake : IfSome engine.handshake (IsWithin 0 86400)
  pub bytes_limit : IsWithin 1024 1073741824 engine.bytes_limit
  pub segs_limit : IsWithin 2 1073741824 engine.segs_limit

-- what the stream5 lines give
pub record IsStreamConfig (stream : StreamConfig) : Type 0 where
  pub max_tcp : IsWithin 1 1048576 stream.max_tcp
  pub max_udp : IsWithin 1 1048576 stream.max_udp
  pub udp_timeout : IsWithin 1 86400 stream.udp_timeout
  pub count : length stream.engines ≤ 1024
  pub engines : All IsStreamEngine stream.engines

-- an event filter
pub record IsFilter (filter : EventFilter) : Type 0 where
  pub count : IsWithin 1 4294967295 filter.count
  pub seconds : IsWithin 1 4294967295 filter.seconds

-- how many events an item gives
pub record AreQueueLimits (queue : QueueLimits) : Type 0 where
  pub max_queue : IsWithin 1 1024 queue.max_queue
  pub log : IsWithin 1 1024 queue.log

-- a configuration
pub record IsSound (config : Config) : Type 0 where
  pub class_count : length config.classes ≤ 1024
  pub classes : All IsClass config.classes
  pub queue : AreQueueLimits config.queue
  pub frag : IfSome config.frag IsFragConfig
  pub stream : IsStreamConfig config.stream
  pub filter_count : length config.filters ≤ 1024
  pub filters : All IsFilter config.filters
  pub suppress_count : length config.suppress ≤ 1024
